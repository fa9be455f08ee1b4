-- The words of the program and their forms.
use Rattle.std.proofs.Common.{codes, rules, ◌≡◌, ◌≢◌, ℕ, ◌+◌, ◌-◌, ◌<◌, ◌≤◌, zero, suc, List, [], ◌∷◌, ◌++◌, length}
use Rattle.std.proofs.Common.{take, drop, get_or, All, Option, MatchOption, Result, IfOk, refl, sym, ap, ◌∙◌, subst}
use Rattle.std.proofs.Common.{arith, length-drop, add-one}
use Rattle.std.specs.Borrow.{Bor}
use Rattle.std.specs.List.{AllZip}
use Rattle.std.specs.Str.{chars}
use Rattle.std.proofs.lemmas.List.{take_all, take_more, take-append-drop}
use Rattle.std.proofs.lemmas.List.Elements.{All-head, All-tail}
use Rattle.std.proofs.Math.Seq.{drop-cons}
use Rattle.virtiofs_map.specs.Numeral.{IsNumeral}
use Rattle.virtiofs_map.specs.declared.soft_idmap.entry.Direction.{Direction}
use Rattle.virtiofs_map.proofs.ForCallers.{AllZip-push}
use Rattle.virtiofs_mapcheck.specs.Words.{words_of, ask, query_front, Asks, IsIds, HasNoForm}
use Rattle.virtiofs_mapcheck.specs.WordsParts.{IsCutAtAsk}
use Rattle.virtiofs_mapcheck.specs.declared.words.Query.{Query}

-- a query begins with the word of one direction
query_front-one : (numeral other : List ℕ) (direction other_way : Direction)
    → query_front direction ++ numeral ≡ query_front other_way ++ other → (direction ≡ other_way) × (numeral ≡ other)
query_front-one numeral other direction other_way same = search rules

pub Asks-unread : (word numeral : List ℕ) (direction : Direction) (query : Query)
    → word ≡ query_front direction ++ numeral → ((number : ℕ) → IsNumeral (chars numeral) number → ⊥) → Asks word query
    → ⊥
Asks-unread word numeral direction query front none asks =
    let (other_way, same) = query_front-one numeral asks.numeral direction query.direction (sym front ∙ asks.whole) in
    none query.number (subst (λ (xs : List ℕ). IsNumeral (chars xs) query.number) (sym same) asks.number)

pub Asks-one : (word : List ℕ) (query other : Query) → Asks word query → Asks word other → query ≡ other
Asks-one word query other first second = search rules

words_of-append : (xs ys : List (Bor (List ℕ))) → words_of (xs ++ ys) ≡ words_of xs ++ words_of ys
words_of-append [] ys = refl
words_of-append (x ∷ xs) ys = ap (λ (zs : List (List ℕ)). x.now ∷ zs) (words_of-append xs ys)

-- the words are cut where `ask` stands
pub IsCutAtAsk-here : (words : List (Bor (List ℕ))) (i : ℕ) (d : Bor (List ℕ)) → i < length words
    → (get_or words i d).now ≡ ask → All (λ word. word ≢ ask) (words_of (take i words))
    → IsCutAtAsk (words_of words) (words_of (take i words))
    (words_of (take (length words - (i + 1)) (drop (i + 1) words)))
IsCutAtAsk-here words i d below here first =
    let rest : take (length words - (i + 1)) (drop (i + 1) words) ≡ drop (i + 1) words =
    take_all _ _ (omega (arith, length-drop (i + 1) words)) in
    let cell : drop i words ≡ get_or words i d ∷ drop (i + 1) words = rw add-one (drop-cons words i d below) in
    let whole : words ≡ take i words ++ get_or words i d ∷ drop (i + 1) words = sym (take-append-drop i words)
    ∙ ap (λ (xs : List (Bor (List ℕ))). take i words ++ xs) cell in
    rw rest (search (rules, words_of-append))

-- words that are none of them `ask`
pub All-words : (words : List (Bor (List ℕ))) (i : ℕ) → length words ≤ i
    → All (λ word. word ≢ ask) (words_of (take i words)) → All (λ word. word ≢ ask) (words_of words)
All-words words i past all = search (rules, take_all)

-- the words so far and one more
pub AllZip-more : (words : List (Bor (List ℕ))) (i : ℕ) (d : Bor (List ℕ)) (queries : List Query) (query : Query)
    → i < length words → AllZip Asks (words_of (take i words)) queries → Asks (get_or words i d).now query
    → AllZip Asks (words_of (take (i + 1) words)) (queries ++ query ∷ [])
AllZip-more words i d queries query below so_far asks =
    rw (take_more words i d below, words_of-append (take i words) (get_or words i d ∷ []))
    (AllZip-push Asks (words_of (take i words)) queries (get_or words i d).now query so_far asks)

-- words that each were read
pub ruleset all_queries = (AllZip-more, take_all)

-- a word that is no query, among words that each are one
pub AllZip-unread : (words : List (Bor (List ℕ))) (i : ℕ) (d : Bor (List ℕ)) (queries : List Query) → i < length words
    → ((query : Query) → Asks (get_or words i d).now query → ⊥) → AllZip Asks (words_of words) queries → ⊥
AllZip-unread [] i d queries below none all = absurd (omega arith)
AllZip-unread (w ∷ words) i d [] below none all = all
AllZip-unread (w ∷ words) zero d (q ∷ queries) below none all = none q all.0
AllZip-unread (w ∷ words) (suc i) d (q ∷ queries) below none all =
    AllZip-unread words i d queries (omega arith) none all.1

-- the first `ask` is one place
pub same_cut : (front other back after : List (List ℕ)) → front ++ ask ∷ back ≡ other ++ ask ∷ after
    → All (λ word. word ≢ ask) front → All (λ word. word ≢ ask) other → (front ≡ other) × (back ≡ after)
same_cut [] [] back after same first second = (refl, cc)
same_cut [] (w ∷ other) back after same first second = search (rules, All-head)
same_cut (w ∷ front) [] back after same first second = search (rules, All-head)
same_cut (w ∷ front) (v ∷ other) back after same first second =
    let tail : front ++ ask ∷ back ≡ other ++ ask ∷ after = cc in
    let (fronts, backs) =
    same_cut front other back after tail (All-tail (λ word. word ≢ ask) w front first)
    (All-tail (λ word. word ≢ ask) v other second) in
    (cc, backs)

-- words in which `ask` stands
has_ask : (front back : List (List ℕ)) → All (λ word. word ≢ ask) (front ++ ask ∷ back) → ⊥
has_ask [] back all = All-head (λ word. word ≢ ask) ask back all refl
has_ask (w ∷ front) back all = has_ask front back (All-tail (λ word. word ≢ ask) w (front ++ ask ∷ back) all)

-- words after `ids` that hold no `ask`
pub unasked : (others specs : List (List ℕ)) (queries : List Query) → All (λ word. word ≢ ask) others
    → IsIds (codes "ids" ∷ others) specs queries → ⊥
unasked others specs queries none form = search (rules, has_ask)

-- words after `ids`, where those after the first `ask` are not queries
pub no_queries : (others front back specs : List (List ℕ)) (queries : List Query) → IsCutAtAsk others front back
    → (0 < length back → AllZip Asks back queries → ⊥) → IsIds (codes "ids" ∷ others) specs queries → ⊥
no_queries others front back specs queries cut none form = search (rules, same_cut)

-- words after `ids` that are those of no such form
pub no_ids : (others : List (List ℕ))
    → ((specs : List (List ℕ)) (queries : List Query) → IsIds (codes "ids" ∷ others) specs queries → ⊥)
    → HasNoForm (codes "ids" ∷ others)
no_ids others none form has = search rules
