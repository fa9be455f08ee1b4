-- Names whose host name another map reaches too, and what the code tests of them.
use Rattle.std.proofs.Common.{◌≡◌, ◌≢◌, ℕ, ◌<◌, ◌≤◌, true, List, [], ◌∷◌, ◌++◌, length, take, drop, Contains, ◌↔◌}
use Rattle.std.proofs.Common.{Some, refl, sym, ap, ◌∙◌, subst, arith, rules}
use Rattle.std.specs.Option.{option_map, option_and_then}
use Rattle.std.proofs.lemmas.Bool.{and_parts, and_from}
use Rattle.std.proofs.lemmas.List.{append_assoc, append_cancel_right, drop_at, length-append, take-append-drop}
use Rattle.std.proofs.lemmas.List.Elements.{All-drop}
use Rattle.virtiofs_map.specs.Audit.{Reached, SharesNoName, IsShared}
use Rattle.virtiofs_map.specs.AuditParts.{added_prefix, PutsAt, added_prefix_of, part_of, parts}
use Rattle.virtiofs_map.specs.MapRule.{IsName}
use Rattle.virtiofs_map.specs.Names.{begins, Passes, client_answer}
use Rattle.virtiofs_map.specs.Rule.{MappingRule}
use Rattle.virtiofs_map.specs.declared.audit.gathered.Part.TheVariants.{Passed}
use Rattle.virtiofs_map.specs.declared.xattrmap.scopes.Side.TheVariants.{Client}
use Rattle.virtiofs_map.proofs.AuditAlikeLemmas.{front_is_name, begins-append_both, begins_less, decides_front}
use Rattle.virtiofs_map.proofs.AuditAlikeLemmas.{decides_among, part_among}
use Rattle.virtiofs_map.proofs.AuditAddedLemmas.{passes_added, added_passes, adds_by}
use Rattle.virtiofs_map.proofs.audit.AuditPassLemmas.{host_is}
use Rattle.virtiofs_map.proofs.BeginsLemmas.{begins_split, begins-append}

-- ---- reached

-- what is left of a host name passes as it, where the first part is what is put before that
pub puts_at : (rules : List MappingRule) (host added : List ℕ) (at : ℕ)
    → added_prefix Client rules (drop at host) ≡ Some added → (PutsAt rules host at) ↔ (added ≡ take at host)
puts_at rules host added at e =
    let rest = drop at host in
    let whole = take-append-drop at host in (
      λ puts. append_cancel_right added (take at host) rest (sym (host_is rules rest host added puts e) ∙ sym whole),
      λ same. added_passes rules rest added e ∙ ap Passes (ap (λ front. front ++ rest) same ∙ whole),
    )

pub reached_at : (rules : List MappingRule) (host : List ℕ) → IsName host → host ≢ []
    → ((at : ℕ) × (at ≤ length host) × PutsAt rules host at) ↔ Reached rules host
reached_at rules host is some = (
  λ (at, within, puts). record {
    is_host = is;
    not_empty = some;
    name = drop at host;
    is_name = All-drop (λ byte. (0 < byte) × (byte < 256)) at host is;
    passes = puts;
  },
  λ reached.
      (let by = passes_added rules reached.name host reached.passes in
      let rest : drop (length by.added) host ≡ reached.name =
      ap (drop (length by.added)) by.host_is ∙ drop_at by.added reached.name (length by.added) refl in (
        length by.added,
        omega (arith, ap length by.host_is, length-append by.added reached.name),
        ap (client_answer rules) rest ∙ reached.passes,
      )),
)

-- what is reached, and is no pattern, is reached without its last byte
pub reached_less : (rules : List MappingRule) (front : List ℕ) (last : ℕ) → front ≢ []
    → ¬ Contains (parts Passed rules) (front ++ last ∷ []) → Reached rules (front ++ last ∷ []) → Reached rules front
reached_less rules front last some none reached =
    let host = front ++ last ∷ [] in
    let by = passes_added rules reached.name host reached.passes in
    let added = by.added in
    let adds = adds_by _ added by.is in
    let rule = adds.rule in
    let (among, fits) = decides_among Client rules reached.name rule adds.decides in
    let fit = and_parts rule.client (begins rule.key reached.name) fits in
    let begun : begins (added ++ rule.key) host ≡ true =
    ap (begins (added ++ rule.key)) by.host_is ∙ begins-append_both added rule.key reached.name ∙ fit.1 in
    let less : begins (added ++ rule.key) front ≡ true =
    sym (begins_less (added ++ rule.key) front last
    (λ same. none (part_among (part_of Passed) rules rule host among
    (rw fit.0 (ap (option_map (λ a. a ++ rule.key)) adds.puts ∙ ap Some same))))) ∙ begun in
    let rest = drop (length (added ++ rule.key)) front in
    let name = rule.key ++ rest in
    let left : front ≡ added ++ name =
    begins_split (added ++ rule.key) front less ∙ append_assoc added rule.key rest in
    let shorter : begins name reached.name ≡ true =
    sym (begins-append_both added name reached.name) ∙ ap (begins (added ++ name)) (sym by.host_is)
    ∙ ap (λ front. begins front host) (sym left) ∙ begins-append front (last ∷ []) in
    let again = and_from rule.client (begins rule.key name) fit.0 (begins-append rule.key rest) in
    record {
      is_host = front_is_name front host (begins-append front (last ∷ [])) reached.is_host;
      not_empty = some;
      name = name;
      is_name = front_is_name name reached.name shorter reached.is_name;
      passes = added_passes rules name added
          (ap (option_and_then added_prefix_of)
          (decides_front Client rules name reached.name rule shorter adds.decides again) ∙ adds.puts)
          ∙ ap Passes (sym left);
    }

pub shared_as : (rules others : List MappingRule) (name added : List ℕ) → IsName name
    → added_prefix Client rules name ≡ Some added → IsShared rules others name ↔ Reached others (added ++ name)
shared_as rules others name added is e = (
  λ shared. subst (Reached others) (host_is rules name shared.host added shared.passes e) shared.reached,
  λ reached. record {
    is_name = is;
    host = added ++ name;
    passes = added_passes rules name added e;
    reached = reached;
  },
)

-- ---- no name is shared

pub disjoint_where_none : (rules others : List MappingRule) → ((name : List ℕ) → ¬ IsShared rules others name)
    → SharesNoName rules others
disjoint_where_none rules others none host reached also =
    none reached.name (record { is_name = reached.is_name; host = host; passes = reached.passes; reached = also })

pub none_where_disjoint : (rules others : List MappingRule) → SharesNoName rules others → (name : List ℕ)
    → ¬ IsShared rules others name
none_where_disjoint rules others disjoint name shared = search rules

-- the other way round it is the same
pub disjoint_both_ways : (rules others : List MappingRule) → SharesNoName rules others → SharesNoName others rules
disjoint_both_ways rules others disjoint host reached also = disjoint host also reached
