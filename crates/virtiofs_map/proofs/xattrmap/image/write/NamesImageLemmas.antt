-- The parts of an image, and what is written as one.
use Rattle.std.proofs.Common.{◌≡◌, ℕ, ◌+◌, ◌-◌, ◌*◌, ◌/◌, ◌^◌, ◌<◌, ◌≤◌, List, [], ◌++◌, All, length, get_or, take}
use Rattle.std.proofs.Common.{drop, refl, ap, sym, subst, ◌∙◌, arith, append_assoc, append-nil, length-append}
use Rattle.std.proofs.Common.{length-drop, length-take-le, flat_map, rules}
use Rattle.std.proofs.Math.Seq.{drop-append_seam, take-append_seam}
use Rattle.std.proofs.lemmas.List.Elements.{All-cons, All-nil}
use Rattle.virtiofs_map.specs.NodeParts.{HasBytes, IsBounded, IsSmallIn, IsTrie, IsTrieIn, IsTrieWith, row_in}
use Rattle.virtiofs_map.specs.NodeParts.{AreTrieRows}
use Rattle.virtiofs_map.specs.LeU64Parts.{le_u64_at, le_u64_bytes}
use Rattle.virtiofs_map.specs.NamesImage.{HasEnd, HasPart, IsImage, image_kind, image_length, part, part_end}
use Rattle.virtiofs_map.specs.NamesImage.{part_start, longest_image, pattern_bytes}
use Rattle.virtiofs_map.specs.NamesImageParts.{ArePlaces, IsWholeImage, header_of, numbers_of}
use Rattle.virtiofs_map.specs.Rule.{MappingRule, HasNoZero}
use Rattle.virtiofs_map.specs.RuleParts.{AreKept}
use Rattle.virtiofs_map.specs.declared.xattrmap.image.write.Places.{Places}
use Rattle.virtiofs_map.specs.declared.xattrmap.scopes.Side.{Side}
use Rattle.virtiofs_map.specs.declared.xattrmap.scopes.Side.TheVariants.{Client, Server}
use Rattle.virtiofs_map.specs.declared.xattrmap.trie.node.Node.{Node}
use Rattle.virtiofs_map.proofs.LeU64Lemmas.{length-le_u64_bytes, length-rows_in, length-words, le_u64_at-front}
use Rattle.virtiofs_map.proofs.LeU64Lemmas.{le_u64_at-past, word_of_words}

-- ---- parts, as they are written

-- what is appended is the part behind the bytes
part_here : (front one back : List ℕ) (from to : ℕ) → from ≡ length front → to ≡ from + length one
    → take (to - from) (drop from ((front ++ one) ++ back)) ≡ one
part_here front one back from to is_from is_to =
    let size : to - from ≡ length one = omega arith in
    ap (λ (n : ℕ). take n (drop from ((front ++ one) ++ back))) size
    ∙ ap (λ (n : ℕ). take (length one) (drop n ((front ++ one) ++ back))) is_from
    ∙ ap (λ (l : List ℕ). take (length one) (drop (length front) l)) (append_assoc front one back)
    ∙ ap (take (length one)) (drop-append_seam front (one ++ back))
    ∙ take-append_seam one back

-- a part of that number, with these bytes
pub record IsPartAt (image : List ℕ) (which : ℕ) (bytes : List ℕ) : Type 0 where
  pub has : HasPart image which
  pub is : part image which ≡ bytes

part_length : (image : List ℕ) (which : ℕ) → HasPart image which
    → length (part image which) ≡ part_end image which - part_start image which
part_length image which has = search (rules, length-take-le, length-drop)

-- what stands between two places that the header names is that part
part_laid : (image front one back : List ℕ) (which from to : ℕ) → image ≡ (front ++ one) ++ back
    → from ≡ length front → to ≡ from + length one → part_start image which ≡ from → part_end image which ≡ to
    → IsPartAt image which one
part_laid image front one back which from to is is_from is_to starts ends = search (rules, length-append, part_here)

numbers_fit : (places : Places) → places.server < 2 ^ 64 → places.rules < 2 ^ 64 → places.bytes < 2 ^ 64
    → places.end < 2 ^ 64
    → All (λ w. w < 2 ^ 64) (numbers_of places)
numbers_fit places a b c d = search (rules, All-cons, All-nil)

-- ---- the image of a map

-- all that is written
abbrev pub content : Places → List ℕ → List ℕ → List ℕ → List ℕ → List ℕ
content places client server rows bytes =
    header_of places ++ client ++ server ++ rows ++ bytes ++ le_u64_bytes image_kind

module _ (places : Places) (client server rows bytes : List ℕ) (rules : ℕ)
    (are : ArePlaces (length client) (length server) rules (length bytes) places)
    (long : length rows ≡ 24 * rules) where
  pub header_length : length (header_of places) ≡ 48
  header_length = length-words (numbers_of places)

  abbrev behind : List ℕ
  behind = le_u64_bytes image_kind

  abbrev patterns_end : List ℕ
  patterns_end = header_of places ++ client ++ server ++ rows ++ bytes

  patterns_length : length patterns_end ≡ places.end
  patterns_length =
      let a = length-append (header_of places) client in
      let b = length-append (header_of places ++ client) server in
      let c = length-append (header_of places ++ client ++ server) rows in
      let d = length-append (header_of places ++ client ++ server ++ rows) bytes in
      omega (arith, a, b, c, d, header_length, are.first, are.second, are.third, are.last, long)

  pub content_length : length (content places client server rows bytes) ≡ places.end + 8
  content_length =
      omega (arith, length-append patterns_end behind, patterns_length, length-le_u64_bytes image_kind)

  content_u64 : (k : ℕ) → k < 6
      → le_u64_at (content places client server rows bytes) (8 * k) ≡ get_or (numbers_of places) k 0
  content_u64 k below =
      let fit =
      numbers_fit places (omega (arith, are.first, are.second, are.third, are.last, are.short))
      (omega (arith, are.second, are.third, are.last, are.short)) (omega (arith, are.third, are.last, are.short))
      (omega (arith, are.last, are.short)) in
      let apart : content places client server rows bytes ≡ header_of places
      ++ (client ++ (server ++ (rows ++ (bytes ++ behind)))) = simp append_assoc in
      ap (λ (l : List ℕ). le_u64_at l (8 * k)) apart
      ∙ word_of_words (numbers_of places) (client ++ (server ++ (rows ++ (bytes ++ behind)))) k below fit

  pub content_kind : le_u64_at (content places client server rows bytes) 0 ≡ image_kind
  content_kind = content_u64 0 (omega arith)

  pub content_end : HasEnd (content places client server rows bytes)
  content_end =
      let ends : part_end (content places client server rows bytes) 3 ≡ places.end = content_u64 5 (omega arith) in
      record {
        within = omega (arith, ends, content_length);
        is = ap (le_u64_at (patterns_end ++ behind)) (omega (arith, ends, patterns_length))
            ∙ le_u64_at-past patterns_end behind 0
            ∙ ap (λ (l : List ℕ). le_u64_at l 0) (sym (append-nil behind))
            ∙ le_u64_at-front image_kind [] (omega arith);
      }

  pub first_part : IsPartAt (content places client server rows bytes) 0 client
  first_part =
      part_laid (content places client server rows bytes) (header_of places) client (server ++ rows ++ bytes ++ behind) 0 48
      places.server
      (simp append_assoc) (sym header_length) are.first (content_u64 1 (omega arith)) (content_u64 2 (omega arith))

  pub second_part : IsPartAt (content places client server rows bytes) 1 server
  second_part =
      let a = length-append (header_of places) client in
      part_laid (content places client server rows bytes) (header_of places ++ client) server (rows ++ bytes ++ behind) 1
      places.server places.rules
      (simp append_assoc) (omega (arith, a, header_length, are.first)) are.second (content_u64 2 (omega arith))
      (content_u64 3 (omega arith))

  pub third_part : IsPartAt (content places client server rows bytes) 2 rows
  third_part =
      let a = length-append (header_of places) client in
      let b = length-append (header_of places ++ client) server in
      part_laid (content places client server rows bytes) (header_of places ++ client ++ server) rows (bytes ++ behind) 2
      places.rules places.bytes
      (simp append_assoc) (omega (arith, a, b, header_length, are.first, are.second)) (omega (arith, are.third, long))
      (content_u64 3 (omega arith)) (content_u64 4 (omega arith))

  pub fourth_part : IsPartAt (content places client server rows bytes) 3 bytes
  fourth_part =
      let a = length-append (header_of places) client in
      let b = length-append (header_of places ++ client) server in
      let c = length-append (header_of places ++ client ++ server) rows in
      part_laid (content places client server rows bytes) (header_of places ++ client ++ server ++ rows) bytes behind 3
      places.bytes places.end
      refl (omega (arith, a, b, c, header_length, are.first, are.second, are.third, long)) are.last
      (content_u64 4 (omega arith)) (content_u64 5 (omega arith))

  pub every_part : (which : ℕ) → which < 4 → HasPart (content places client server rows bytes) which
  every_part which below = grind (arith, first_part, second_part, third_part, fourth_part)

-- what tries, rules and patterns have together
pub parts_length : (rules : List MappingRule) (client server : List Node) (bytes : List ℕ)
    → IsTrieWith Client rules client bytes → IsTrieWith Server rules server bytes → length bytes ≡ pattern_bytes rules
    → 56 + 24 * length client + 24 * length server + 24 * length rules + length bytes ≡ image_length rules
unfolding image_length
parts_length rules client server bytes clients servers whole = omega arith

-- the numbers of nodes fit into the rows of an image that is not too long
pub rows_fit : (nodes : List Node) (bytes : List ℕ) (first labels : ℕ) → All (IsBounded nodes bytes) nodes
    → 8 * first + 24 * length nodes ≤ longest_image → labels + length bytes ≤ longest_image
    → All (IsSmallIn first labels) nodes
rows_fit nodes bytes first labels bounded rows texts = search rules

-- a part of an image that has the rows of a trie
module _ (side : Side) (rules : List MappingRule) (image : List ℕ) (which first labels : ℕ) (nodes : List Node)
    (bytes : List ℕ) (of : IsTrieWith side rules nodes bytes) (small : All (IsSmallIn first labels) nodes)
    (are_bytes : All HasBytes nodes) where
  pub trie_laid : part_start image which ≡ 8 * first → part_start image 3 ≡ labels
      → IsPartAt image which (flat_map (row_in first labels) nodes) → IsPartAt image 3 bytes
      → IsTrieIn side rules image (part_start image which) (part_end image which) (part_start image 3) (part image 3)
  trie_laid starts begins rows texts =
      let rising = rows.has.rising in
      let within = rows.has.within in
      let long : length (part image which) ≡ part_end image which - part_start image which =
      part_length image which rows.has in
      let sized : length (part image which) ≡ 24 * length nodes = ap length rows.is
      ∙ length-rows_in first labels nodes in
      let texts_long : length (part image 3) ≡ part_end image 3 - part_start image 3 = part_length image 3 texts.has in
      record {
        first = first;
        nodes = nodes;
        begins_at = starts;
        ends_at = omega (arith, long, sized, rising);
        rows_of = record {
          within = omega (arith, long, sized, rising, within);
          are = ap (λ n. take n (drop (8 * first) image)) (let n : 24 * length nodes ≡ part_end image which
              - part_start image which = omega (arith, long, sized) in n)
              ∙ ap (λ n. take (part_end image which - part_start image which) (drop n image)) (sym starts)
              ∙ rows.is ∙ ap (λ n. flat_map (row_in first n) nodes) (sym begins);
          small = subst (λ n. All (IsSmallIn first n) nodes) (sym begins) small;
          bytes = are_bytes;
        };
        texts = record {
          within = omega (arith, texts_long);
          are = ap (λ n. take n (drop (part_start image 3) image)) texts_long;
        };
        trie = subst (IsTrie side rules nodes) (sym texts.is) of.trie;
        counted = of.counted;
        few = of.few;
      }

module _ (rules : List MappingRule) (client server : List Node) (rows bytes : List ℕ) (places : Places)
    (are : ArePlaces (24 * length client) (24 * length server) (length rules) (length bytes) places)
    (kept : AreKept rules rows bytes) (no_zero : All HasNoZero rules) (clients : IsTrieWith Client rules client bytes)
    (servers : IsTrieWith Server rules server bytes) (client_bytes : All HasBytes client)
    (server_bytes : All HasBytes server) where
  abbrev pub client_rows : List ℕ
  client_rows = flat_map (row_in 6 places.bytes) client

  abbrev pub server_rows : List ℕ
  server_rows = flat_map (row_in (places.server / 8) places.bytes) server

  ends_there : places.end + 8 ≡ image_length rules
  ends_there = omega (arith, parts_length rules client server bytes clients servers kept.whole, are.first, are.second, are.third, are.last)

  laid : ArePlaces (length client_rows) (length server_rows) (length rules) (length bytes) places
  laid =
      record {
        first = omega (arith, are.first, length-rows_in 6 places.bytes client);
        second = omega (arith, are.second, length-rows_in (places.server / 8) places.bytes server);
        third = are.third;
        last = are.last;
        short = are.short;
      }

  pub client_fits : All (IsSmallIn 6 places.bytes) client
  client_fits =
      rows_fit client bytes 6 places.bytes clients.bounded
      (omega (arith, are.first, are.second, are.third, are.last, are.short)) (omega (arith, are.last, are.short))

  pub server_fits : All (IsSmallIn (places.server / 8) places.bytes) server
  server_fits =
      rows_fit server bytes (places.server / 8) places.bytes servers.bounded
      (omega (arith, are.first, are.second, are.third, are.last, are.short)) (omega (arith, are.last, are.short))

  -- it is an image of the map
  pub content_image : IsImage rules (content places client_rows server_rows rows bytes)
  content_image =
      let one = first_part places client_rows server_rows rows bytes (length rules) laid kept.stored.long in
      let two = second_part places client_rows server_rows rows bytes (length rules) laid kept.stored.long in
      let three = third_part places client_rows server_rows rows bytes (length rules) laid kept.stored.long in
      let four = fourth_part places client_rows server_rows rows bytes (length rules) laid kept.stored.long in
      let size = content_length places client_rows server_rows rows bytes (length rules) laid kept.stored.long in
      let starts = content_u64 places client_rows server_rows rows bytes (length rules) laid kept.stored.long in
      record {
        begun = omega (arith, size, are.first, are.second, are.third, are.last, clients.trie.root);
        kind = content_kind places client_rows server_rows rows bytes (length rules) laid kept.stored.long;
        parts = every_part places client_rows server_rows rows bytes (length rules) laid kept.stored.long;
        first = starts 1 (omega arith);
        ended = content_end places client_rows server_rows rows bytes (length rules) laid kept.stored.long;
        last = ap (λ (n : ℕ). n + 8) (starts 5 (omega arith)) ∙ ends_there;
        short = omega (arith, ends_there, are.short);
        client =
            trie_laid Client rules _ 0 6 places.bytes client bytes clients client_fits client_bytes
            (starts 1 (omega arith)) (starts 4 (omega arith)) one four;
        server =
            trie_laid Server rules _ 1 (places.server / 8) places.bytes server bytes servers server_fits server_bytes
            (starts 2 (omega arith) ∙ omega (arith, are.first)) (starts 4 (omega arith)) two four;
        stored = rw (three.is, four.is) kept.stored;
        no_zero = no_zero;
      }

  -- and nothing follows it
  pub content_whole : IsWholeImage rules
      (content places client_rows server_rows rows bytes)
  content_whole = record {
    image = content_image;
    whole =
        content_length places client_rows server_rows rows bytes (length rules) laid kept.stored.long
        ∙ ends_there;
  }

-- what was appended part by part
pub content_is : (places : Places) (client server rows bytes none begun one two three four all : List ℕ)
    (clients servers patterns : List ℕ) → none ≡ [] → begun ≡ none ++ header_of places → one ≡ begun ++ clients
    → two ≡ one ++ servers → three ≡ two ++ rows → four ≡ three ++ patterns → all ≡ four ++ le_u64_bytes image_kind
    → clients ≡ client → servers ≡ server → patterns ≡ bytes
    → all ≡ content places client server rows bytes
content_is places client server rows bytes none begun one two three four all clients servers patterns a b c d e f z g h i =
    rw (z, f, e, d, c, b, a, g, h, i) refl

-- ---- the rows of a trie that are not too long

module _ (side : Side) (rules : List MappingRule) (bytes rows : List ℕ) (first : ℕ)
    (of : AreTrieRows side rules bytes rows first) (within : 8 * first + length rows ≤ longest_image) where
  -- their numbers fit
  pub nodes_fit : (labels : ℕ) → labels + length bytes ≤ longest_image → All (IsSmallIn first labels) of.nodes
  nodes_fit labels fits = grind (arith, rows_fit)

  -- and the rows are theirs
  pub rows_are : length bytes ≤ longest_image → rows ≡ flat_map (row_in first 0) of.nodes
  rows_are fits = of.rows_of.are (nodes_fit 0 (omega arith))
