use Rattle.std.proofs.Common.{◌≡◌, ℕ, ◌+◌, ◌-◌, ◌<◌, ◌≤◌, false, length, refl, sym, ap, arith}
use Rattle.virtiofs_map.specs.TrieBuildParts.{next_of, text}
use Rattle.virtiofs_map.specs.declared.xattrmap.trie.patterns.Pattern.{Pattern}
use Rattle.virtiofs_map.proofs.xattrmap.trie.build.TrieBuildLemmas.{added_none, expanded, least_bare, range_of, small_answer}
use Rattle.virtiofs_map.proofs.xattrmap.trie.build.PatternOrderLemmas.{no_zero, ready_at}
use Rattle.virtiofs_map.proofs.xattrmap.trie.build.PlacesLemmas.{bare_below, ended_below}
use Rattle.virtiofs_map.proofs.xattrmap.trie.build.node_of.Goals as goal

pub overflow_add-label : goal.overflow_add-label
overflow_add-label g c =
    let is = range_of c.args.patterns.now c.args.range c.requires.place c.if-range.false in
    let some : c.args.range.low < c.args.range.high = omega (arith, is.rising, c.if-range.false) in
    let one = ready_at c.requires.ready c.args.range.low (omega (arith, some, is.within)) in
    omega (arith, one.within, is.long c.args.range.low (omega arith) some, ap (λ (p : Pattern). p.start) c.pattern_at-first.ensures)

-- a range with no pattern
pub returns-then-range : goal.returns-then-range
returns-then-range g c =
    let range = c.args.range in
    let patterns = c.args.patterns.now in
    let items = c.args.ranges.now.items in
    let base : c.len-base.result ≡ length items = omega (arith, c.len-base.ensures) in
    rw base
    (expanded patterns items items range range.answer 0 1 0 false (small_answer patterns range c.requires.place)
    (λ is. least_bare c.requires.ready is c.if-range.true) (λ some. absurd (omega (arith, c.if-range.true))) (λ _. refl) (omega arith)
    (omega arith)
    (added_none patterns items range (λ i a b. absurd (omega (arith, c.if-range.true)))
    (bare_below c.requires.ready range c.requires.place c.if-range.true)))

-- a range all of whose patterns have ended
pub returns-then-from-range : goal.returns-then-from-range
returns-then-from-range g c =
    let range = c.args.range in
    let patterns = c.args.patterns.now in
    let items = c.args.ranges.now.items in
    let is = range_of patterns range c.requires.place c.if-range.false in
    let says = c.ended-from.ensures in
    let base : c.len-base.result ≡ length items = omega (arith, c.len-base.ensures) in
    let ended : (i : ℕ) → range.low ≤ i → i < range.high → length (text patterns i) ≡ range.depth =
    λ i a b. says.ended i a (omega (arith, c.if-from-range.true)) in
    rw base
    (expanded patterns items items range c.ended-from.result.1 (c.pattern_at-first.result.now.start + (range.depth - range.length)) 1 0 false
    says.least.top (λ _. says.least) (λ _. omega (arith, ap (λ (p : Pattern). p.start) c.pattern_at-first.ensures, is.label))
    (λ bare. absurd (c.if-range.false bare)) (omega arith) (omega arith)
    (added_none patterns items range ended (ended_below c.requires.ready is ended)))

-- a range with children
pub returns : goal.returns
returns g c =
    let range = c.args.range in
    let patterns = c.args.patterns.now in
    let old = c.args.ranges.now.items in
    let is = range_of patterns range c.requires.place c.if-range.false in
    let says = c.ended-from.ensures in
    let from = c.ended-from.result.0 in
    let on = says.on (omega (arith, says.upto, c.if-from-range.false)) in
    let first : next_of patterns range from ≡ c.byte_of-low_byte.result = sym c.byte_of-low_byte.ensures in
    let base : c.len-base.result ≡ length old = omega (arith, c.len-base.ensures) in
    rw (base, ← first)
    (expanded patterns old c.add_children.new.ranges.items range c.ended-from.result.1
    (c.pattern_at-first.result.now.start + (range.depth - range.length)) (next_of patterns range from) (c.len.result - length old)
    c.are_children_sparse-is_sparse.result says.least.top (λ _. says.least)
    (λ _. omega (arith, ap (λ (p : Pattern). p.start) c.pattern_at-first.ensures, is.label)) (λ bare. absurd (c.if-range.false bare))
    (omega (arith, no_zero c.requires.ready from range.depth (omega (arith, on.some, is.within)) on.longer))
    (omega (arith, c.len.ensures)) c.in_ok-add_children.ensures)
