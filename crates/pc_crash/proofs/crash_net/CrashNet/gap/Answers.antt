use Rattle.std.proofs.Common.{◌≡◌, ℕ, ◌^◌, ◌<◌, pos, ◌-ℤ◌, to_z, of_z, w64, length, slice_index, ◌∙◌, ap, arith}
use Rattle.std.proofs.lemmas.Int.{ints}
use Rattle.pc_model.specs.Walk.{from_of, to_of}
use Rattle.pc_crash.proofs.InsideLaws.{row-read, rows-each, ends-within}
use Rattle.pc_crash.proofs.crash_net.CrashNet.gap.Goals as goal

-- times below the bound have a difference that fits
minus : (x y : ℕ) → x < 10 ^ 18 → y < 10 ^ 18 → to_z w64 (of_z w64 (to_z w64 x -ℤ to_z w64 y)) ≡ pos x -ℤ pos y
minus x y late early = omega (arith, ints)

pub index-requires : goal.index-requires
index-requires c = omega (arith, rows-each c.self.inside c.self.invariant, ap (λ n. length n.network.arcs) c.self.view_is)

pub bounds-times-arc : goal.bounds-times-arc
bounds-times-arc c =
    let ends = ends-within c.self.inside c.args.self.now c.self.view_is c.self.invariant c.args.a c.requires.activity c.index.result.now c.index.ensures in
    omega (arith, c.requires.one_each)

pub overflow_cast-result-2 : goal.overflow_cast-result-2
overflow_cast-result-2 c =
    let ends = ends-within c.self.inside c.args.self.now c.self.view_is c.self.invariant c.args.a c.requires.activity c.index.result.now c.index.ensures in
    omega (arith, c.requires.small c.index.result.now.arc.to (omega (arith, c.requires.one_each)))

pub bounds-times-arc-2 : goal.bounds-times-arc-2
bounds-times-arc-2 c =
    let ends = ends-within c.self.inside c.args.self.now c.self.view_is c.self.invariant c.args.a c.requires.activity c.index.result.now c.index.ensures in
    omega (arith, c.requires.one_each)

pub overflow_cast-result-4 : goal.overflow_cast-result-4
overflow_cast-result-4 c =
    let ends = ends-within c.self.inside c.args.self.now c.self.view_is c.self.invariant c.args.a c.requires.activity c.index.result.now c.index.ensures in
    omega (arith, c.requires.small c.index.result.now.arc.from (omega (arith, c.requires.one_each)))

pub overflow_sub-result : goal.overflow_sub-result
overflow_sub-result c =
    let ends = ends-within c.self.inside c.args.self.now c.self.view_is c.self.invariant c.args.a c.requires.activity c.index.result.now c.index.ensures in
    omega (
      arith,
      ints,
      c.requires.small c.index.result.now.arc.to (omega (arith, c.requires.one_each)),
      c.requires.small c.index.result.now.arc.from (omega (arith, c.requires.one_each)),
    )

pub returns : goal.returns
returns c =
    let s = c.self.inside in
    let a = c.args.a in
    let times = c.args.times.now in
    let same = ap (λ n. length n.network.arcs) c.self.view_is in
    let known : a < length s.net.now.arcs = omega arith in
    let row = row-read s a c.index.result.now c.self.invariant known c.index.ensures in
    let arcs = ap (λ n. n.network.arcs) c.self.view_is in
    let ends : slice_index times c.index.result.now.arc.to
    ≡ slice_index times (to_of c.args.self.now.network.arcs a) = ap (λ arc. slice_index times arc.to) row.arc
    ∙ ap (λ xs. slice_index times (to_of xs a)) arcs in
    let begins : slice_index times c.index.result.now.arc.from
    ≡ slice_index times (from_of c.args.self.now.network.arcs a) = ap (λ arc. slice_index times arc.from) row.arc
    ∙ ap (λ xs. slice_index times (from_of xs a)) arcs in
    let events = ap (λ n. n.network.events) c.self.view_is in
    let ranges = c.self.invariant.whole.in_range in
    let late = c.requires.small c.index.result.now.arc.to (omega (arith, ap (λ arc. arc.to) row.arc, ranges.to_in a known)) in
    let early = c.requires.small c.index.result.now.arc.from (omega (arith, ap (λ arc. arc.from) row.arc, ranges.from_in a known)) in
    minus _ _ late early ∙ (λ i. pos (ends i) -ℤ pos (begins i))
