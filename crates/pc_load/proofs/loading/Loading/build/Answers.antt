use Rattle.std.proofs.Common.{◌≡◌, ◌+◌, ◌*◌, ◌/◌, ◌<◌, ◌≤◌, ℕ, List, length, get_or, slice_index, refl, ap, ◌∙◌, arith}
use Rattle.std.proofs.Math.Nat.{lt-mul-div-succ}
use Rattle.std.proofs.lemmas.List.{get_or_default}
use Rattle.pc_project.specs.Planned.{IsPlanned}
use Rattle.pc_project.specs.Project.{Project}
use Rattle.pc_times.specs.Times.{AreEarly}
use Rattle.pc_load.specs.Loading.{ArePeriods, periods_for}
use Rattle.pc_load.specs.inside.Entries.{AreEarliestTimes}
use Rattle.pc_load.proofs.LoadingLaws.{resources_add_up, resources_have_parts}
use Rattle.pc_load.proofs.loading.Loading.build.Goals as goal

-- the number of periods covers the project
periods_are : (project : Project) (days have end : ℕ) (times : List ℕ) → IsPlanned project →
    AreEarly project.network project.expected times → end ≡ get_or times project.network.end end → have ≡ periods_for days end →
    ArePeriods project days have
periods_are project days have end times planned early read is =
    let inside : project.network.end < length times = omega (arith, early.one_each, planned.in_range.end_in) in
    let at : end ≡ slice_index times project.network.end = read ∙ get_or_default times project.network.end end 0 inside in
    record {
      end = slice_index times project.network.end;
      early = early.each project.network.end planned.in_range.end_in;
      are = is ∙ ap (periods_for days) at;
    }

-- and the last of them ends after its end
ends_before : (project : Project) (days have end : ℕ) (times : List ℕ) → 1 ≤ days → IsPlanned project →
    AreEarly project.network project.expected times → end ≡ get_or times project.network.end end → have ≡ periods_for days end →
    slice_index times project.network.end < 6 * days * have
ends_before project days have end times some planned early read is =
    let inside : project.network.end < length times = omega (arith, early.one_each, planned.in_range.end_in) in
    let at : end ≡ slice_index times project.network.end = read ∙ get_or_default times project.network.end end 0 inside in
    let most = lt-mul-div-succ end {b = 6 * days} (omega arith) in
    let periods : 6 * days * have ≡ 6 * days * (end / (6 * days) + 1) = ap (λ n. 6 * days * n) is in
    omega arith

pub returns-then-have-from-clause-none : goal.returns-then-have-from-clause-none
returns-then-have-from-clause-none c =
    let project = c.args.project.now in
    let early : AreEarly project.network project.expected c.in_ok-times.times.items = rw (← c.net.ensures.network, ← c.expected.ensures.expected) c.in_ok-times.ensures.times in
    let read : c.index.result.now ≡ get_or c.in_ok-times.times.items project.network.end c.index.result.now = rw (← c.net-2.ensures.network, ← c.end.ensures.end) c.index.ensures in
    record {
      are = periods_are project c.args.days (c.index.result.now / (6 * c.args.days) + 1) c.index.result.now c.in_ok-times.times.items c.net.ensures.planned early read refl;
      more = omega arith;
    }

pub returns-clause-loading : goal.returns-clause-loading
returns-clause-loading c =
    let project = c.args.project.now in
    let times = c.in_ok-times.times.items in
    let have = (c.index.result.now / (6 * c.args.days) + 1) in
    let early : AreEarly project.network project.expected times = rw (← c.net.ensures.network, ← c.expected.ensures.expected) c.in_ok-times.ensures.times in
    let read : c.index.result.now ≡ get_or times project.network.end c.index.result.now = rw (← c.net-2.ensures.network, ← c.end.ensures.end) c.index.ensures in
    let are = periods_are project c.args.days have c.index.result.now times c.net.ensures.planned early read refl in
    let reached : AreEarliestTimes project times = record { early = early; small = λ e lt. c.in_ok-times.ensures.limit e 0 lt } in
    let whole = ends_before project c.args.days have c.index.result.now times c.requires.least c.net.ensures.planned early read refl in
    let taken = resources_have_parts project times c.in_ok-taken.taken.items (6 * c.args.days) have _
    (rw (← c.deref.ensures.value) c.in_ok-taken.ensures.loads)
    (rw (← c.resource_count.ensures.count, ← c.deref-3.ensures.value) c.in_ok-build.ensures.table) in
    record {
      of_days = refl;
      preorder = rw (c.in_ok-from_slice.ensures.items, ← c.tree.ensures.tree) c.preorder.ensures.order;
      times = times;
      early = early;
      periods = have;
      are = are;
      few = omega arith;
      items = rw (← c.deref-2.ensures.value) c.in_ok-items_of.ensures.parts;
      resources = taken;
      items_add_up = c.in_ok-items_of.ensures.add_up;
      resources_add_up = resources_add_up project times (6 * c.args.days) have _ c.net.ensures.planned reached (omega arith) whole taken;
      levels_add_up = c.in_ok-items_of.ensures.levels;
    }

pub loads-requires : goal.loads-requires
loads-requires c =
    let project = c.args.project.now in
    let early : AreEarly project.network project.expected c.in_ok-times.times.items = rw (← c.net.ensures.network, ← c.expected.ensures.expected) c.in_ok-times.ensures.times in
    let reached : AreEarliestTimes project c.in_ok-times.times.items = record { early = early; small = λ e lt. c.in_ok-times.ensures.limit e 0 lt } in
    rw c.deref.ensures.value reached

pub items_of-requires-clause-times : goal.items_of-requires-clause-times
items_of-requires-clause-times c =
    let project = c.args.project.now in
    let early : AreEarly project.network project.expected c.in_ok-times.times.items = rw (← c.net.ensures.network, ← c.expected.ensures.expected) c.in_ok-times.ensures.times in
    let reached : AreEarliestTimes project c.in_ok-times.times.items = record { early = early; small = λ e lt. c.in_ok-times.ensures.limit e 0 lt } in
    rw c.deref-2.ensures.value reached

pub items_of-requires-clause-whole : goal.items_of-requires-clause-whole
items_of-requires-clause-whole c =
    let project = c.args.project.now in
    let times = c.in_ok-times.times.items in
    let early : AreEarly project.network project.expected times = rw (← c.net.ensures.network, ← c.expected.ensures.expected) c.in_ok-times.ensures.times in
    let read : c.index.result.now ≡ get_or times project.network.end c.index.result.now = rw (← c.net-2.ensures.network, ← c.end.ensures.end) c.index.ensures in
    rw c.deref-2.ensures.value (ends_before project c.args.days (c.index.result.now / (6 * c.args.days) + 1) c.index.result.now times c.requires.least c.net.ensures.planned early read refl)

pub build-requires-clause-entries : goal.build-requires-clause-entries
build-requires-clause-entries c = rw (c.deref-3.ensures.value, c.resource_count.ensures.count) c.in_ok-taken.ensures.entries
