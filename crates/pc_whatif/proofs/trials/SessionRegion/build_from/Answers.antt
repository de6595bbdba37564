use Rattle.std.proofs.Common.{◌≡◌, ℕ, length, replicate, refl, sym, ◌∙◌, ap, subst, arith}
use Rattle.std.proofs.lemmas.List.{length-replicate}
use Rattle.pc_cells.specs.Spans.{Cells}
use Rattle.pc_cells.specs.inside.Spans.{span_at}
use Rattle.pc_whatif.specs.inside.trials.SessionRegion.{IsRegionFor}
use Rattle.pc_whatif.specs.inside.trials.Laid.{IsLaidIn}
use Rattle.pc_whatif.proofs.lemmas.trials.OpenLaws.{IsOpened, laid-2, is-opened}
use Rattle.pc_flow.proofs.OpeningLaws.{some-activities}
use Rattle.pc_whatif.proofs.trials.SessionRegion.build_from.Goals.{After-write, After-write-2}
use Rattle.pc_whatif.proofs.trials.SessionRegion.build_from.Goals as goal

laid_there : (c : After-write) → IsLaidIn c.write.new.self c.take_spans-spans.result
laid_there c =
    laid-2 c.events-events.result c.activities-activities.result c.take_spans-spans.result c.in_ok-region.region c.take_spans-spans.new.region c.write.new.self
    c.args.expected.now c.take_spans-spans.ensures (c.requires.lengths.one_each ∙ sym c.activities-activities.ensures.activities)
    (c.write.ensures 0 c.take_spans-spans.ensures.spans.expected)

opened_there : (c : After-write-2) → IsLaidIn c.write.new.self c.take_spans-spans.result
    → IsOpened c.events-events.result c.activities-activities.result c.take_spans-spans.result c.in_ok-region.region c.write-2.new.self c.args.expected.now c.args.variances.now
opened_there c next =
    is-opened c.events-events.result c.activities-activities.result c.take_spans-spans.result c.in_ok-region.region c.take_spans-spans.new.region c.write.new.self
    c.args.expected.now c.take_spans-spans.ensures (c.requires.lengths.one_each ∙ sym c.activities-activities.ensures.activities)
    (c.write.ensures 0 c.take_spans-spans.ensures.spans.expected)
    c.write-2.new.self c.args.variances.now (c.requires.variance_each ∙ sym c.activities-activities.ensures.activities) (c.write-2.ensures 1 next.live.variances)

pub take_spans-spans-requires-clause-activities : goal.take_spans-spans-requires-clause-activities
take_spans-spans-requires-clause-activities c =
    omega (
      arith,
      c.activities-activities.ensures.activities,
      some-activities c.args.net.now c.facts.ensures.in_range c.facts.ensures.sound,
    )

pub write-requires-2-clause-live : goal.write-requires-2-clause-live
write-requires-2-clause-live c =
    let next = laid_there (goal.at.write-requires-2-clause-live c).After-write in
    (1, next.live.variances)

pub invariant_of-taken : goal.invariant_of-taken
invariant_of-taken c =
    let at = goal.at.invariant_of-taken c in
    let is = opened_there at.After-write-2 (laid_there at.After-write) in
    record {
      here = refl;
      laid = is.laid;
      whole = is.whole (λ a below. c.requires.lengths.small a (omega (arith, below, c.requires.lengths.one_each))) c.requires.variances;
      room = omega (arith, c.in_ok-room.ensures.len, c.in_ok-room.room.ok.0, is.early);
    }

pub renew-requires : goal.renew-requires
renew-requires c =
    let events = c.events-events.result in
    let at = goal.at.renew-requires c in
    let is = opened_there at.After-write-2 (laid_there at.After-write) in
    let none : length (replicate {A = ℕ} events 0) ≡ events = length-replicate events 0 in
    let zeros = none ∙ c.events-events.ensures.events in
    subst (IsRegionFor c.args.net.now) (sym is.kept) (record {
      expected = c.requires.lengths.one_each;
      variances = c.requires.variance_each;
      early = zeros;
      tails = zeros;
      path_cells = zeros;
    })

pub returns-clause-expected : goal.returns-clause-expected
returns-clause-expected c =
    let at = goal.at.returns-clause-expected c in
    let is = opened_there at.After-write-2 (laid_there at.After-write) in
    ap (λ r. r.expected) c.renew.ensures.rest ∙ ap (λ r. r.expected) is.kept

pub returns-clause-variances : goal.returns-clause-variances
returns-clause-variances c =
    let at = goal.at.returns-clause-variances c in
    let is = opened_there at.After-write-2 (laid_there at.After-write) in
    ap (λ r. r.variances) c.renew.ensures.rest ∙ ap (λ r. r.variances) is.kept

pub returns-clause-free : goal.returns-clause-free
returns-clause-free c =
    let at = goal.at.returns-clause-free c in
    let is = opened_there at.After-write-2 (laid_there at.After-write) in
    omega (
      arith,
      ap (λ r. r.free) c.renew.ensures.rest,
      ap (λ r. r.free) is.kept,
      ap (λ r. r.capacity) c.in_ok-region.ensures,
      c.cells_needed.ensures,
      c.events-events.ensures.events,
      c.activities-activities.ensures.activities,
    )

pub cells_needed-requires-clause-events : goal.cells_needed-requires-clause-events
cells_needed-requires-clause-events c = c.events-events.ensures.limit

pub cells_needed-requires-clause-activities : goal.cells_needed-requires-clause-activities
cells_needed-requires-clause-activities c = c.activities-activities.ensures.limit

pub cells_needed-requires-clause-pieces : goal.cells_needed-requires-clause-pieces
cells_needed-requires-clause-pieces c = c.requires.pieces

pub take_spans-spans-requires-clause-events : goal.take_spans-spans-requires-clause-events
take_spans-spans-requires-clause-events c = omega (arith, c.events-events.ensures.events, c.facts.ensures.in_range.start_in)

pub take_spans-spans-requires-clause-none : goal.take_spans-spans-requires-clause-none
take_spans-spans-requires-clause-none c = ap (λ (r : Cells). r.spans) c.in_ok-region.ensures

pub take_spans-spans-requires-clause-room : goal.take_spans-spans-requires-clause-room
take_spans-spans-requires-clause-room c = omega (arith, ap (λ (r : Cells). r.capacity) c.in_ok-region.ensures, c.cells_needed.ensures)

pub write-requires-clause-live : goal.write-requires-clause-live
write-requires-clause-live c = (0, c.take_spans-spans.ensures.spans.expected)

pub write-requires-clause-one_each : goal.write-requires-clause-one_each
write-requires-clause-one_each c =
    omega (
      arith,
      c.take_spans-spans.ensures.spans.expected.extends,
      ap (λ (r : Cells). length (span_at r.spans 0)) c.take_spans-spans.ensures.region,
      length-replicate {A = ℕ} c.activities-activities.result 0,
      c.requires.lengths.one_each,
      c.activities-activities.ensures.activities,
    )

pub write-requires-2-clause-one_each : goal.write-requires-2-clause-one_each
write-requires-2-clause-one_each c =
    omega (
      arith,
      c.take_spans-spans.ensures.spans.variances.extends,
      ap (λ (r : Cells). length (span_at r.spans 1)) c.take_spans-spans.ensures.region,
      length-replicate {A = ℕ} c.activities-activities.result 0,
      c.requires.variance_each,
      c.activities-activities.ensures.activities,
    )

pub returns-clause-fits : goal.returns-clause-fits
returns-clause-fits c = c.renew.ensures.fits

pub returns-clause-standing : goal.returns-clause-standing
returns-clause-standing c = c.renew.ensures.standing
