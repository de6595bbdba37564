use Rattle.std.proofs.Common.{◌∙◌, sym}
use Rattle.pc_curve.proofs.ReadLaws.{read-fit, read-ends, read-durations, read-schedule, read-costs}
use Rattle.pc_curve.proofs.points.point_at.Goals as goal

pub read_durations-requires-clause-fit : goal.read_durations-requires-clause-fit
read_durations-requires-clause-fit g c =
    read-fit c.net-net.result.now c.facts.ensures.priced c.cost_at-cost.new.solver (c.cost_at-cost.ensures.same.net ∙ sym c.net-net.ensures) c.args.length
    c.cost_at-cost.ensures.there c.read_times.new.times c.read_times.ensures

pub returns-clause-schedule : goal.returns-clause-schedule
returns-clause-schedule g c =
    rw (← c.net-net.ensures)
    (read-schedule c.net-net.result.now c.facts.ensures.priced c.cost_at-cost.new.solver (c.cost_at-cost.ensures.same.net ∙ sym c.net-net.ensures) c.args.length
    c.cost_at-cost.ensures.there c.read_times.new.times c.read_times.ensures c.read_durations.new.durations c.read_durations.ensures)

pub returns-clause-ends : goal.returns-clause-ends
returns-clause-ends g c =
    rw (← c.net-net.ensures)
    (read-ends c.net-net.result.now c.facts.ensures.priced c.cost_at-cost.new.solver (c.cost_at-cost.ensures.same.net ∙ sym c.net-net.ensures) c.args.length
    c.cost_at-cost.ensures.there c.read_times.new.times c.read_times.ensures)

pub returns-clause-costs : goal.returns-clause-costs
returns-clause-costs g c =
    c.cost_at-cost.ensures.read
    ∙ rw (← c.net-net.ensures)
    (read-costs c.net-net.result.now c.facts.ensures.priced c.cost_at-cost.new.solver (c.cost_at-cost.ensures.same.net ∙ sym c.net-net.ensures) c.args.length
    c.cost_at-cost.ensures.there c.read_times.new.times c.read_times.ensures c.read_durations.new.durations c.read_durations.ensures)

pub returns-clause-durations : goal.returns-clause-durations
returns-clause-durations g c =
    rw (← c.net-net.ensures)
    (read-durations c.net-net.result.now c.facts.ensures.priced c.cost_at-cost.new.solver (c.cost_at-cost.ensures.same.net ∙ sym c.net-net.ensures) c.args.length
    c.cost_at-cost.ensures.there c.read_times.new.times c.read_times.ensures c.read_durations.new.durations c.read_durations.ensures)

pub read_times-requires-clause-net : goal.read_times-requires-clause-net
read_times-requires-clause-net g c = c.cost_at-cost.ensures.same.net ∙ sym c.net-net.ensures

pub read_times-requires-clause-there : goal.read_times-requires-clause-there
read_times-requires-clause-there g c = c.cost_at-cost.ensures.there

pub read_times-requires-clause-places : goal.read_times-requires-clause-places
read_times-requires-clause-places g c = rw c.net-net.ensures c.requires.places.events

pub read_durations-requires-clause-durations : goal.read_durations-requires-clause-durations
read_durations-requires-clause-durations g c = rw c.net-net.ensures c.requires.places.activities

pub returns-clause-least : goal.returns-clause-least
returns-clause-least g c = c.cost_at-cost.ensures.least

pub returns-clause-there : goal.returns-clause-there
returns-clause-there g c = c.cost_at-cost.ensures.there

pub returns-clause-times : goal.returns-clause-times
returns-clause-times g c = rw (← c.net-net.ensures) c.read_times.ensures

pub returns-clause-same : goal.returns-clause-same
returns-clause-same g c = c.cost_at-cost.ensures.same

pub returns-clause-further : goal.returns-clause-further
returns-clause-further g c = c.cost_at-cost.ensures.further

pub returns-clause-gentle : goal.returns-clause-gentle
returns-clause-gentle g c = c.cost_at-cost.ensures.gentle

pub returns-clause-counted : goal.returns-clause-counted
returns-clause-counted g c = c.cost_at-cost.ensures.counted
