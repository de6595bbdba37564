use Rattle.std.proofs.Common.{◌∙◌, arith}
use Rattle.pc_flow.proofs.OpeningLaws.{some-activities, opened, kept-before, flow-clear}
use Rattle.pc_flow.proofs.opening.open_board.Goals as goal

pub new-board-requires-clause-activities : goal.new-board-requires-clause-activities
new-board-requires-clause-activities c =
    omega (arith, c.activities.ensures.activities, some-activities c.net-shape.result.now c.activities.ensures.in_range c.activities.ensures.sound)

pub keep_lengths-requires-clause-empty : goal.keep_lengths-requires-clause-empty
keep_lengths-requires-clause-empty c =
    flow-clear c.args.region _ _ c.new-board.result c.keep_early_times.new.board c.keep_early_times-2.new.board
    c.new-board.ensures c.keep_early_times.ensures.rest c.keep_early_times-2.ensures.rest

pub returns-clause-opened : goal.returns-clause-opened
returns-clause-opened c =
    let network = c.net-shape.ensures.network in
    let events = rw network at c.events.ensures.events in
    let activities = rw network at c.activities.ensures.activities in
    let start = rw network at c.start.ensures.start in
    opened c.args.net.now c.args.region c.new-board.result c.keep_early_times.new.board c.keep_early_times-2.new.board c.keep_lengths.new.board c.start_at.new.self _ _ _
    events activities start c.new-board.ensures c.keep_early_times.ensures.rest c.keep_early_times-2.ensures.rest c.keep_lengths.ensures.rest
    c.start_at.ensures c.keep_early_times-2.ensures.times c.keep_early_times-2.ensures.limit c.keep_lengths.ensures.lengths

pub returns-clause-longest : goal.returns-clause-longest
returns-clause-longest c =
    let end = rw c.net-shape.ensures.network at c.end-2.ensures.end in
    c.kept_time-longest.ensures ∙ kept-before c.keep_early_times-2.new.board c.keep_lengths.new.board c.start_at.new.self _ _ c.keep_lengths.ensures.rest c.start_at.ensures end

pub returns-clause-shortest : goal.returns-clause-shortest
returns-clause-shortest c =
    let end = rw c.net-shape.ensures.network at c.end.ensures.end in
    rw (c.kept_time-shortest.ensures, end) (c.keep_early_times.ensures.times c.args.net.now.network.end c.facts.ensures.priced.range.end_in)
