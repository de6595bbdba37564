use Rattle.std.proofs.Common.{arith}
use Rattle.pc_flow.proofs.LookLaws.{same-joins, further-joins, looks-join, looks-most}
use Rattle.pc_total.proofs.WayLaws.{best-there}
use Rattle.pc_total.proofs.finding.best.Goals as goal

pub best_at-requires-clause-terms : goal.best_at-requires-clause-terms
best_at-requires-clause-terms g c = c.requires.terms

pub returns-clause-best : goal.returns-clause-best
returns-clause-best g c =
    best-there c.args.terms.now c.args.solver.now c.come_down-turn.new.solver c.best_at.result c.come_down-turn.ensures.same c.best_at.ensures.best

pub returns-clause-same : goal.returns-clause-same
returns-clause-same g c =
    same-joins c.args.solver.now c.come_down-turn.new.solver c.best_at.new.solver c.come_down-turn.ensures.same c.best_at.ensures.same

pub returns-clause-further : goal.returns-clause-further
returns-clause-further g c =
    further-joins c.args.solver.now c.come_down-turn.new.solver c.best_at.new.solver c.come_down-turn.ensures.further c.best_at.ensures.further

pub returns-clause-counted : goal.returns-clause-counted
returns-clause-counted g c =
    looks-join c.args.solver.now c.come_down-turn.new.solver c.best_at.new.solver c.come_down-turn.ensures.same c.come_down-turn.ensures.further
    c.best_at.ensures.further _ _ _ c.come_down-turn.ensures.counted c.best_at.ensures.counted

pub returns-clause-limit : goal.returns-clause-limit
returns-clause-limit g c =
    let from = c.args.solver.now in
    let down = c.come_down-turn.ensures in
    let all = looks-join from c.come_down-turn.new.solver c.best_at.new.solver down.same down.further c.best_at.ensures.further _ _ _ down.counted c.best_at.ensures.counted in
    let same = same-joins from c.come_down-turn.new.solver c.best_at.new.solver down.same c.best_at.ensures.same in
    omega (arith, all, looks-most from c.best_at.new.solver (c.facts.ensures.level c.requires.before) same c.best_at.ensures.gentle c.best_at.ensures.range)
