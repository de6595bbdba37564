use Rattle.std.proofs.Common.{◌≡◌, ◌≤◌, length, sym, subst, arith}
use Rattle.std.specs.Prelude.{All}
use Rattle.std.proofs.lemmas.List.{with_items_is}
use Rattle.pc_times.specs.declared.TheConstants.{MAX_TIME}
use Rattle.pc_times.specs.Times.{AreEarly}
use Rattle.pc_times.proofs.events.early.Goals as goal

pub early_into-requires-clause-places : goal.early_into-requires-clause-places
early_into-requires-clause-places c = omega (arith, c.in_ok-times.ensures.len, c.events.ensures.events)

pub returns-clause-times : goal.returns-clause-times
returns-clause-times c =
    let long : length c.early_into.new.times ≡ c.in_ok-times.times.len = omega arith in
    subst (AreEarly c.args.net.now c.args.lengths.now) (sym (with_items_is c.in_ok-times.times c.early_into.new.times long)) c.early_into.ensures.times

pub returns-clause-limit : goal.returns-clause-limit
returns-clause-limit c =
    let long : length c.early_into.new.times ≡ c.in_ok-times.times.len = omega arith in
    subst (All (λ time. time ≤ MAX_TIME)) (sym (with_items_is c.in_ok-times.times c.early_into.new.times long)) c.early_into.ensures.limit

pub returns-clause-walks : goal.returns-clause-walks
returns-clause-walks c = c.early_into.ensures.walks
