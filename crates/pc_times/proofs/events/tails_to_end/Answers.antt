use Rattle.std.proofs.Common.{◌≡◌, ◌≤◌, length, sym, subst, arith}
use Rattle.std.specs.Prelude.{All}
use Rattle.std.proofs.lemmas.List.{with_items_is}
use Rattle.pc_times.specs.declared.TheConstants.{MAX_TIME}
use Rattle.pc_times.specs.inside.Times.{AreTails}
use Rattle.pc_times.proofs.events.tails_to_end.Goals as goal

pub tails_into-requires-clause-places : goal.tails_into-requires-clause-places
tails_into-requires-clause-places c = omega (arith, c.in_ok-tails.ensures.len, c.events.ensures.events)

pub returns-clause-tails : goal.returns-clause-tails
returns-clause-tails c =
    let long : length c.tails_into.new.tails ≡ c.in_ok-tails.tails.len = omega arith in
    subst (AreTails c.args.net.now c.args.lengths.now) (sym (with_items_is c.in_ok-tails.tails c.tails_into.new.tails long)) c.tails_into.ensures.tails

pub returns-clause-limit : goal.returns-clause-limit
returns-clause-limit c =
    let long : length c.tails_into.new.tails ≡ c.in_ok-tails.tails.len = omega arith in
    subst (All (λ time. time ≤ MAX_TIME)) (sym (with_items_is c.in_ok-tails.tails c.tails_into.new.tails long)) c.tails_into.ensures.limit

pub returns-clause-walks : goal.returns-clause-walks
returns-clause-walks c = c.tails_into.ensures.walks
