use Rattle.std.proofs.Common.{sym, ◌∙◌, arith}
use Rattle.pc_accounts.proofs.SecondLaws.{IsSeen-none, seen_step, seen_twice, none_repeated}
use Rattle.pc_accounts.proofs.book.refuse_second.Goals as goal

pub loop-second-init : goal.loop-second-init
loop-second-init c = IsSeen-none _ _ c.new-seen.ensures.empty

pub loop-second-preserved : goal.loop-second-preserved
loop-second-preserved c =
    seen_step _ _ c.index-togos-second.result c.loop-second.seen c.insert.new.self c.loop-second.invariant c.loop-second-test.true
    c.index-togos-second.is (sym c.in_ok-first.ensures.old ∙ c.in_default.is) c.in_ok-first.ensures.updates

pub returns-in-Some-clause-refused : goal.returns-in-Some-clause-refused
returns-in-Some-clause-refused c =
    seen_twice _ _ _ c.index-togos-second.result c.loop-second.seen c.loop-second.invariant c.loop-second-test.true c.index-togos-second.is (sym c.in_ok-first.ensures.old ∙ c.in-Some.is)

pub returns-clause-once : goal.returns-clause-once
returns-clause-once c =
    λ k (within, (j, repeats)). none_repeated c.args.togos.now c.loop-second.second c.loop-second.seen c.loop-second.invariant k j (omega arith) repeats
