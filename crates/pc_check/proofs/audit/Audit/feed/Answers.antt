use Rattle.std.proofs.Common.{sym, subst, ◌∙◌, arith}
use Rattle.std.proofs.lemmas.Bool.{eqb-true, eqb-false}
use Rattle.std.proofs.lemmas.List.{take_all, length-drop}
use Rattle.pc_check.proofs.FeedLaws.{IsFeeding, begun, more, fails_in_rest, ended, ended_less}
use Rattle.pc_check.proofs.audit.Audit.feed.Goals as goal

pub loop-rest-preserved : goal.loop-rest-preserved
loop-rest-preserved c =
    subst (λ t. IsFeeding c.args.self.now c.step.new.self c.args.piece.now t) (sym (take_all _ _ (omega (arith, length-drop c.in-Ok.used c.loop-rest.rest.now))))
    (more c.step.new.self c.in-Ok.used c.loop-rest.invariant c.in-Ok.ensures.going c.step.ensures.net c.in-Ok.ensures.goes_on c.in-Ok.ensures.left)

pub returns-in-Err-clause-fails : goal.returns-in-Err-clause-fails
returns-in-Err-clause-fails c = fails_in_rest c.in-Err.fail c.loop-rest.invariant c.in-Err.ensures.fails

pub loop-rest-init : goal.loop-rest-init
loop-rest-init c = begun c.args.self.now c.args.piece.now c.requires.going c.requires.read

pub step-requires : goal.step-requires
step-requires c = record {
  read = c.loop-rest.invariant.read;
  going = c.loop-rest.invariant.going;
  some = omega (arith, eqb-false _ _ (sym c.loop-rest-test.ensures));
}

pub returns-in-Err-clause-net : goal.returns-in-Err-clause-net
returns-in-Err-clause-net c = c.step.ensures.net ∙ c.loop-rest.invariant.net

pub returns-clause-going : goal.returns-clause-going
returns-clause-going c = c.loop-rest.invariant.going

pub returns-clause-net : goal.returns-clause-net
returns-clause-net c = c.loop-rest.invariant.net

pub returns-clause-goes_on : goal.returns-clause-goes_on
returns-clause-goes_on c = ended c.loop-rest.invariant (eqb-true _ _ (sym c.loop-rest-test.ensures))

pub returns-clause-left : goal.returns-clause-left
returns-clause-left c = ended_less c.loop-rest.invariant (eqb-true _ _ (sym c.loop-rest-test.ensures))
