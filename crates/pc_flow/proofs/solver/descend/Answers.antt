use Rattle.std.proofs.Common.{refl, arith}
use Rattle.pc_flow.proofs.lemmas.search.FallenLaws.{fall-fits, has_fallen}
use Rattle.pc_flow.proofs.solver.descend.Goals as goal

pub fall-requires : goal.fall-requires
fall-requires c =
    fall-fits c.args.net.now c.facts.ensures.priced c.args.board.now c.args.fall c.requires.between c.requires.listed
    (c.requires.falls (omega (arith, c.if-fall-gt0.true)))

pub returns-then-fall-gt0 : goal.returns-then-fall-gt0
returns-then-fall-gt0 c = record {
  still = λ none. absurd (omega (arith, none, c.if-fall-gt0.true));
  fallen = λ some.
      has_fallen c.args.net.now c.facts.ensures.priced c.args.board.now c.args.fall c.requires.between c.requires.listed
      (c.requires.falls some) c.fall.new.self c.fall.ensures;
}

pub returns-else-fall-gt0 : goal.returns-else-fall-gt0
returns-else-fall-gt0 c = record { still = λ none. refl; fallen = λ some. absurd (omega (arith, some, c.if-fall-gt0.false)) }
