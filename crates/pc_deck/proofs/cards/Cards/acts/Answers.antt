use Rattle.std.proofs.Common.{◌≤◌, length, arith}
use Rattle.std.proofs.lemmas.Grind.{common_steps}
use Rattle.pc_model.specs.declared.limits.TheConstants.{MAX_ACTIVITIES}
use Rattle.pc_faults.specs.declared.kind.Kind.TheVariants.{Act}
use Rattle.pc_deck.proofs.cards.Cards.acts.Goals as goal

pub returns-clause-few : goal.returns-clause-few
returns-clause-few c = let few : length c.self.inside.deck.lists.acts ≤ MAX_ACTIVITIES = (c.self.invariant Act).few in grind (arith, common_steps)
