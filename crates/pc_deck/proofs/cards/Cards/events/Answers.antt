use Rattle.std.proofs.Common.{◌≤◌, length, arith}
use Rattle.std.proofs.lemmas.Grind.{common_steps}
use Rattle.pc_model.specs.declared.limits.TheConstants.{MAX_EVENTS}
use Rattle.pc_faults.specs.declared.kind.Kind.TheVariants.{Event}
use Rattle.pc_deck.proofs.cards.Cards.events.Goals as goal

pub returns-clause-few : goal.returns-clause-few
returns-clause-few c = let few : length c.self.inside.deck.lists.events ≤ MAX_EVENTS = (c.self.invariant Event).few in grind (arith, common_steps)
