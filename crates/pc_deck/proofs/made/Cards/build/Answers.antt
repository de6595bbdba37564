use Rattle.std.proofs.Common.{refl}
use Rattle.pc_faults.specs.declared.kind.Kind.TheVariants.{Wbs, Event, Act, Acct, Res}
use Rattle.pc_deck.proofs.made.Cards.build.Goals as goal

pub add_plan-requires-clause-differ : goal.add_plan-requires-clause-differ
add_plan-requires-clause-differ c = record {
  items = (c.requires Wbs).differ refl;
  events = (c.requires Event).differ refl;
  acts = (c.requires Act).differ refl;
  accounts = (c.requires Acct).differ refl;
  resources = (c.requires Res).differ refl;
}
