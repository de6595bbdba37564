use Rattle.std.proofs.Common.{sym, ◌∙◌}
use Rattle.pc_deck.proofs.WithinLemmas.{deck_within}
use Rattle.pc_deck.proofs.draft.Draft.close.Goals as goal

pub returns-in-Some-clause-within : goal.returns-in-Some-clause-within
returns-in-Some-clause-within c = deck_within c.args.self c.in-Some.project (sym c.get.ensures ∙ c.in-Some.is) c.requires
