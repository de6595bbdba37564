use Rattle.std.proofs.Common.{sym, ap, subst, ◌∙◌}
use Rattle.pc_cards.specs.declared.sort.Sort.{Sort}
use Rattle.pc_deck.specs.Within.{IsWithin}
use Rattle.pc_deck.specs.inside.Within.{IsDraftWithin}
use Rattle.pc_deck.specs.declared.draft.Draft.{Draft}
use Rattle.pc_deck.proofs.WithinLemmas.{no_cards_within}
use Rattle.pc_deck.proofs.read.cards_of.Goals as goal

pub take_all-requires-clause-within : goal.take_all-requires-clause-within
take_all-requires-clause-within c = subst IsDraftWithin (sym c.new-draft.ensures) (no_cards_within c.args.sort)

pub returns-clause-within : goal.returns-clause-within
returns-clause-within c =
    subst (λ (sort : Sort). IsWithin sort c.in_ok-cards.cards) (c.in_ok-end.ensures.sort ∙ ap (λ (draft : Draft). draft.sort) c.new-draft.ensures) c.in_ok-cards.ensures.within
