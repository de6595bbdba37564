use Rattle.std.proofs.Common.{◌≡◌, ap, ◌∙◌}
use Rattle.std.proofs.lemmas.Result.{IfOk-weaker}
use Rattle.pc_deck.specs.Text.{deck_text}
use Rattle.pc_project.specs.deck_text.Written.{IsDeckText}
use Rattle.pc_project.proofs.lemmas.deck_text.WrittenLaws.{text_of_deck}
use Rattle.pc_project.proofs.deck_text.deck_text_in.Goals as goal

pub returns : goal.returns
returns c =
    IfOk-weaker c.text.result (λ text. text.items ≡ deck_text c.cards.result.now) (λ text. IsDeckText c.args.project.now text.items)
    (λ text is. text_of_deck c.args.project.now text.items c.cards.ensures.planned.own (is ∙ ap deck_text c.cards.ensures.cards)) c.text.ensures
