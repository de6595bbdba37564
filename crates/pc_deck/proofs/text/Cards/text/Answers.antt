use Rattle.std.proofs.Common.{◌≡◌, [], ◌∷◌, ◌++◌, ◌∙◌, List, ℕ, sym, ap, subst, append_assoc}
use Rattle.std.specs.Prelude.{IfOk}
use Rattle.pc_records.specs.Text.{record_text}
use Rattle.pc_deck.specs.Text.{deck_text}
use Rattle.pc_deck.specs.inside.Text.{lead_text, lists_text}
use Rattle.pc_deck.proofs.PutLemmas.{whole_text}
use Rattle.pc_deck.proofs.text.Cards.text.Goals as goal

pub returns : goal.returns
returns c =
    let deck = c.args.self.now in
    let lead : c.put_lead.new.text ≡ lead_text deck = c.in_ok-put_lead.ensures ∙ ap (λ text. text ++ lead_text deck) c.in_ok-text.ensures in
    let lists : c.put_lists.new.text ≡ lead_text deck ++ lists_text deck = c.in_ok-put_lists.ensures ∙ ap (λ text. text ++ lists_text deck) lead in
    let all : c.put.new.self ≡ deck_text deck =
    c.in_ok-put.ensures.put
    ∙ ((λ i. lists i ++ record_text (c.word.ensures.word i ∷ []))
    ∙ (append_assoc (lead_text deck) (lists_text deck) _ ∙ sym (whole_text deck))) in
    subst (λ (whole : List ℕ). IfOk c.finish.result (λ text. text.items ≡ whole)) all c.finish.ensures
