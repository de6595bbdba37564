use Rattle.std.proofs.Common.{All, refl, sym, subst, ◌∙◌}
use Rattle.pc_deck.proofs.ReadLemmas.{IsTextCard, deck_cards-text, next-text, read_from-kept, sort-kept, within-kept}
use Rattle.pc_deck.proofs.read.take_all.Goals as goal

pub cards-init : goal.cards-init
cards-init c = record {
  says = rw (c.new-rows.ensures.cards, c.new-rows.ensures.end) refl;
  within = c.requires.within;
  text = subst (All IsTextCard) (sym c.new-rows.ensures.cards) (deck_cards-text c.args.bytes.now c.requires.utf8);
  sort = refl;
}

pub cards-preserved : goal.cards-preserved
cards-preserved c =
    let text = next-text c.in_ok-row.field-0 c.in-Card.row c.next.new.fields c.cards.rows c.next.new.self c.in-Card.is c.in_ok-row.ensures c.cards.invariant.text in
    record {
      says =
          read_from-kept c.cards.draft c.take.new.self c.in_ok-row.field-0 c.in-Card.row c.next.new.fields c.cards.rows c.next.new.self c.in-Card.is c.in_ok-row.ensures c.in_ok-take.ensures.kept
          ∙ c.cards.invariant.says;
      within = within-kept c.cards.draft c.take.new.self c.in-Card.row c.next.new.fields c.in_ok-take.ensures.kept text.0 c.cards.invariant.within;
      text = text.1;
      sort = sort-kept c.cards.draft c.take.new.self c.in-Card.row c.next.new.fields c.in_ok-take.ensures.kept ∙ c.cards.invariant.sort;
    }
