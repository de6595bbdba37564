use Rattle.pc_faults.specs.declared.kind.Kind.TheVariants.{Wbs, Event, Act, Piece, Acct, Charge, ToGo, Status, Res, Load}
use Rattle.pc_deck.specs.Text.{record_of}
use Rattle.pc_deck.proofs.PutLemmas.{put-none, put-some}
use Rattle.pc_deck.proofs.text.Cards.put_lists.Goals as goal

pub returns : goal.returns
returns c =
    put-some (record_of Wbs) _ c.args.self.now.items _ _ _ _ c.items.ensures.cards c.in_ok-put_cards.ensures.put
    (put-some (record_of Event) _ c.args.self.now.events _ _ _ _ c.events.ensures.cards c.in_ok-put_cards-2.ensures.put
    (put-some (record_of Act) _ c.args.self.now.acts _ _ _ _ c.acts.ensures.cards c.in_ok-put_cards-3.ensures.put
    (put-some (record_of Piece) _ c.args.self.now.pieces _ _ _ _ c.pieces.ensures.cards c.in_ok-put_cards-4.ensures.put
    (put-some (record_of Acct) _ c.args.self.now.accounts _ _ _ _ c.accounts.ensures.cards c.in_ok-put_cards-5.ensures.put
    (put-some (record_of Charge) _ c.args.self.now.charges _ _ _ _ c.charges.ensures.cards c.in_ok-put_cards-6.ensures.put
    (put-some (record_of ToGo) _ c.args.self.now.togos _ _ _ _ c.togos.ensures.cards c.in_ok-put_cards-7.ensures.put
    (put-some (record_of Status) _ c.args.self.now.statuses _ _ _ _ c.statuses.ensures.cards c.in_ok-put_cards-8.ensures.put
    (put-some (record_of Res) _ c.args.self.now.resources _ _ _ _ c.resources.ensures.cards c.in_ok-put_cards-9.ensures.put
    (put-some (record_of Load) _ c.args.self.now.loads _ _ _ _ c.loads.ensures.cards c.in_ok-put_cards-10.ensures.put
    (put-none _))))))))))
