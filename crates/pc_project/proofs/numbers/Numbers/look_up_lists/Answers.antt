use Rattle.std.proofs.Common.{◌≡◌, ◌∷◌, ◌∙◌, List, Option, ap, map, sym, subst}
use Rattle.std.specs.List.{Any}
use Rattle.pc_cards.specs.declared.sort.Sort.TheVariants.{Plan}
use Rattle.pc_deck.specs.Deck.{list_of}
use Rattle.pc_deck.specs.Kinds.{CardOf, further_kinds}
use Rattle.pc_deck.specs.Misfit.{HasCardMisfit}
use Rattle.pc_deck.specs.inside.Misfit.{HasFaultAmong, HasFaultOf}
use Rattle.pc_deck.proofs.MisfitLaws.{first_after_events, first_after_terms, first_cons, first_of_further}
use Rattle.pc_faults.specs.declared.fault.Fault.{Fault}
use Rattle.pc_faults.specs.declared.kind.Kind.{Kind}
use Rattle.pc_faults.specs.declared.kind.Kind.TheVariants.{Wbs, Event, Act, Piece, Acct, Charge, ToGo, Status, Load}
use Rattle.pc_faults.specs.inside.First.{IsFirstIn}
use Rattle.pc_project.specs.Project.{account_of, load_of, money_of, piece_of, row_of, status_of}
use Rattle.pc_project.specs.inside.Project.{placement_of}
use Rattle.pc_faults.proofs.FirstLaws.{earliest-none}
use Rattle.pc_project.proofs.numbers.Numbers.look_up_lists.Goals as goal

pub returns-clause-first : goal.returns-clause-first
returns-clause-first c =
    let deck = c.args.cards.now in
    let further = first_of_further Plan deck c.in_ok-piece.piece c.in_ok-account.account c.in_ok-charge.charge c.in_ok-togo.togo c.in_ok-status.status c.in_ok-load.load
    (of Piece c.pieces.result.now c.in_ok-piece.piece c.pieces.ensures.cards c.in_ok-piece.ensures.first)
    (of Acct c.accounts.result.now c.in_ok-account.account c.accounts.ensures.cards c.in_ok-account.ensures.first)
    (of Charge c.charges.result.now c.in_ok-charge.charge c.charges.ensures.cards c.in_ok-charge.ensures.first)
    (of ToGo c.togos.result.now c.in_ok-togo.togo c.togos.ensures.cards c.in_ok-togo.ensures.first)
    (of Status c.statuses.result.now c.in_ok-status.status c.statuses.ensures.cards c.in_ok-status.ensures.first)
    (of Load c.loads.result.now c.in_ok-load.load c.loads.ensures.cards c.in_ok-load.ensures.first) in
    let works = first_cons Plan deck Act further_kinds c.in_ok-act.act c.first_of_further-of_further.result
    (of Act c.acts.result.now c.in_ok-act.act c.acts.ensures.cards c.in_ok-act.ensures.first)
    (subst (IsFirstIn (HasFaultAmong Plan deck further_kinds)) (sym c.first_of_further-of_further.ensures) further) in
    first_after_terms Plan deck (Wbs ∷ Event ∷ Act ∷ further_kinds) c.earliest.result
    (subst (IsFirstIn (HasFaultAmong Plan deck (Wbs ∷ Event ∷ Act ∷ further_kinds))) (sym c.earliest.ensures)
    (first_cons Plan deck Wbs (Event ∷ Act ∷ further_kinds) c.in_ok-item.item c.earliest-of_works.result
    (of Wbs c.items.result.now c.in_ok-item.item c.items.ensures.cards c.in_ok-item.ensures.first)
    (first_after_events Plan deck (Act ∷ further_kinds) c.earliest-of_works.result (subst (IsFirstIn (HasFaultAmong Plan deck (Act ∷ further_kinds))) (sym c.earliest-of_works.ensures) works))))
  where
    of : (kind : Kind) (cards : List (CardOf kind)) (found : Option Fault) → cards ≡ list_of c.args.cards.now kind →
        IsFirstIn (λ fault. Any (λ card. HasCardMisfit Plan c.args.cards.now kind card fault) cards) found → IsFirstIn (HasFaultOf Plan c.args.cards.now kind) found
    of kind cards found are first = subst (λ cs. IsFirstIn (λ fault. Any (λ card. HasCardMisfit Plan c.args.cards.now kind card fault) cs) found) are first

pub returns-clause-lists : goal.returns-clause-lists
returns-clause-lists c = λ none.
    let deck = c.args.cards.now in
    let all = earliest-none c.in_ok-item.item c.earliest-of_works.result (sym c.earliest.ensures ∙ none) in
    let works = earliest-none c.in_ok-act.act c.first_of_further-of_further.result (sym c.earliest-of_works.ensures ∙ all.1) in
    let (piece, from_accounts) = earliest-none c.in_ok-piece.piece _ (sym c.first_of_further-of_further.ensures ∙ works.1) in
    let (account, from_charges) = earliest-none c.in_ok-account.account _ from_accounts in
    let (charge, from_togos) = earliest-none c.in_ok-charge.charge _ from_charges in
    let (togo, from_statuses) = earliest-none c.in_ok-togo.togo _ from_togos in
    let (status, load) = earliest-none c.in_ok-status.status c.in_ok-load.load from_statuses in
    record {
      rows = c.in_ok-item.ensures.numbers all.0 ∙ ap (map (row_of deck)) c.items.ensures.cards;
      placements = c.in_ok-act.ensures.numbers works.0 ∙ ap (map (placement_of deck)) c.acts.ensures.cards;
      pieces = c.in_ok-piece.ensures.numbers piece ∙ ap (map (piece_of deck)) c.pieces.ensures.cards;
      loads = c.in_ok-load.ensures.numbers load ∙ ap (map (load_of deck)) c.loads.ensures.cards;
      accounts = c.in_ok-account.ensures.numbers account ∙ ap (map (account_of deck)) c.accounts.ensures.cards;
      charges = c.in_ok-charge.ensures.numbers charge ∙ ap (map (money_of deck)) c.charges.ensures.cards;
      togos = c.in_ok-togo.ensures.numbers togo ∙ ap (map (money_of deck)) c.togos.ensures.cards;
      statuses = c.in_ok-status.ensures.numbers status ∙ ap (map (status_of deck)) c.statuses.ensures.cards;
    }

pub returns-clause-within : goal.returns-clause-within
returns-clause-within c = c.acts.ensures.within
