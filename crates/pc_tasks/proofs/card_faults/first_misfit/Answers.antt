use Rattle.std.proofs.Common.{◌≡◌, ◌∷◌, List, Option, sym, subst, inr, ⊎_elim}
use Rattle.std.specs.List.{Any}
use Rattle.pc_cards.specs.declared.sort.Sort.TheVariants.{Tasks}
use Rattle.pc_deck.specs.Deck.{list_of}
use Rattle.pc_deck.specs.Kinds.{CardOf, further_kinds}
use Rattle.pc_deck.specs.Misfit.{HasCardMisfit, HasMisfit}
use Rattle.pc_deck.specs.inside.Misfit.{HasFaultAmong, HasFaultOf}
use Rattle.pc_deck.specs.Project.{HasProjectFlaw}
use Rattle.pc_deck.proofs.MisfitLaws.{first_after_terms, first_cons, first_of_further, first_of_one}
use Rattle.pc_faults.specs.declared.fault.Fault.{Fault}
use Rattle.pc_faults.specs.declared.kind.Kind.{Kind}
use Rattle.pc_faults.specs.declared.kind.Kind.TheVariants.{Project, AsOf, Terms, Wbs, Task, After, Piece, Acct, Charge, ToGo, Status, Load}
use Rattle.pc_faults.specs.inside.First.{IsFirstIn}
use Rattle.pc_faults.proofs.FirstLaws.{first_of_same}
use Rattle.pc_tasks.proofs.card_faults.first_misfit.Goals as goal

pub returns : goal.returns
returns c =
    let deck = c.args.cards.now in
    let further = subst (IsFirstIn (HasFaultAmong Tasks deck further_kinds)) (sym c.first_of_further-of_further.ensures)
    (first_of_further Tasks deck c.first_fault-piece.result c.first_fault-account.result c.first_fault-charge.result
    c.first_fault-togo.result c.first_fault-status.result c.first_fault-load.result
    (of Piece c.pieces.result.now c.first_fault-piece.result c.pieces.ensures.cards c.first_fault-piece.ensures)
    (of Acct c.accounts.result.now c.first_fault-account.result c.accounts.ensures.cards c.first_fault-account.ensures)
    (of Charge c.charges.result.now c.first_fault-charge.result c.charges.ensures.cards c.first_fault-charge.ensures)
    (of ToGo c.togos.result.now c.first_fault-togo.result c.togos.ensures.cards c.first_fault-togo.ensures)
    (of Status c.statuses.result.now c.first_fault-status.result c.statuses.ensures.cards c.first_fault-status.ensures)
    (of Load c.loads.result.now c.first_fault-load.result c.loads.ensures.cards c.first_fault-load.ensures)) in
    let afters = subst (IsFirstIn (HasFaultAmong Tasks deck (After ∷ further_kinds))) (sym c.earliest-of_afters.ensures)
    (first_cons Tasks deck After further_kinds c.args.after c.first_of_further-of_further.result c.requires further) in
    let works = subst (IsFirstIn (HasFaultAmong Tasks deck (Task ∷ After ∷ further_kinds))) (sym c.earliest-of_works.ensures)
    (first_cons Tasks deck Task (After ∷ further_kinds) c.first_fault-task.result c.earliest-of_afters.result
    (of Task c.tasks.result.now c.first_fault-task.result c.tasks.ensures.cards c.first_fault-task.ensures) afters) in
    let lists = subst (IsFirstIn (HasFaultAmong Tasks deck (Wbs ∷ Task ∷ After ∷ further_kinds))) (sym c.earliest-of_lists.ensures)
    (first_cons Tasks deck Wbs (Task ∷ After ∷ further_kinds) c.first_fault-item.result c.earliest-of_works.result
    (of Wbs c.items.result.now c.first_fault-item.result c.items.ensures.cards c.first_fault-item.ensures) works) in
    subst (IsFirstIn (HasMisfit Tasks deck)) (sym c.earliest.ensures)
    (first_cons Tasks deck Project (AsOf ∷ Terms ∷ Wbs ∷ Task ∷ After ∷ further_kinds) c.ends_fault-of_ends.result c.earliest-of_lists.result
    (first_of_one (HasCardMisfit Tasks deck Project) deck.project c.ends_fault-of_ends.result
    (first_of_same (HasProjectFlaw deck.project) (HasCardMisfit Tasks deck Project deck.project) (λ fault h. inr h)
    (λ fault h. ⊎_elim (λ unknown. absurd unknown) (λ flaw. flaw) h) c.ends_fault-of_ends.result c.ends_fault-of_ends.ensures))
    (first_after_terms Tasks deck (Wbs ∷ Task ∷ After ∷ further_kinds) c.earliest-of_lists.result lists))
  where
    of : (kind : Kind) (cards : List (CardOf kind)) (found : Option Fault) → cards ≡ list_of c.args.cards.now kind →
        IsFirstIn (λ fault. Any (λ card. HasCardMisfit Tasks c.args.cards.now kind card fault) cards) found → IsFirstIn (HasFaultOf Tasks c.args.cards.now kind) found
    of kind cards found are first = subst (λ cs. IsFirstIn (λ fault. Any (λ card. HasCardMisfit Tasks c.args.cards.now kind card fault) cs) found) are first
