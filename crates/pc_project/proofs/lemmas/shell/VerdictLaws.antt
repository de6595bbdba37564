-- Verdicts on a deck: accepted, or refused with a fault, and never both.
use Rattle.std.proofs.Common.{◌≡◌, ℕ, List, sym, subst, refl, arith}
use Rattle.pc_faults.specs.declared.fault.Fault.{Fault as ADeckFault}
use Rattle.pc_deck.specs.Deck.{Deck}
use Rattle.pc_faults.specs.inside.FaultText.{IsTold}
use Rattle.pc_deck.proofs.ToldLemmas.{told_of-refusal}
use Rattle.pc_deck.proofs.DeckLaws.{one_deck, not_both as cards_not_refused}
use Rattle.pc_project.specs.Refusal.{IsRefusedWith}
use Rattle.pc_project.proofs.RefusalLaws.{makes_not_refused, told_of-refused}
use Rattle.pc_project.specs.Project.{Project}
use Rattle.pc_project.specs.Figures.{IsProjectOfDeck}
use Rattle.pc_project.proofs.OneProjectLaws.{one_project_of}
use Rattle.pc_project.specs.shell.Verdict.{IsAccepted, IsFault, IsProjectOf, too_long, card_refusal, project_refusal}

-- each fault of a deck has a line
pub told_of-fault : (bytes : List ℕ) (fault : ADeckFault) → IsFault bytes fault → IsTold fault
told_of-fault bytes fault (too_long long is) = subst IsTold (sym is) refl
told_of-fault bytes fault (card_refusal short refusal) = told_of-refusal bytes fault refusal
told_of-fault bytes fault (project_refusal deck short cards refused) = told_of-refused deck fault refused

-- a deck is not both accepted and refused
pub not_both : (bytes : List ℕ) (deck : Deck) (fault : ADeckFault) → IsAccepted bytes deck → IsFault bytes fault → ⊥
not_both bytes deck fault accepted (too_long long is) = omega (arith, accepted.short, long)
not_both bytes deck fault accepted (card_refusal short refusal) = cards_not_refused bytes deck fault accepted.cards refusal
not_both bytes deck fault accepted (project_refusal other short cards refused) =
    makes_not_refused deck fault accepted.makes (subst (λ d. IsRefusedWith d fault) (one_deck bytes other deck cards accepted.cards) refused)

-- an accepted deck has one project
pub one_project : (bytes : List ℕ) (project other : Project) → IsProjectOf bytes project → IsProjectOf bytes other → project ≡ other
one_project bytes project other is also =
    one_project_of is.deck is.accepted.makes.once project other is.is
    (subst (λ d. IsProjectOfDeck d other) (one_deck bytes also.deck is.deck also.accepted.cards is.accepted.cards) also.is)
