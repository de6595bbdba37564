-- The first status in disorder, and statuses in order.
use Rattle.std.proofs.Common.{◌≡◌, ◌<◌, ℕ, List, length, Option, None, Some, refl, subst, inl, inr, ◌⊎◌, arith}
use Rattle.std.specs.Prelude.{ℤ, ◌≤ℤ◌, IfSome, IfNone, option_map}
use Rattle.std.proofs.lemmas.Int.{by_lt_z, ints}
use Rattle.pc_deck.specs.Deck.{Deck}
use Rattle.pc_deck.specs.declared.kinds.as_of.AsOfCard.{AsOfCard}
use Rattle.pc_faults.specs.Faults.{disorder}
use Rattle.pc_faults.specs.declared.fault.Fault.{Fault}
use Rattle.pc_faults.specs.declared.fault.StatusFault.{StatusFault}
use Rattle.pc_faults.specs.declared.fault.StatusFault.TheVariants.{Second, Early, Late, NoStart, FinishFirst}
use Rattle.pc_accounts.specs.status.Statuses.{AreInOrder, HasReason, IsInOrder, IsReason, reason_rank}
use Rattle.pc_accounts.specs.declared.status.StatusRow.{StatusRow}
use Rattle.pc_project.specs.DisorderFaults.{HasDisorder, HasNoDisorder, HasStatusDisorder, IsEarlyAsOf, as_of_in, of_as_of, of_status}
use Rattle.pc_faults.specs.inside.First.{IsFirstIn, earliest}
use Rattle.pc_project.specs.Project.{as_of_day, statuses_in}
use Rattle.pc_project.proofs.CardLaws.{no_later}
use Rattle.pc_faults.proofs.FirstLaws.{earliest-first}

-- a status without a first reason has no reason
module _ (start as_of : ℤ) (statuses : List StatusRow) (k : ℕ) (none : (reason : StatusFault) → IsReason start as_of statuses k reason → ⊥) where
  no_second : HasReason start as_of statuses k Second → ⊥
  no_second h = none Second (record { holds = h; first = λ other before. absurd (omega (arith, before)) })

  no_early : HasReason start as_of statuses k Early → ⊥
  no_early h = none Early (record { holds = h; first = before })
    where
      before : (other : StatusFault) → reason_rank other < 1 → HasReason start as_of statuses k other → ⊥
      before Second low = no_second
      before Early low = absurd (omega (arith, low))
      before Late low = absurd (omega (arith, low))
      before NoStart low = absurd (omega (arith, low))
      before FinishFirst low = absurd (omega (arith, low))

  no_late : HasReason start as_of statuses k Late → ⊥
  no_late h = none Late (record { holds = h; first = before })
    where
      before : (other : StatusFault) → reason_rank other < 2 → HasReason start as_of statuses k other → ⊥
      before Second low = no_second
      before Early low = no_early
      before Late low = absurd (omega (arith, low))
      before NoStart low = absurd (omega (arith, low))
      before FinishFirst low = absurd (omega (arith, low))

  no_start : HasReason start as_of statuses k NoStart → ⊥
  no_start h = none NoStart (record { holds = h; first = before })
    where
      before : (other : StatusFault) → reason_rank other < 3 → HasReason start as_of statuses k other → ⊥
      before Second low = no_second
      before Early low = no_early
      before Late low = no_late
      before NoStart low = absurd (omega (arith, low))
      before FinishFirst low = absurd (omega (arith, low))

  no_finish : HasReason start as_of statuses k FinishFirst → ⊥
  no_finish h = none FinishFirst (record { holds = h; first = before })
    where
      before : (other : StatusFault) → reason_rank other < 4 → HasReason start as_of statuses k other → ⊥
      before Second low = no_second
      before Early low = no_early
      before Late low = no_late
      before NoStart low = no_start
      before FinishFirst low = absurd (omega (arith, low))

  pub in_order_unless : IsInOrder start as_of statuses k
  in_order_unless Second = no_second
  in_order_unless Early = no_early
  in_order_unless Late = no_late
  in_order_unless NoStart = no_start
  in_order_unless FinishFirst = no_finish

-- where no status is in disorder, all are in order
pub all_in_order : (deck : Deck) → HasNoDisorder deck → (count : length (statuses_in deck) ≡ length deck.statuses) → AreInOrder deck.project.start_day (as_of_in deck) (statuses_in deck)
all_in_order deck none count k within =
    in_order_unless deck.project.start_day (as_of_in deck) (statuses_in deck) k
    (λ reason is. none _ (of_status (k, omega (arith, within, count), (reason, (is, refl)))))

-- and as-of is not before the start
pub as_of-late : (deck : Deck) → HasNoDisorder deck → deck.project.start_day ≤ℤ as_of_in deck
as_of-late deck none = by deck.as_of refl
  where
    by : (card : Option AsOfCard) → deck.as_of ≡ card → deck.project.start_day ≤ℤ as_of_day deck.project.start_day card
    by None is = omega (arith, ints)
    by (Some card) is =
        by_lt_z card.day deck.project.start_day (λ early. absurd (none _ (of_as_of (card, (is, early, refl))))) (λ late. late)

-- the fault of a status by the reason that was found
pub disorder-first : (deck : Deck) (k row : ℕ) (statuses : List StatusRow) (reason : Option StatusFault) → statuses ≡ statuses_in deck →
    IfSome reason (IsReason deck.project.start_day (as_of_in deck) statuses k) → IfNone reason (IsInOrder deck.project.start_day (as_of_in deck) statuses k) →
    IsFirstIn (λ fault. (r : StatusFault) × (IsReason deck.project.start_day (as_of_in deck) (statuses_in deck) k r × (fault ≡ disorder row r))) (option_map (disorder row) reason)
disorder-first deck k row statuses None same told none = λ fault h. subst (λ ss. IsInOrder deck.project.start_day (as_of_in deck) ss k) same none h.0 h.1.0.holds
disorder-first deck k row statuses (Some reason) same told none = record {
  holds = (reason, (subst (λ ss. IsReason deck.project.start_day (as_of_in deck) ss k reason) same told, refl));
  least = λ other h. no_later (disorder row reason) other (disorder row h.0) h.1.1 refl (omega arith);
}

-- the first fault of as-of and statuses
into : (deck : Deck) (fault : Fault) → HasDisorder deck fault → IsEarlyAsOf deck fault ⊎ HasStatusDisorder deck fault
into deck fault (of_as_of h) = inl h
into deck fault (of_status h) = inr h

pub first_of_disorder : (deck : Deck) (as_of statuses : Option Fault) → IsFirstIn (IsEarlyAsOf deck) as_of →
    IsFirstIn (HasStatusDisorder deck) statuses → IsFirstIn (HasDisorder deck) (earliest as_of statuses)
first_of_disorder deck as_of statuses a s =
    earliest-first (IsEarlyAsOf deck) (HasStatusDisorder deck) (HasDisorder deck) (λ f h. of_as_of h) (λ f h. of_status h) (into deck) as_of statuses a s
