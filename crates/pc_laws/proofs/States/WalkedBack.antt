-- An augmentation walked back from the end: it begins with no change, each step back continues it, and at the start it
-- is a flow of a higher value.
use Rattle.std.proofs.Common.{◌≡◌, ◌≢◌, ◌<◌, ◌+◌, ℕ, length, Bool, true, false, arith, refl, sym, subst, ap}
use Rattle.std.specs.Prelude.{◌==◌, if◌then◌else◌}
use Rattle.std.proofs.lemmas.Bool.{eq-eqb, ne_eqb, cond-true, cond-false}
use Rattle.pc_model.specs.Sums.{at_event}
use Rattle.pc_model.specs.Walk.{from_of, to_of}
use Rattle.pc_model.specs.Network.{Network, IsSound}
use Rattle.pc_laws.specs.Flow.{inflow, outflow}
use Rattle.pc_laws.specs.State.{IsPart}
use Rattle.pc_model.proofs.Sums.{sum_to-change}
use Rattle.pc_laws.proofs.Flows.Balance.{at_event-none}

-- if activity a has `room` more and the others have the same, so has the event at its place
at_event-more : (m : ℕ) (place now next : ℕ → ℕ) (e a room : ℕ) → a < m → next a ≡ now a + room → ((b : ℕ) → b < m → b ≢ a → now b ≡ next b)
    → at_event m place next e ≡ at_event m place now e + (if place a == e then room else 0)
at_event-more m place now next e a room l more same =
    omega (
      arith,
      sum_to-change m (λ b. if place b == e then now b else 0) (λ b. if place b == e then next b else 0) a l
          (λ b k ne. ap (λ v. if place b == e then v else 0) (same b k ne)),
      parts (place a == e),
    )
  where
    parts : (b : Bool) → (if b then next a else 0) ≡ (if b then now a else 0) + (if b then room else 0)
    parts true = more
    parts false = refl

module _ (net : Network) (old : ℕ → ℕ) (room : ℕ) where
  -- at the end nothing has changed
  pub part_begins : IsPart net old old net.end room
  part_begins e l = omega arith

  -- a step back along an activity, from where it ends to where it begins: more flows on it
  pub part_forward : (now next : ℕ → ℕ) (a x : ℕ) → a < length net.arcs → to_of net.arcs a ≡ x → next a ≡ now a + room
      → ((b : ℕ) → b < length net.arcs → b ≢ a → now b ≡ next b) → IsPart net old now x room → IsPart net old next (from_of net.arcs a) room
  part_forward now next a x l at more others part e k =
      omega (
        arith,
        subst (λ y. IsPart net old now y room) (sym at) part e k,
        at_event-more (length net.arcs) (to_of net.arcs) now next e a room l more others,
        at_event-more (length net.arcs) (from_of net.arcs) now next e a room l more others,
      )

  -- a step back against an activity, from where it begins to where it ends: less flows on it
  pub part_backward : (now next : ℕ → ℕ) (a x : ℕ) → a < length net.arcs → from_of net.arcs a ≡ x → next a + room ≡ now a
      → ((b : ℕ) → b < length net.arcs → b ≢ a → now b ≡ next b) → IsPart net old now x room → IsPart net old next (to_of net.arcs a) room
  part_backward now next a x l at less others part e k =
      omega (
        arith,
        subst (λ y. IsPart net old now y room) (sym at) part e k,
        at_event-more (length net.arcs) (to_of net.arcs) next now e a room l (sym less) (λ b m ne. sym (others b m ne)),
        at_event-more (length net.arcs) (from_of net.arcs) next now e a room l (sym less) (λ b m ne. sym (others b m ne)),
      )

  -- back at the start, the flow goes through each event between the start and the end as before
  pub part_through : (now : ℕ → ℕ) (e : ℕ) → IsPart net old now net.start room → e < net.events → e ≢ net.start → e ≢ net.end
      → inflow net old e ≡ outflow net old e → inflow net now e ≡ outflow net now e
  part_through now e part l not_start not_end was =
      omega (
        arith,
        part e l,
        was,
        cond-false (net.start == e) room 0 (ne_eqb net.start e (λ same. not_start (sym same))),
        cond-false (net.end == e) room 0 (ne_eqb net.end e (λ same. not_end (sym same))),
      )

  -- and its value is higher by the room
  pub part_leaves : (now : ℕ → ℕ) → IsPart net old now net.start room → net.start < net.events → net.start ≢ net.end
      → inflow net old net.start ≡ 0 → inflow net now net.start ≡ 0
      → outflow net now net.start ≡ outflow net old net.start + room
  part_leaves now part l apart was is =
      omega (
        arith,
        part net.start l,
        was,
        is,
        cond-true (net.start == net.start) room 0 (eq-eqb net.start net.start refl),
        cond-false (net.end == net.start) room 0 (ne_eqb net.end net.start (λ same. apart (sym same))),
      )

-- nothing flows into the start
pub unentered : (net : Network) (flow : ℕ → ℕ) → IsSound net → inflow net flow net.start ≡ 0
unentered net flow sound =
    at_event-none (length net.arcs) (to_of net.arcs) flow net.start (λ a l at. sound.not_entered (a, l, at))
