-- An augmentation with total flows, walked back from the end, preserves what holds between two labellings.
use Rattle.std.proofs.Common.{◌≡◌, ◌≢◌, List, length, ℕ, ◌+◌, ◌<◌, inl, inr, sym, subst, arith}
use Rattle.std.proofs.lemmas.Bool.{cases_eq}
use Rattle.pc_model.specs.declared.Term.{Term}
use Rattle.pc_model.specs.Walk.{from_of, to_of}
use Rattle.pc_model.specs.Network.{Network}
use Rattle.pc_model.specs.Schedule.{gap_of}
use Rattle.pc_model.specs.Cost.{Knees, IsPriced}
use Rattle.pc_laws.specs.Stair.{stair_of, IsOnStair}
use Rattle.pc_laws.specs.Steps.{IsStairOptimal, IsStairRaising}
use Rattle.pc_laws.proofs.States.WalkedBack.{part_begins, part_forward, part_backward, part_through, part_leaves, unentered}

module _ (net : Network) (terms : List Term) (knees : Knees) (time along : ℕ → ℕ) (room : ℕ) where
  -- the walk back begins at the end with the flows as they are
  pub stair-raising_begins : (limit value : ℕ) → IsStairOptimal net terms knees limit time along value
      → IsStairRaising net terms knees time along along net.end room
  stair-raising_begins limit value optimal = record { part = part_begins net along room; fits = optimal.on_stair }

  module _ (now next : ℕ → ℕ) (a x : ℕ) (l : a < length net.arcs) (others : (b : ℕ) → b < length net.arcs → b ≢ a → now b ≡ next b)
      (fits : IsOnStair (stair_of terms knees a) (gap_of net.arcs time a) (next a)) (raising : IsStairRaising net terms knees time along now x room) where
    all_fit : (b : ℕ) → b < length net.arcs → IsOnStair (stair_of terms knees b) (gap_of net.arcs time b) (next b)
    all_fit b m =
        elim (cases_eq b a) [
          | inl is ↦ subst (λ c. IsOnStair (stair_of terms knees c) (gap_of net.arcs time c) (next c)) (sym is) fits
          | inr ne ↦ subst (λ v. IsOnStair (stair_of terms knees b) (gap_of net.arcs time b) v) (others b m ne) (raising.fits b m)
        ]

    -- a step back along an activity that ends at x: the room flows on it too
    pub stair-raising_along : to_of net.arcs a ≡ x → next a ≡ now a + room → IsStairRaising net terms knees time along next (from_of net.arcs a) room
    stair-raising_along at more = record { part = part_forward net along room now next a x l at more others raising.part; fits = all_fit }

    -- a step back against an activity that begins at x: as much less flows on it
    pub stair-raising_against : from_of net.arcs a ≡ x → next a + room ≡ now a → IsStairRaising net terms knees time along next (to_of net.arcs a) room
    stair-raising_against at less = record { part = part_backward net along room now next a x l at less others raising.part; fits = all_fit }

  -- back at the start, what holds between two labellings holds of the raised flows
  pub stair-raised : (limit value : ℕ) (now : ℕ → ℕ) → IsPriced net terms knees → IsStairOptimal net terms knees limit time along value
      → IsStairRaising net terms knees time along now net.start room → IsStairOptimal net terms knees limit time now (value + room)
  stair-raised limit value now priced optimal raising = record {
    starts = optimal.starts;
    ends = optimal.ends;
    ahead = optimal.ahead;
    on_stair = raising.fits;
    conserved = λ e l not_start not_end. part_through net along room now e raising.part l not_start not_end (optimal.conserved e l not_start not_end);
    leaves = omega (
      arith,
      optimal.leaves,
      part_leaves net along room now raising.part priced.range.start_in priced.range.apart (unentered net along priced.sound) (unentered net now priced.sound),
    );
  }
