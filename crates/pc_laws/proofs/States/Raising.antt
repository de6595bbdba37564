-- An augmentation preserves what holds between two labellings.
use Rattle.std.proofs.Common.{◌≡◌, ◌≢◌, ◌≤◌, ◌<◌, ◌+◌, ℕ, ◌⊎◌, inl, inr, ⊎_elim, List, length, arith, refl, sym, ◌∙◌, subst}
use Rattle.std.proofs.lemmas.Bool.{cases_eq}
use Rattle.pc_model.specs.declared.Term.{Term}
use Rattle.pc_model.specs.Walk.{from_of, to_of}
use Rattle.pc_model.specs.Network.{Network}
use Rattle.pc_model.specs.Schedule.{crash_of}
use Rattle.pc_model.specs.Cost.{Knees, IsPriced}
use Rattle.pc_laws.specs.Flow.{whole_flow}
use Rattle.pc_laws.specs.Tight.{IsTight}
use Rattle.pc_laws.specs.State.{State, IsOptimal, IsAtKnee, IsAtCrash, IsPart, IsRaising, IsStep, augmented}
use Rattle.pc_model.proofs.Sums.{sum_to-same}
use Rattle.pc_laws.proofs.States.WalkedBack.{part_begins, part_forward, part_backward, part_through, part_leaves, unentered}

-- where the gap is no knee, the flow there stays as it is; so a tight activity stays tight
still_tight : (terms : List Term) (knees : Knees) (a tail head : ℕ) (f h : ℕ → ℕ) (g i : ℕ) → IsTight terms knees a tail head f g
    → ((k : ℕ) → k < knees.count a → (h k ≡ f k) ⊎ (tail + knees.knee a k ≡ head)) → ((i ≡ g) ⊎ (tail + crash_of terms a ≡ head))
    → IsTight terms knees a tail head h i
still_tight terms knees a tail head f h g i tight at_knee at_crash = record {
  room = tight.room;
  slack = record {
    at_knees = λ k l. record {
      above = λ far. ⊎_elim (λ same. same ∙ (tight.slack.at_knees k l).above far) (λ at. absurd (omega arith)) (at_knee k l);
      below = λ near. ⊎_elim (λ same. same ∙ (tight.slack.at_knees k l).below near) (λ at. absurd (omega arith)) (at_knee k l);
    };
    above_crash = λ far. ⊎_elim (λ same. same ∙ tight.slack.above_crash far) (λ at. absurd (omega arith)) at_crash;
  };
}

-- two reasons why a value may differ are one
either_way : (x y z : ℕ) (P : Type 0) → (x ≡ y) ⊎ P → (y ≡ z) ⊎ P → (x ≡ z) ⊎ P
either_way x y z P first second = ⊎_elim (λ same. ⊎_elim (λ was. inl (same ∙ was)) inr second) inr first

module _ (net : Network) (terms : List Term) (knees : Knees) (st : State) (room : ℕ) where
  -- the walk back begins at the end, with the state's own flows
  pub raising_begins : IsOptimal net terms knees st → IsRaising net terms knees st st.flow st.beside net.end room
  raising_begins optimal = record {
    part = part_begins net (whole_flow knees st.flow st.beside) room;
    capacity = optimal.flow.capacity;
    at_knee = λ a k l below. inl refl;
    at_crash = λ a l. inl refl;
  }

  module _ (f next_f : ℕ → ℕ → ℕ) (g next_g : ℕ → ℕ) (a x : ℕ) (l : a < length net.arcs) (step : IsStep net terms knees st f next_f g next_g a)
      (raising : IsRaising net terms knees st f g x room) where
    -- the total flow changes only along a
    whole : (b : ℕ) → b < length net.arcs → b ≢ a → whole_flow knees f g b ≡ whole_flow knees next_f next_g b
    whole b m ne = omega (arith, sum_to-same (knees.count b) (f b) (next_f b) (λ k below. step.others b k m ne below), step.others_beside b m ne)

    -- all but the part
    stepped : (y : ℕ) → IsPart net (whole_flow knees st.flow st.beside) (whole_flow knees next_f next_g) y room → IsRaising net terms knees st next_f next_g y room
    stepped y part = record {
      part = part;
      capacity = λ b k m. ⊎_elim
          (λ is. subst (λ c. k < knees.count c → next_f c k ≤ knees.rise c k) (sym is) (step.capacity k))
          (λ ne below. subst (λ v. v ≤ knees.rise b k) (step.others b k m ne below) (raising.capacity b k m below)) (cases_eq b a);
      at_knee = λ b k m. ⊎_elim
          (λ is. subst (λ c. k < knees.count c → (next_f c k ≡ st.flow c k) ⊎ IsAtKnee net knees st.time c k) (sym is)
          (λ below. either_way (next_f a k) (f a k) (st.flow a k) (IsAtKnee net knees st.time a k) (step.at_knee k below) (raising.at_knee a k l below)))
          (λ ne below. either_way (next_f b k) (f b k) (st.flow b k) (IsAtKnee net knees st.time b k) (inl (sym (step.others b k m ne below))) (raising.at_knee b k m below))
          (cases_eq b a);
      at_crash = λ b m. ⊎_elim
          (λ is. subst (λ c. (next_g c ≡ st.beside c) ⊎ IsAtCrash net terms st.time c) (sym is)
          (either_way (next_g a) (g a) (st.beside a) (IsAtCrash net terms st.time a) step.at_crash (raising.at_crash a l)))
          (λ ne. either_way (next_g b) (g b) (st.beside b) (IsAtCrash net terms st.time b) (inl (sym (step.others_beside b m ne))) (raising.at_crash b m))
          (cases_eq b a);
    }

    -- a step back along an activity that ends at x: the room flows on it too
    pub raising_forward : to_of net.arcs a ≡ x → whole_flow knees next_f next_g a ≡ whole_flow knees f g a + room
        → IsRaising net terms knees st next_f next_g (from_of net.arcs a) room
    raising_forward at more =
        stepped (from_of net.arcs a)
        (part_forward net (whole_flow knees st.flow st.beside) room (whole_flow knees f g) (whole_flow knees next_f next_g) a x l at more whole raising.part)

    -- a step back against an activity that begins at x: as much less flows on it
    pub raising_backward : from_of net.arcs a ≡ x → whole_flow knees next_f next_g a + room ≡ whole_flow knees f g a
        → IsRaising net terms knees st next_f next_g (to_of net.arcs a) room
    raising_backward at less =
        stepped (to_of net.arcs a)
        (part_backward net (whole_flow knees st.flow st.beside) room (whole_flow knees f g) (whole_flow knees next_f next_g) a x l at less whole raising.part)

  -- back at the start, what holds between two labellings holds of the raised flows
  pub optimal_raised : (f : ℕ → ℕ → ℕ) (g : ℕ → ℕ) → IsPriced net terms knees → IsOptimal net terms knees st
      → IsRaising net terms knees st f g net.start room → IsOptimal net terms knees (augmented st f g room)
  optimal_raised f g priced optimal raising = record {
    tight = record {
      starts = optimal.tight.starts;
      tight = λ a l. still_tight terms knees a _ _ _ _ _ _ (optimal.tight.tight a l) (λ k below. raising.at_knee a k l below) (raising.at_crash a l);
    };
    ends = optimal.ends;
    flow = record {
      capacity = raising.capacity;
      conserved = λ e l ns ne. part_through net (whole_flow knees st.flow st.beside) room (whole_flow knees f g) e raising.part l ns ne (optimal.flow.conserved e l ns ne);
      leaves = omega (
        arith,
        optimal.flow.leaves,
        part_leaves net (whole_flow knees st.flow st.beside) room (whole_flow knees f g) raising.part priced.range.start_in priced.range.apart
            (unentered net (whole_flow knees st.flow st.beside) priced.sound) (unentered net (whole_flow knees f g) priced.sound),
      );
    };
  }
