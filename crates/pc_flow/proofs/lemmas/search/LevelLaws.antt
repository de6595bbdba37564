-- If a step has room left after an augmentation, the flow stays on arcs of one length.
use Rattle.std.proofs.Common.{◌≡◌, ℕ, ◌+◌, ◌-◌, ◌<◌, ◌≤◌, length, sym, ◌∙◌, ap, subst, inl, inr, arith}
use Rattle.std.proofs.lemmas.Bool.{cases_lt}
use Rattle.pc_laws.specs.Stair.{Stair, IsFalling, unit_length, IsOnStair}
use Rattle.pc_laws.proofs.Stairs.Units.{unit-falls}
use Rattle.pc_crash.specs.Priced.{PricedNetwork}
use Rattle.pc_flow.specs.board.Sheets.{Sheet, rank_of, flow_of}
use Rattle.pc_flow.specs.inside.board.Sheets.{step_of, against_of, near_of, room_of}
use Rattle.pc_flow.specs.inside.board.Labelling.{HasStep}
use Rattle.pc_flow.specs.inside.board.Raising.{event_back, IsStepTaken, IsRaisedBy}
use Rattle.pc_flow.specs.inside.search.Searches.{stair_at, gap_at, IsSearch}
use Rattle.pc_flow.specs.inside.search.Lengths.{IsLevelAt, AreLevelBack}
use Rattle.pc_flow.proofs.lemmas.search.LengthLaws.{back-same}

-- the units between two flows that fit a gap run on arcs as long as the gap
stair-level : (s : Stair) → IsFalling s → (gap x y z : ℕ) → IsOnStair s gap x → IsOnStair s gap z → x ≤ y → y < z → unit_length s y ≡ gap
stair-level s falling gap x y z low high from to =
    omega (arith, low.next, unit-falls s falling x y from, high.last (omega arith), unit-falls s falling y (z - 1) (omega arith))

module _ (net : PricedNetwork) (s t : Sheet) (e by k : ℕ) (search : IsSearch net s) (raised : IsRaisedBy s t e by k)
    (kept : t ≡ record s { room = t.room; flow = t.flow }) where
  -- one of the steps
  module _ (f : ℕ) (known : f < s.events) (has : HasStep s f) (taken : IsStepTaken s t by f) (left : 0 < room_of t f) where
    abbrev a : ℕ
    a = step_of s f

    inside : a < length net.network.arcs
    inside = omega (arith, search.steps.known f known has, search.fits.activities)

    level-along : against_of s f ≡ 0 → (y : ℕ) → flow_of s a ≤ y → y < flow_of s a + room_of s f → unit_length (stair_at net a) y ≡ gap_at net s a
    level-along none y from to =
        stair-level (stair_at net a) (search.stairs.falling a inside) (gap_at net s a) (flow_of s a) y (flow_of s a + room_of s f)
        (search.stairs.on a inside) (search.led.along f known has none) from to

    level-against : 0 < against_of s f → (y : ℕ) → flow_of s a - room_of s f ≤ y → y < flow_of s a → unit_length (stair_at net a) y ≡ gap_at net s a
    level-against some y from to =
        stair-level (stair_at net a) (search.stairs.falling a inside) (gap_at net s a) (flow_of s a - room_of s f) y (flow_of s a)
        (search.led.against f known has some) (search.stairs.on a inside) from to

    step-level : IsLevelAt net t f
    step-level = subst (λ v. IsLevelAt net v f) (sym kept) (elim (cases_lt 0 (against_of s f)) [
      | inl some ↦
          let within = search.steps.against f known has some in
          let now : unit_length (stair_at net a) (flow_of t a) ≡ gap_at net s a =
          level-against some (flow_of t a) (omega (arith, taken.against some, taken.room)) (omega (arith, taken.against some, raised.some)) in
          record {
            some = omega (arith, taken.against some, taken.room, within, left);
            level =
                level-against some (flow_of t a - 1) (omega (arith, taken.against some, taken.room, left)) (omega (arith, taken.against some, raised.some))
                ∙ sym now;
            along = λ none. absurd (omega (arith, some, none));
            against = λ again.
                (search.lengths a inside).down (omega (arith, taken.against some, raised.some))
                ∙ (level-against some (flow_of s a - 1) (omega (arith, taken.room, left)) (omega (arith, taken.against some, raised.some)) ∙ sym now);
          }
      | inr none ↦
          let along : against_of s f ≡ 0 = omega arith in
          let now : unit_length (stair_at net a) (flow_of t a) ≡ gap_at net s a =
          level-along along (flow_of t a) (omega (arith, taken.along along)) (omega (arith, taken.along along, taken.room, left)) in
          record {
            some = omega (arith, taken.along along, raised.some);
            level =
                level-along along (flow_of t a - 1) (omega (arith, taken.along along, raised.some)) (omega (arith, taken.along along, taken.room))
                ∙ sym now;
            along = λ again.
                (search.lengths a inside).up ∙ (level-along along (flow_of s a) (omega arith) (omega (arith, taken.room, left)) ∙ sym now);
            against = λ some. absurd (omega (arith, some, along));
          }
    ])

  -- all of them
  pub level-back : AreLevelBack net t t e
  level-back j has left =
      subst (λ f. IsLevelAt net t f) (sym (back j))
      (step-level (event_back s e j) (raised.raising.way.known j (omega (arith, below))) (raised.raising.way.steps j below)
      (raised.raising.taken j below) (omega (arith, left, ap (room_of t) (back j))))
    where
      back : (i : ℕ) → event_back t e i ≡ event_back s e i
      back = back-same s t (λ f. ap (λ (v : Sheet). near_of v f) kept) e

      below : j < k
      below =
          elim (cases_lt j k) [
            | inl early ↦ early
            | inr late ↦
                absurd (omega (
                  arith,
                  has k (omega arith),
                  ap (rank_of t) (back k),
                  ap (λ (v : Sheet). rank_of v (event_back s e k)) kept,
                  ap (rank_of s) raised.raising.way.leads,
                  raised.first,
                ))
          ]
