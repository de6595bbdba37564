-- Where a curve breaks below a length, along the segments on it.
use Rattle.std.proofs.Common.{◌≡◌, ◌≢◌, ℕ, ◌-◌, ◌*◌, ◌<◌, ◌≤◌, ◌⊎◌, Some, None, inl, inr, sym, subst, ap, arith}
use Rattle.std.proofs.lemmas.Bool.{cases_lt, cases_eq}
use Rattle.pc_laws.specs.Segment.{Segment, cost_for}
use Rattle.pc_laws.specs.Curve.{IsTurn, IsBreak, Breakpoint, Meet, upper_point, lower_point}
use Rattle.pc_laws.proofs.Curves.Turns.{IsCurve, LiesOn, straight, upper_costs, turns, turned}
use Rattle.pc_curve.specs.Breaks.{IsNextBreakpoint}

-- the segment reaches down to a length or below it, and the curve does not break between its lower end and that length
pub record IsClear (curve : ℕ → ℕ → Type 0) (shortest longest last : ℕ) (seg : Segment) : Type 0 where
  pub within : shortest ≤ seg.lower
  pub below : seg.lower ≤ last
  pub long : seg.lower < last → seg.lower < seg.upper
  pub clear : (limit : ℕ) → seg.lower < limit → limit < last → IsBreak curve shortest longest limit → ⊥

-- the one end of the range, or the other
abbrev pub single_point : Segment → Breakpoint
single_point seg = record { limit = seg.upper; cost = seg.cost; slope = None }

module _ (curve : ℕ → ℕ → Type 0) (is : IsCurve curve) (shortest longest : ℕ) where
  -- between the ends of the range a break is a turn
  only_turns : (limit : ℕ) → shortest < limit → limit < longest → IsBreak curve shortest longest limit → IsTurn curve limit
  only_turns limit above below breaks =
      elim breaks [
        | inl long ↦ absurd (omega (arith, long, below))
        | inr rest ↦ elim rest [
          | inl short ↦ absurd (omega (arith, short, above))
          | inr between ↦ between.2
        ]
      ]

  module _ (last : ℕ) (within : last ≤ longest) where
    pub clear-begins : (seg : Segment) → LiesOn curve seg → shortest ≤ seg.lower → seg.lower ≤ last → last ≤ seg.upper
        → IsClear curve shortest longest last seg
    clear-begins seg on low below above = record {
      within = low;
      below = below;
      long = λ under. omega (arith, under, above);
      clear = λ limit higher lower breaks.
          straight curve is seg on limit higher (omega (arith, lower, above))
          (only_turns limit (omega (arith, low, higher)) (omega (arith, lower, within)) breaks);
    }

    module _ (seg next : Segment) (on : LiesOn curve seg) (next_on : LiesOn curve next) (is_clear : IsClear curve shortest longest last seg)
        (joined : next.upper ≡ seg.lower) (long : next.lower < next.upper) (low : shortest ≤ next.lower) where
      -- below the length the two segments meet
      meet : next.upper < last → Meet seg next
      meet below = record {
        joined = sym joined;
        first_long = is_clear.long (omega (arith, joined, below));
        second_long = long;
      }

      -- above the lower end of the next segment the curve breaks only at its upper end
      clear-upper : (limit : ℕ) → next.lower < limit → limit < last → IsBreak curve shortest longest limit → limit ≢ next.upper → ⊥
      clear-upper limit higher lower breaks apart =
          elim (cases_lt limit next.upper) [
            | inl inside ↦
                straight curve is next next_on limit higher inside
                (only_turns limit (omega (arith, low, higher)) (omega (arith, lower, within)) breaks)
            | inr beyond ↦
                is_clear.clear limit (omega (arith, beyond, joined, some_above limit beyond apart)) lower breaks
          ]
        where
          some_above : (limit : ℕ) → next.upper ≤ limit → limit ≢ next.upper → next.upper < limit
          some_above limit beyond apart =
              elim (cases_eq limit next.upper) [
                | inl at ↦ absurd (apart at)
                | inr other ↦ omega (arith, beyond, other)
              ]

      -- a segment of the same slope continues
      pub clear-goes_on : (seg.slope ≡ next.slope) ⊎ (last ≤ next.upper) → IsClear curve shortest longest last next
      clear-goes_on goes = record {
        within = low;
        below = omega (arith, long, joined, is_clear.below);
        long = λ under. long;
        clear = λ limit higher lower breaks. clear-upper limit higher lower breaks (λ at. no_turn limit at lower breaks);
      }
        where
          no_turn : (limit : ℕ) → limit ≡ next.upper → limit < last → IsBreak curve shortest longest limit → ⊥
          no_turn limit at lower breaks =
              elim goes [
                | inl even ↦
                    turned curve is seg next on next_on (meet (omega (arith, at, lower)))
                    (subst (IsTurn curve) at (only_turns limit (omega (arith, at, low, long)) (omega (arith, lower, within)) breaks)) even
                | inr over ↦ omega (arith, at, lower, over)
              ]

      -- one of another slope has its upper end as the next breakpoint
      pub next-upper : seg.slope ≢ next.slope → next.upper < last → IsNextBreakpoint curve shortest longest (Some last) (upper_point next)
      next-upper differ below = record {
        breakpoint = record {
          breaks = inr (inr (omega (arith, low, long), omega (arith, below, within), turns curve is seg next on next_on (meet below) differ));
          least = (upper_costs curve is next next_on long).0;
          slopes = (omega (arith, low, long), (upper_costs curve is next next_on long).1);
        };
        ahead = below;
        nearest = λ limit breaks lower. not_above limit lower breaks;
      }
        where
          not_above : (limit : ℕ) → limit < last → IsBreak curve shortest longest limit → limit ≤ next.upper
          not_above limit lower breaks =
              elim (cases_lt next.upper limit) [
                | inl above ↦ absurd (is_clear.clear limit (omega (arith, above, joined)) lower breaks)
                | inr under ↦ under
              ]

    -- at the shortest length the curve ends
    pub next-lower : (seg : Segment) → LiesOn curve seg → IsClear curve shortest longest last seg → seg.lower ≤ seg.upper → seg.lower ≡ shortest
        → shortest < last → IsNextBreakpoint curve shortest longest (Some last) (lower_point seg)
    next-lower seg on is_clear ordered ends below = record {
      breakpoint = record {
        breaks = inr (inl ends);
        least = on.reads seg.lower (omega arith) ordered;
        slopes = ends;
      };
      ahead = omega (arith, ends, below);
      nearest = λ limit breaks lower. not_above limit lower breaks;
    }
      where
        not_above : (limit : ℕ) → limit < last → IsBreak curve shortest longest limit → limit ≤ seg.lower
        not_above limit lower breaks =
            elim (cases_lt seg.lower limit) [
              | inl above ↦ absurd (is_clear.clear limit above lower breaks)
              | inr under ↦ under
            ]

  -- no break is above the longest length
  none_above : shortest ≤ longest → (limit : ℕ) → IsBreak curve shortest longest limit → limit ≤ longest
  none_above ordered limit breaks =
      elim breaks [
        | inl long ↦ omega (arith, long)
        | inr rest ↦ elim rest [
          | inl short ↦ omega (arith, ordered, short)
          | inr between ↦ omega (arith, between.1)
        ]
      ]

  -- the first breakpoint is the upper end of the first segment
  pub first-upper : (seg : Segment) → LiesOn curve seg → seg.upper ≡ longest → shortest < seg.upper → seg.lower < seg.upper
      → IsNextBreakpoint curve shortest longest None (upper_point seg)
  first-upper seg on begins some long = record {
    breakpoint = record {
      breaks = inl begins;
      least = (upper_costs curve is seg on long).0;
      slopes = (some, (upper_costs curve is seg on long).1);
    };
    ahead = tt;
    nearest = λ limit breaks ahead. omega (arith, begins, none_above (omega (arith, begins, some)) limit breaks);
  }

  -- and the only one where the range is one length
  pub first-only : (seg : Segment) → LiesOn curve seg → seg.upper ≡ longest → seg.upper ≤ shortest → shortest ≤ longest → seg.lower ≤ seg.upper
      → IsNextBreakpoint curve shortest longest None (single_point seg)
  first-only seg on begins none within ordered = record {
    breakpoint = record {
      breaks = inl begins;
      least = subst (curve seg.upper) (let no_fall : seg.upper - seg.upper ≡ 0 = omega arith in costs no_fall) (on.reads seg.upper ordered (omega arith));
      slopes = omega (arith, begins, none, within);
    };
    ahead = tt;
    nearest = λ limit breaks ahead. omega (arith, begins, none_above within limit breaks);
  }
    where
      costs : seg.upper - seg.upper ≡ 0 → cost_for seg seg.upper ≡ seg.cost
      costs no_fall = omega (arith, ap (λ n. seg.slope * n) no_fall)
