-- Breakpoints that follow one another are the complete list.
use Rattle.std.proofs.Common.{◌≡◌, ℕ, ◌+◌, ◌<◌, ◌≤◌, ◌⊎◌, zero, suc, List, [], ◌∷◌, ◌++◌, length, Option, Some, None, inl, inr, refl, sym, ◌∙◌, ap, subst, arith}
use Rattle.std.proofs.lemmas.Bool.{cases_lt}
use Rattle.std.proofs.lemmas.List.{length_push}
use Rattle.pc_laws.specs.Curve.{IsBreak, Breakpoint, IsBreakpoint, breakpoint_at, AreBreakpoints}
use Rattle.pc_curve.specs.Breaks.{IsAhead, IsNextBreakpoint, AreBreakpointsTo}

-- the earlier points of a list with one more, and the last one
push_before : (points : List Breakpoint) (point : Breakpoint) (k : ℕ) → k < length points
    → breakpoint_at (points ++ point ∷ []) k ≡ breakpoint_at points k
push_before [] point k inside = absurd (omega (arith, inside))
push_before (p ∷ points) point zero inside = refl
push_before (p ∷ points) point (suc k) inside = push_before points point k (omega (arith, inside))

push_last : (points : List Breakpoint) (point : Breakpoint) → breakpoint_at (points ++ point ∷ []) (length points) ≡ point
push_last [] point = refl
push_last (p ∷ points) point = push_last points point

module _ (curve : ℕ → ℕ → Type 0) (shortest longest : ℕ) where
  pub list-begins : AreBreakpointsTo curve shortest longest None []
  list-begins = record {
    each = λ k inside. absurd (omega (arith, inside));
    passed = λ k inside. absurd (omega (arith, inside));
    every = λ limit breaks not_ahead. absurd (not_ahead tt);
    falling = λ j k earlier inside. absurd (omega (arith, inside));
  }

  module _ (last : Option ℕ) (points : List Breakpoint) (point : Breakpoint)
      (so_far : AreBreakpointsTo curve shortest longest last points) (next : IsNextBreakpoint curve shortest longest last point) where
    -- a length is ahead of the last one, or not
    ahead_or_not : (limit : ℕ) → IsAhead last limit ⊎ (IsAhead last limit → ⊥)
    ahead_or_not limit = decide last limit
      where
        decide : (last : Option ℕ) (limit : ℕ) → IsAhead last limit ⊎ (IsAhead last limit → ⊥)
        decide None limit = inl tt
        decide (Some given) limit =
            elim (cases_lt limit given) [
              | inl below ↦ inl below
              | inr above ↦ inr (λ below. omega (arith, above, below))
            ]

    -- what is not ahead of the last one is above what is ahead of it
    above : (limit : ℕ) → (IsAhead last limit → ⊥) → point.limit < limit
    above limit passed = compare last point.limit next.ahead limit passed
      where
        compare : (last : Option ℕ) (low : ℕ) → IsAhead last low → (limit : ℕ) → (IsAhead last limit → ⊥) → low < limit
        compare None low ahead limit passed = absurd (passed tt)
        compare (Some given) low ahead limit passed =
            elim (cases_lt limit given) [
              | inl below ↦ absurd (passed below)
              | inr above ↦ omega (arith, ahead, above)
            ]

    one_more : length (points ++ point ∷ []) ≡ length points + 1
    one_more = length_push points point

    at_last : breakpoint_at (points ++ point ∷ []) (length points) ≡ point
    at_last = push_last points point

    -- a place of the longer list is one of the shorter one, or the last
    grown : (P : Breakpoint → Type 0) → ((k : ℕ) → k < length points → P (breakpoint_at points k)) → P point
        → (k : ℕ) → k < length (points ++ point ∷ []) → P (breakpoint_at (points ++ point ∷ []) k)
    grown P each holds k inside =
        elim (cases_lt k (length points)) [
          | inl before ↦ subst P (sym (push_before points point k before)) (each k before)
          | inr at ↦
              let last_is : length points ≡ k = omega (arith, at, inside, one_more) in
              subst (λ n. P (breakpoint_at (points ++ point ∷ []) n)) last_is (subst P (sym at_last) holds)
        ]

    falls : (j k : ℕ) → j < k → k < length (points ++ point ∷ [])
        → (breakpoint_at (points ++ point ∷ []) k).limit < (breakpoint_at (points ++ point ∷ []) j).limit
    falls j k earlier inside =
        let before : j < length points = omega (arith, earlier, inside, one_more) in
        let earlier_is = push_before points point j before in
        elim (cases_lt k (length points)) [
          | inl also ↦
              omega (
                arith,
                ap (λ (p : Breakpoint). p.limit) earlier_is,
                ap (λ (p : Breakpoint). p.limit) (push_before points point k also),
                so_far.falling j k earlier also,
              )
          | inr at ↦
              let last_is : length points ≡ k = omega (arith, at, inside, one_more) in
              omega (
                arith,
                ap (λ (p : Breakpoint). p.limit) earlier_is,
                ap (λ (p : Breakpoint). p.limit) at_last,
                ap (λ n. (breakpoint_at (points ++ point ∷ []) n).limit) last_is,
                above (breakpoint_at points j).limit (so_far.passed j before),
              )
        ]

    found : (limit : ℕ) → IsBreak curve shortest longest limit → (limit < point.limit → ⊥)
        → (k : ℕ) × (k < length (points ++ point ∷ [])) × ((breakpoint_at (points ++ point ∷ []) k).limit ≡ limit)
    found limit breaks passed =
        elim (ahead_or_not limit) [
          | inl ahead ↦ (
            length points,
            omega (arith, one_more),
            elim (cases_lt limit point.limit) [
              | inl below ↦ absurd (passed below)
              | inr above ↦ omega (arith, above, next.nearest limit breaks ahead, ap (λ (p : Breakpoint). p.limit) at_last)
            ],
          )
          | inr behind ↦
              let (k, inside, is) = so_far.every limit breaks behind in
              (k, omega (arith, inside, one_more), ap (λ (p : Breakpoint). p.limit) (push_before points point k inside) ∙ is)
        ]

    pub list-grows : AreBreakpointsTo curve shortest longest (Some point.limit) (points ++ point ∷ [])
    list-grows = record {
      each = grown (IsBreakpoint curve shortest longest) so_far.each next.breakpoint;
      passed = grown (λ p. p.limit < point.limit → ⊥)
          (λ k inside below. omega (arith, below, above (breakpoint_at points k).limit (so_far.passed k inside)))
          (λ below. omega (arith, below));
      every = found;
      falling = falls;
    }

  -- no break is below the shortest length
  break_within : shortest ≤ longest → (limit : ℕ) → IsBreak curve shortest longest limit → limit < shortest → ⊥
  break_within ordered limit breaks below =
      elim breaks [
        | inl long ↦ omega (arith, ordered, long, below)
        | inr rest ↦ elim rest [
          | inl short ↦ omega (arith, short, below)
          | inr between ↦ omega (arith, between.0, below)
        ]
      ]

  pub list-whole : (points : List Breakpoint) → shortest ≤ longest → AreBreakpointsTo curve shortest longest (Some shortest) points
      → AreBreakpoints curve shortest longest points
  list-whole points ordered all = record {
    each = all.each;
    every = λ limit breaks. all.every limit breaks (break_within ordered limit breaks);
    falling = all.falling;
  }
