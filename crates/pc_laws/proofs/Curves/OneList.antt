-- A curve has one list of breakpoints.
use Rattle.std.proofs.Common.{◌≡◌, ◌≤◌, ◌<◌, ◌+◌, ◌-◌, ⊎_elim, ℕ, zero, suc, List, [], ◌∷◌, length, Option, Some, None, arith, refl, sym, ◌∙◌, subst, ap}
use Rattle.std.proofs.lemmas.Bool.{cases_lt, cases_order}
use Rattle.std.specs.Option.{MatchOption}
use Rattle.pc_laws.specs.Curve.{Breakpoint, IsBreakpoint, breakpoint_at, AreBreakpoints}

-- lists of one length that agree at each place are equal
same_points : (ps qs : List Breakpoint) → length ps ≡ length qs → ((k : ℕ) → k < length ps → breakpoint_at ps k ≡ breakpoint_at qs k) → ps ≡ qs
same_points [] [] long same = refl
same_points [] (q ∷ qs) long same = absurd (omega (arith, long))
same_points (p ∷ ps) [] long same = absurd (omega (arith, long))
same_points (p ∷ ps) (q ∷ qs) long same =
    ap (λ x. x ∷ ps) (same 0 (omega arith)) ∙ ap (λ x. q ∷ x) (same_points ps qs (omega (arith, long)) (λ k l. same (suc k) (omega arith)))

-- a breakpoint of three parts
abbrev pointed : ℕ → ℕ → Option ℕ → Breakpoint
pointed limit cost slope = record { limit = limit; cost = cost; slope = slope }

module _ (curve : ℕ → ℕ → Type 0) (one : (limit a b : ℕ) → curve limit a → curve limit b → a ≡ b) (shortest longest : ℕ) where
  -- at one length a breakpoint has one cost and one slope
  one_slope : (limit cost : ℕ) (s t : Option ℕ)
      → MatchOption s (limit ≡ shortest) (λ slope. (shortest < limit) × curve (limit - 1) (cost + slope))
      → MatchOption t (limit ≡ shortest) (λ slope. (shortest < limit) × curve (limit - 1) (cost + slope))
      → s ≡ t
  one_slope limit cost None None p q = refl
  one_slope limit cost None (Some y) p q = absurd (omega (arith, p, q.0))
  one_slope limit cost (Some x) None p q = absurd (omega (arith, p.0, q))
  one_slope limit cost (Some x) (Some y) p q =
      ap (λ (n : ℕ). Some n) (let same = one (limit - 1) (cost + x) (cost + y) p.1 q.1 in omega arith)

  one_point : (p q : Breakpoint) → IsBreakpoint curve shortest longest p → IsBreakpoint curve shortest longest q → p.limit ≡ q.limit → p ≡ q
  one_point p q is_p is_q same =
      let costs : p.cost ≡ q.cost = one p.limit p.cost q.cost is_p.least (subst (λ n. curve n q.cost) (sym same) is_q.least) in
      let slopes : p.slope ≡ q.slope = one_slope p.limit p.cost p.slope q.slope is_p.slopes
      (subst (λ c. MatchOption q.slope (p.limit ≡ shortest) (λ slope. (shortest < p.limit) × curve (p.limit - 1) (c + slope))) (sym costs)
      (subst (λ n. MatchOption q.slope (n ≡ shortest) (λ slope. (shortest < n) × curve (n - 1) (q.cost + slope))) (sym same) is_q.slopes)) in
      ap (λ n. pointed n p.cost p.slope) same ∙ ap (λ n. pointed q.limit n p.slope) costs ∙ ap (λ s. pointed q.limit q.cost s) slopes

  module _ (ps qs : List Breakpoint) (p : AreBreakpoints curve shortest longest ps) (q : AreBreakpoints curve shortest longest qs) where
    -- a length in the one list is in the other
    found : (k : ℕ) → k < length ps → (j : ℕ) × (j < length qs) × ((breakpoint_at qs j).limit ≡ (breakpoint_at ps k).limit)
    found k l = q.every (breakpoint_at ps k).limit (p.each k l).breaks

    -- if the lists agree before place k, the length there in the one list is at most that in the other
    not_above : (k : ℕ) → k < length ps → k < length qs → ((j : ℕ) → j < k → (breakpoint_at ps j).limit ≡ (breakpoint_at qs j).limit)
        → (breakpoint_at ps k).limit ≤ (breakpoint_at qs k).limit
    not_above k l m same =
        let (j, in_list, at) = found k l in
        ⊎_elim (λ is. omega (arith, at, ap (λ n. (breakpoint_at qs n).limit) is))
        (⊎_elim (λ before. absurd (omega (arith, at, same j before, p.falling j k before l)))
        (λ after. omega (arith, at, q.falling k j after in_list)))
        (cases_order j k)

    -- and the other list reaches as far
    reaches : (k : ℕ) → k < length ps → ((j : ℕ) → j < k → (breakpoint_at ps j).limit ≡ (breakpoint_at qs j).limit) → k < length qs
    reaches k l same =
        let (j, in_list, at) = found k l in
        ⊎_elim (λ before. absurd (omega (arith, at, same j before, p.falling j k before l))) (λ after. omega arith) (cases_lt j k)

-- the lists of breakpoints of a curve are one
pub one_list : (curve : ℕ → ℕ → Type 0) → ((limit a b : ℕ) → curve limit a → curve limit b → a ≡ b) → (shortest longest : ℕ) (ps qs : List Breakpoint)
    → AreBreakpoints curve shortest longest ps → AreBreakpoints curve shortest longest qs → ps ≡ qs
one_list curve one shortest longest ps qs p q =
    same_points ps qs (omega (arith, longer ps qs p q, longer qs ps q p))
    (λ k l. one_point curve one shortest longest (breakpoint_at ps k) (breakpoint_at qs k) (p.each k l)
    (q.each k (agree ps qs p q (suc k) k (omega arith) l).0) (agree ps qs p q (suc k) k (omega arith) l).1)
  where
    -- the lengths at a place of the two lists are equal
    agree : (ps qs : List Breakpoint) → AreBreakpoints curve shortest longest ps → AreBreakpoints curve shortest longest qs
        → (n k : ℕ) → k < n → k < length ps → (k < length qs) × ((breakpoint_at ps k).limit ≡ (breakpoint_at qs k).limit)
    agree ps qs p q zero k below l = absurd (omega arith)
    agree ps qs p q (suc n) k below l =
        let before = λ (j : ℕ) (b : j < k). (agree ps qs p q n j (omega arith) (omega arith)).1 in
        let m : k < length qs = reaches curve one shortest longest ps qs p q k l before in (
          m,
          omega (
            arith,
            not_above curve one shortest longest ps qs p q k l m before,
            not_above curve one shortest longest qs ps q p k m l (λ j b. sym (before j b)),
          ),
        )

    longer : (ps qs : List Breakpoint) → AreBreakpoints curve shortest longest ps → AreBreakpoints curve shortest longest qs → length ps ≤ length qs
    longer [] qs p q = omega arith
    longer (x ∷ ps) qs p q = omega (arith, (agree (x ∷ ps) qs p q (length (x ∷ ps)) (length ps) (omega arith) (omega arith)).0)
