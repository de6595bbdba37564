-- Convex costs: what neighbours show about the complete range.
use Rattle.std.proofs.Common.{◌≡◌, ℕ, zero, suc, ◌+◌, ◌-◌, ◌*◌, ◌<◌, ◌≤◌, inl, inr, subst, arith}
use Rattle.std.proofs.lemmas.Bool.{cases_lt}

-- a length has one cost; of three lengths in a row the middle one costs at most the mean of the outer ones; and where a length
-- has a cost, each longer one cannot be without
pub record IsConvex (f : ℕ → ℕ → Type 0) : Type 0 where
  pub unique : (limit a b : ℕ) → f limit a → f limit b → a ≡ b
  pub convex : (limit a b c : ℕ) → f limit a → f (limit + 1) b → f (limit + 2) c → 2 * b ≤ a + c
  pub goes_on : (limit a longer : ℕ) → f limit a → limit ≤ longer → ((b : ℕ) × f longer b → ⊥) → ⊥

module _ (f : ℕ → ℕ → Type 0) (is : IsConvex f) where
  at-length : (a limit other : ℕ) → limit ≡ other → f limit a → f other a
  at-length a limit other same here = subst (λ n. f n a) same here

  -- what a unit more saves falls with the length
  pub gains-fall : (n low high a b c d : ℕ) → high ≡ low + n → f low a → f (low + 1) b → f high c → f (high + 1) d → c + b ≤ a + d
  gains-fall zero low high a b c d at first second third fourth =
      omega (
        arith,
        is.unique low a c first (at-length c high low (omega (arith, at)) third),
        is.unique (low + 1) b d second (at-length d (high + 1) (low + 1) (omega (arith, at)) fourth),
      )
  gains-fall (suc n) low high a b c d at first second third fourth =
      elim (cases_lt (a + d) (c + b)) [
        | inl less ↦ absurd (is.goes_on (low + 1) b (low + 2) second (omega arith) (λ middle.
            let (e, there) = middle in
            omega (
              arith,
              less,
              is.convex low a b e first second there,
              gains-fall n (low + 1) high b e c d (omega (arith, at)) second (at-length e (low + 2) (low + 1 + 1) (omega arith) there) third fourth,
            )))
        | inr not_less ↦ not_less
      ]

  -- where a unit less costs more, each shorter length does
  pub dearer-below : (n low limit w x y : ℕ) → limit ≡ low + n → f low y → f limit x → f (limit + 1) w → w < x → w < y
  dearer-below zero low limit w x y at first here next less =
      omega (arith, less, is.unique limit y x (at-length y low limit (omega (arith, at)) first) here)
  dearer-below (suc n) low limit w x y at first here next less =
      elim (cases_lt w y) [
        | inl dearer ↦ dearer
        | inr not_dearer ↦ absurd (is.goes_on low y (limit - 1) first (omega (arith, at)) (λ middle.
            let (z, there) = middle in
            let after : f (limit - 1 + 1) x = at-length x limit (limit - 1 + 1) (omega (arith, at)) here in
            let bent : 2 * x ≤ z + w = is.convex (limit - 1) z x w there after (at-length w (limit + 1) (limit - 1 + 2) (omega (arith, at)) next) in
            omega (arith, not_dearer, less, bent, dearer-below n low (limit - 1) x z y (omega (arith, at)) first there after (omega (arith, bent, less)))))
      ]

  -- where a unit more costs no less, no longer length does
  pub no-cheaper-above : (n limit high w x y : ℕ) → high ≡ limit + 1 + n → f limit w → f (limit + 1) x → f high y → w ≤ x → w ≤ y
  no-cheaper-above zero limit high w x y at here next last more =
      omega (arith, more, is.unique (limit + 1) x y next (at-length y high (limit + 1) (omega (arith, at)) last))
  no-cheaper-above (suc n) limit high w x y at here next last more =
      elim (cases_lt y w) [
        | inl less ↦ absurd (is.goes_on (limit + 1) x (limit + 2) next (omega arith) (λ middle.
            let (z, there) = middle in
            let bent : 2 * x ≤ w + z = is.convex limit w x z here next there in
            omega (
              arith,
              less,
              more,
              no-cheaper-above n (limit + 1) high x z y (omega (arith, at)) next (at-length z (limit + 2) (limit + 1 + 1) (omega arith) there) last
                  (omega (arith, bent, more)),
            )))
        | inr not_less ↦ not_less
      ]
