-- The parts of periods that follow one another add up.
use Rattle.std.proofs.Common.{◌≡◌, ℕ, zero, suc, ◌+◌, ◌*◌, ◌<◌, ◌≤◌, ap, sym, subst, arith}
use Rattle.std.specs.Prelude.{ℤ, pos, ◌+ℤ◌}
use Rattle.std.proofs.lemmas.Int.{ints}
use Rattle.std.proofs.Math.Nat.{mul-le-mul_left}
use Rattle.pc_rollup.specs.Sums.{IsSumOver}
use Rattle.pc_rollup.proofs.SumLaws.{IsSumOver-amounts, IsSumOver-nothing, IsSumOver-plus}
use Rattle.pc_load.specs.declared.spread.Spread.{Spread}
use Rattle.pc_load.specs.Share.{share, part}
use Rattle.pc_load.specs.Table.{sum_before}
use Rattle.pc_load.specs.inside.Table.{IsOver}
use Rattle.pc_load.proofs.ShareLaws.{share_all, share_none, part_more}

-- what grows by f in each period is summed by the sums of f
series : (P : ℕ → Type 0) (m n : ℕ) (f so_far : ℕ → ℕ → ℤ) (amount : ℕ → ℤ)
    → ((e : ℕ) → so_far 0 e ≡ pos 0)
    → ((k e : ℕ) → so_far (suc k) e ≡ so_far k e +ℤ f k e)
    → ((k : ℕ) → k < n → IsSumOver P m (f k) (amount k))
    → IsSumOver P m (λ e. pos 0) (pos 0)
    → IsSumOver P m (so_far n) (sum_before n amount)
series P m zero f so_far amount none more each nothing =
    IsSumOver-amounts P m (λ e. pos 0) (so_far 0) (pos 0) (λ e h. sym (none e)) nothing
series P m (suc n) f so_far amount none more each nothing =
    IsSumOver-amounts P m (λ e. so_far n e +ℤ f n e) (so_far (suc n)) (sum_before n amount +ℤ amount n) (λ e h. sym (more n e))
    (IsSumOver-plus P m (so_far n) (f n) (sum_before n amount) (amount n) (series P m n f so_far amount none more (λ k lt. each k (omega arith)) nothing) (each n (omega arith)))

-- the part of a period is what the share grows by in it
share_next : (s : Spread) (width k : ℕ) → pos (share s (width * suc k)) ≡ pos (share s (width * k)) +ℤ pos (part s (width * k) (width * (k + 1)))
share_next s width k =
    let up = mul-le-mul_left {m = k} {n = k + 1} width (omega arith) in
    let more = part_more s (width * k) (width * (k + 1)) up in
    let next : k + 1 ≡ suc k = omega arith in
    subst (λ (n : ℕ). pos (share s (width * n)) ≡ pos (share s (width * k)) +ℤ pos (part s (width * k) (width * (k + 1)))) next (omega (arith, ints))

share_first : (s : Spread) (width : ℕ) → pos (share s (width * 0)) ≡ pos 0
share_first s width = ap pos (share_none s (width * 0) (omega arith))

-- where n periods hold the end of all spreads, the sums of their parts add up to the sum of their amounts
pub adds_up : (P : ℕ → Type 0) (m n width : ℕ) (spread : ℕ → Spread) (amount : ℕ → ℤ) → 1 ≤ n
    → ((k : ℕ) → k < n → IsSumOver P m (λ e. pos (part (spread e) (width * k) (width * (k + 1)))) (amount k))
    → ((e : ℕ) → e < m → IsOver (spread e) (width * n))
    → IsSumOver P m (λ e. pos (spread e).amount) (sum_before n amount)
adds_up P m n width spread amount some each over =
    IsSumOver-amounts P m (λ e. pos (share (spread e) (width * n))) (λ e. pos (spread e).amount) (sum_before n amount)
    (λ e h. ap pos (share_all (spread e) (width * n) ((over e h).0) ((over e h).1)))
    (series P m n (λ k e. pos (part (spread e) (width * k) (width * (k + 1)))) (λ k e. pos (share (spread e) (width * k))) amount
    (λ e. share_first (spread e) width) (λ k e. share_next (spread e) width k) each
    (IsSumOver-nothing P m (λ e. pos (part (spread e) (width * 0) (width * (0 + 1)))) (amount 0) (each 0 some)))
