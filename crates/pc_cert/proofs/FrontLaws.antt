-- Vectors of 32 bytes that are compared lane by lane.
use Rattle.std.proofs.Common.{◌≡◌, ℕ, suc, ◌*◌, ◌%◌, ◌^◌, ◌<◌, ◌≤◌, List, Bool, true, false, cond, eqb, length, take}
use Rattle.std.proofs.Common.{get_or, map, refl, sym, ap, ◌∙◌, arith, w8, bit_and, pow_pos, pow_mono, length-take-le}
use Rattle.std.specs.Int.{bit_at}
use Rattle.std.specs.Simd.Lanes.{zip2, mask_l, top}
use Rattle.std.proofs.Math.Nat.{two-pow-succ}
use Rattle.std.proofs.lemmas.Bool.{eqb-true}
use Rattle.std.proofs.lemmas.List.{ext_get_or, get_or-take}
use Rattle.std.proofs.lemmas.Nat.Bits.{bit_at_and}
use Rattle.std.proofs.lemmas.Simd.{bit_mask_l, get_or-zip2, length-zip2, mask_l-mod, tops_compared}

is_set : (bit : Bool) → cond {A = ℕ} bit 1 0 ≡ 1 → bit ≡ true
is_set true h = refl
is_set false h = absurd (omega arith)

-- where the bit of a lane is set, the two bytes there are the same
pub lanes_tell : (xs ys : List ℕ) (k : ℕ) → length xs ≡ 32 → length ys ≡ 32 → k < 32 →
    bit_at (mask_l (map (top 7) (zip2 (λ a b. cond (eqb a b) 255 0) xs ys)) % 2 ^ 64) k ≡ 1 → get_or xs k 0 ≡ get_or ys k 0
lanes_tell xs ys k p q l set =
    let long : length (zip2 eqb xs ys) ≡ 32 = length-zip2 eqb xs ys (p ∙ sym q) ∙ p in
    let mask : mask_l (map (top 7) (zip2 (λ a b. cond (eqb a b) 255 0) xs ys)) % 2 ^ 64 ≡ mask_l (zip2 eqb xs ys) =
    ap (λ ms. mask_l ms % 2 ^ 64) (tops_compared w8 eqb xs ys) ∙ mask_l-mod (zip2 eqb xs ys) 64 (omega (arith, long)) in
    let bit : cond (get_or (zip2 eqb xs ys) k false) 1 0 ≡ 1 = sym (bit_mask_l (zip2 eqb xs ys) k) ∙ ap (λ m. bit_at m k) (sym mask) ∙ set in
    let lane = get_or-zip2 eqb xs ys k 0 0 false (omega (arith, p)) (omega (arith, q)) in
    eqb-true _ _ (sym lane ∙ is_set _ bit)

-- the lowest bits, of which there are less than 64
pub one_moved : (n : ℕ) → n < 64 → 1 * 2 ^ n % 2 ^ 64 ≡ 2 ^ n
one_moved n l =
    let small : 2 ^ n < 2 ^ 64 = omega (arith, two-pow-succ n, pow_pos n, pow_mono {i = suc n} {j = 64} (omega arith)) in
    omega arith

-- where all the lowest bits of a mask are set, the first bytes are the same
pub fronts_are_same : (xs ys : List ℕ) (count mask low : ℕ) → count ≤ length xs → count ≤ length ys → count ≤ 32 →
    ((k : ℕ) → k < count → bit_at low k ≡ 1) → ((k : ℕ) → k < 32 → bit_at mask k ≡ 1 → get_or xs k 0 ≡ get_or ys k 0) →
    bit_and mask low ≡ low → take count xs ≡ take count ys
fronts_are_same xs ys count mask low p q few ones tells all =
    let long = length-take-le count xs p in
    ext_get_or 0 (take count xs) (take count ys) (long ∙ sym (length-take-le count ys q)) (λ k l.
    let less : k < count = omega (arith, long) in
    let set : bit_at mask k ≡ 1 = omega (arith, bit_at_and mask low k, ap (λ m. bit_at m k) all, ones k less) in
    get_or-take count xs k 0 less ∙ tells k (omega (arith, less)) set ∙ sym (get_or-take count ys k 0 less))
