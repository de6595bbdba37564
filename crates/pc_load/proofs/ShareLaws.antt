-- Laws of shares and parts.
use Rattle.std.proofs.Common.{◌≡◌, ℕ, ◌+◌, ◌-◌, ◌*◌, ◌/◌, ◌<◌, ◌≤◌, ⊎_elim, arith}
use Rattle.std.proofs.lemmas.Bool.{cases_lt}
use Rattle.std.proofs.lemmas.Bool.Decides.{nat_tests}
use Rattle.std.proofs.lemmas.Nat.{le-div}
use Rattle.std.proofs.Math.Nat.{div-le_of_le-mul, div-mul-le_self, mul_comm, mul-le-mul_left}
use Rattle.pc_load.specs.declared.spread.Spread.{Spread}
use Rattle.pc_load.specs.Share.{share, part}

-- up to the beginning the share is nothing
pub share_none : (s : Spread) (t : ℕ) → t ≤ s.begin → share s t ≡ 0
share_none s t le = grind (arith, nat_tests)

-- after the beginning, from the end on, the share is all
pub share_all : (s : Spread) (t : ℕ) → s.begin < t → s.begin + s.length ≤ t → share s t ≡ s.amount
share_all s t lt le = grind (arith, nat_tests)

-- between them the share is the ratio
share_some : (s : Spread) (t : ℕ) → s.begin < t → t < s.begin + s.length → share s t ≡ s.amount * (t - s.begin) / s.length
share_some s t lt less = grind (arith, nat_tests)

-- a ratio grows with the time
ratio_grows : (amount length d e : ℕ) → 0 < length → d ≤ e → amount * d / length ≤ amount * e / length
ratio_grows amount length d e some le =
    let under = div-mul-le_self (amount * d) length in
    let more = mul-le-mul_left amount le in
    le-div (amount * d / length) (amount * e) length some (omega arith)

-- it is at most the complete amount
ratio_most : (amount length d : ℕ) → d ≤ length → amount * d / length ≤ amount
ratio_most amount length d le =
    let more = mul-le-mul_left amount le in
    let same = mul_comm amount length in
    div-le_of_le-mul length (omega arith)

pub share_most : (s : Spread) (t : ℕ) → share s t ≤ s.amount
share_most s t =
    ⊎_elim
    (λ lt. ⊎_elim
    (λ less. let is = share_some s t lt less in let most = ratio_most s.amount s.length (t - s.begin) (omega arith) in omega arith)
    (λ le. let is = share_all s t lt le in omega arith)
    (cases_lt t (s.begin + s.length)))
    (λ le. let is = share_none s t le in omega arith)
    (cases_lt s.begin t)

-- a share never falls
pub share_grows : (s : Spread) (t u : ℕ) → t ≤ u → share s t ≤ share s u
share_grows s t u le =
    ⊎_elim
    (λ lt. ⊎_elim
    (λ less. let is = share_some s t lt (omega arith) in let then = share_some s u (omega arith) less in
    let grows = ratio_grows s.amount s.length (t - s.begin) (u - s.begin) (omega arith) (omega arith) in omega arith)
    (λ all. let is = share_all s u (omega arith) all in let most = share_most s t in omega arith)
    (cases_lt u (s.begin + s.length)))
    (λ none. let is = share_none s t none in omega arith)
    (cases_lt s.begin t)

-- no part is lost, and none is more than the amount
pub part_more : (s : Spread) (t u : ℕ) → t ≤ u → share s t + part s t u ≡ share s u
part_more s t u le = let grows = share_grows s t u le in omega arith

pub part_most : (s : Spread) (t u : ℕ) → part s t u ≤ s.amount
part_most s t u = let most = share_most s u in omega arith

-- there is no part before the beginning or after the end
pub part_before : (s : Spread) (t u : ℕ) → t ≤ u → u ≤ s.begin → part s t u ≡ 0
part_before s t u le before = let is = share_none s u before in omega arith

pub part_behind : (s : Spread) (t u : ℕ) → t ≤ u → s.begin < t → s.begin + s.length ≤ t → part s t u ≡ 0
part_behind s t u le begun behind =
    let is = share_all s t begun behind in
    let then = share_all s u (omega arith) (omega arith) in
    omega arith
