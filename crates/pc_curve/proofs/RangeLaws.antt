-- A network has one range, and a length is either within it or not.
use Rattle.std.proofs.Common.{◌≡◌, ℕ, ◌<◌, ◌≤◌, inl, inr, arith}
use Rattle.std.specs.Prelude.{◌⊎◌}
use Rattle.pc_model.proofs.Walks.WalkLaws.{greatest_unique}
use Rattle.pc_crash.specs.Priced.{PricedNetwork}
use Rattle.pc_curve.specs.Range.{IsRange, IsLengthInRange}

-- the ends of a range are two numbers
pub one_range : (net : PricedNetwork) (low high short long : ℕ) → IsRange net low high → IsRange net short long → (low ≡ short) × (high ≡ long)
one_range net low high short long is also =
    (greatest_unique _ low short is.all_crash also.all_crash, greatest_unique _ high long is.all_normal also.all_normal)

-- a length of the network is between the ends of its range
pub in_range : (net : PricedNetwork) (shortest longest limit : ℕ) → IsRange net shortest longest → IsLengthInRange net limit → (shortest ≤ limit) × (limit ≤ longest)
in_range net shortest longest limit range inside =
    let same = one_range net inside.shortest inside.longest shortest longest inside.range range in
    (omega (arith, inside.above, same.0), omega (arith, inside.below, same.1))

-- no length outside its range is one of the network
pub outside_range : (net : PricedNetwork) (shortest longest limit : ℕ) → IsRange net shortest longest → (limit < shortest) ⊎ (longest < limit)
    → IsLengthInRange net limit → ⊥
outside_range net shortest longest limit range outside inside =
    let within = in_range net shortest longest limit range inside in
    elim outside [ inl below ↦ omega (arith, below, within.0) | inr above ↦ omega (arith, above, within.1) ]
