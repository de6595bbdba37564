-- A length has one least cost, and a longer one costs no more.
use Rattle.std.proofs.Common.{◌≡◌, ◌≤◌, ℕ, List, arith}
use Rattle.pc_model.specs.declared.Term.{Term}
use Rattle.pc_model.specs.Network.{Network}
use Rattle.pc_model.specs.Cost.{Knees, IsLeastCost}
use Rattle.pc_model.proofs.Schedules.Durations.{longer}

pub falls : (net : Network) (terms : List Term) (knees : Knees) (short long a b : ℕ) → short ≤ long →
    IsLeastCost net terms knees short a → IsLeastCost net terms knees long b → b ≤ a
falls net terms knees short long a b h p q =
    let (d, t, s, e) = p.reached in
    omega (arith, e, q.least d t (longer net terms short long d t h s))

pub unique : (net : Network) (terms : List Term) (knees : Knees) (limit a b : ℕ) →
    IsLeastCost net terms knees limit a → IsLeastCost net terms knees limit b → a ≡ b
unique net terms knees limit a b p q =
    omega (arith, falls net terms knees limit limit a b (omega arith) p q, falls net terms knees limit limit b a (omega arith) q p)
