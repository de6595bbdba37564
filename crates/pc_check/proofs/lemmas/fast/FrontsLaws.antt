-- How the lines of each event begin.
use Rattle.std.proofs.Common.{◌≡◌, ℕ, ◌+◌, ◌<◌, List, [], ◌∷◌, ◌++◌, length, refl, sym, subst, arith, length-append}
use Rattle.pc_model.specs.Codes.{text_at}
use Rattle.pc_crash.specs.Priced.{PricedNetwork}
use Rattle.pc_cert.specs.declared.event.EventFront.{EventFront}
use Rattle.pc_cert.specs.inside.Known.{IsFrontOf, IsEventFront}
use Rattle.pc_check.specs.inside.fast.Fronts.{front_at}
use Rattle.pc_check.proofs.BelowLaws.{each_more}

-- those of the first `count` events
pub record AreFirst (net : PricedNetwork) (fronts : List EventFront) (count : ℕ) : Type 0 where
  pub long : length fronts ≡ count
  pub each : (e : ℕ) → e < count → IsFrontOf (text_at net.events e) (front_at fronts e)

pub first_more : {net : PricedNetwork} {fronts : List EventFront} {count : ℕ} (front : EventFront) → AreFirst net fronts count →
    IsFrontOf (text_at net.events count) front → AreFirst net (fronts ++ front ∷ []) (count + 1)
first_more {net} {fronts} {count} front are is = record {
  long = omega (arith, length-append fronts (front ∷ []), are.long);
  each = each_more (λ e own. IsFrontOf (text_at net.events e) own) fronts front (record { code = []; cells = [] }) count are.long are.each is;
}

-- a front is that of its own code
pub own_front : (code : List ℕ) (front : EventFront) → IsFrontOf code front → IsFrontOf front.code front
own_front code front is = record { same_code = refl; front_is = subst (λ c. IsEventFront c front.cells) (sym is.same_code) is.front_is }
