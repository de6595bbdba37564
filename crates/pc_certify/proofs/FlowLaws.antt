-- The flows of an activity are those into which its total flow is distributed.
use Rattle.std.proofs.Common.{◌≡◌, ℕ, ◌<◌, [], ◌∷◌, ◌++◌, sym}
use Rattle.pc_laws.specs.Segment.{Segment}
use Rattle.pc_laws.specs.Stair.{stair_of, knee_flow, crash_flow}
use Rattle.pc_crash.specs.Priced.{PricedNetwork, knees_in}
use Rattle.pc_cert.specs.Document.{flows_along}
use Rattle.pc_certify.specs.inside.fast.Spelled.{filled_along}
use Rattle.pc_cert.proofs.ListedLaws.{listed-same}

-- the flows at the knees and on the crash duration follow from the total flow, so the list is the same
pub filled-is : (net : PricedNetwork) (seg : Segment) (a whole : ℕ)
    → ((k : ℕ) → k < (knees_in net).count a → seg.flow a k ≡ knee_flow (stair_of net.terms (knees_in net) a) whole k)
    → seg.beside a ≡ crash_flow (stair_of net.terms (knees_in net) a) whole
    → filled_along net a whole ≡ flows_along net seg a
filled-is net seg a whole at_knees beside =
    let list = listed-same ((knees_in net).count a) (knee_flow (stair_of net.terms (knees_in net) a) whole) (seg.flow a) (λ k below. sym (at_knees k below)) in
    let last = sym beside in
    λ i. list i ++ last i ∷ []
