use Rattle.std.proofs.Common.{◌≡◌, ◌∙◌, ◌<◌, ℕ, List, length, slice_index, ap, sym, subst, arith}
use Rattle.std.proofs.lemmas.List.{get_or_read}
use Rattle.pc_model.specs.Network.{Network, IsLongest}
use Rattle.pc_model.specs.Cost.{cost_of}
use Rattle.pc_model.specs.Pieces.{knees_of}
use Rattle.pc_model.specs.Schedule.{normals}
use Rattle.pc_times.specs.Times.{AreEarly, AreLengths}
use Rattle.pert_cli.proofs.ScheduleLaws.{normal_schedule, normals-durations, normals-lengths}
use Rattle.pert_cli.proofs.normal.normal_schedule.Goals as goal

-- a fact about the network and the normal durations, from one about equal ones
at : (P : Network → List ℕ → Type 0) (net network : Network) (lengths others : List ℕ) → net ≡ network → lengths ≡ others → P net lengths → P network others
at P net network lengths others same_net same_lengths fact =
    subst (λ n. P n others) same_net (subst (P net) same_lengths fact)

pub early-requires : goal.early-requires
early-requires c =
    at AreLengths c.args.project.now.network c.net-net.result.now (normals c.args.project.now.terms) c.deref.result.now
    (sym c.net-net.ensures.network) (sym (c.deref.ensures.value ∙ (c.in_ok-durations.ensures ∙ ap normals c.activity_terms.ensures.terms)))
    (normals-lengths c.args.project.now c.net-net.ensures.planned)

pub cost_of-cost-requires : goal.cost_of-cost-requires
cost_of-cost-requires c =
    rw (c.in_ok-priced.ensures.terms, c.deref-2.ensures.value, c.in_ok-durations.ensures, c.activity_terms.ensures.terms)
    (normals-durations c.args.project.now.network c.args.project.now.terms c.net-net.ensures.planned.terms)

pub returns : goal.returns
returns c =
    let project = c.args.project.now in
    let net = c.net-net.result.now in
    let times = c.in_ok-times.times.items in
    let durations = c.in_ok-durations.ensures ∙ ap normals c.activity_terms.ensures.terms in
    let lengths = c.deref.ensures.value ∙ durations in
    let early = c.in_ok-times.ensures.times in
    let in_range : c.end.result < length times = omega (arith, c.end.ensures.known, early.one_each) in
    let read : c.index.result.now ≡ slice_index times net.end =
    get_or_read times c.end.result c.index.result.now in_range c.index.ensures 0 ∙ ap (slice_index times) c.end.ensures.end in
    let longest : IsLongest net c.deref.result.now c.index.result.now =
    subst (λ (n : ℕ). IsLongest net c.deref.result.now n) (sym read) (early.each net.end (omega (arith, c.end.ensures.known, c.end.ensures.end))) in
    normal_schedule project
    (record { length = c.index.result.now; cost = c.cost_of-cost.result; times = times; durations = c.in_ok-durations.durations.items })
    c.net-net.ensures.planned durations
    (at (λ net lengths. AreEarly net lengths times) net project.network c.deref.result.now (normals project.terms) c.net-net.ensures.network lengths early)
    (at (λ net lengths. IsLongest net lengths c.index.result.now) net project.network c.deref.result.now (normals project.terms) c.net-net.ensures.network lengths longest)
    (c.cost_of-cost.ensures.cost
    ∙ ap (λ terms. cost_of terms (knees_of terms c.in_ok-priced.field-0.pieces) (slice_index c.deref-2.result.now)) c.in_ok-priced.ensures.terms
    ∙ ap (λ pieces. cost_of project.terms (knees_of project.terms pieces) (slice_index c.deref-2.result.now)) c.in_ok-priced.ensures.pieces
    ∙ ap (λ durations. cost_of project.terms (knees_of project.terms project.pieces) (slice_index durations)) (c.deref-2.ensures.value ∙ durations))
