use Rattle.std.proofs.Common.{ℕ, List, [], ◌∷◌, ◌++◌, take, ap, sym, subst, ◌∙◌, ◌≡◌, ◌<◌, length, arith}
use Rattle.std.proofs.Math.Seq.{take-length}
use Rattle.std.proofs.lemmas.List.{take_more}
use Rattle.pc_model.specs.Network.{Network, IsOrder}
use Rattle.pc_reports.proofs.ForecastLaws.{all_soon}
use Rattle.pc_reports.proofs.forecasts.event_times.Goals as goal

pub time-requires : goal.time-requires
time-requires c = omega (arith, c.requires.forecast.one_each, ap (λ (n : Network). n.events) c.net-net.ensures.network)

pub loop-e-preserved : goal.loop-e-preserved
loop-e-preserved c =
    let times = c.args.expected.now.times in
    let inside : c.loop-e.e < length times = omega (arith, c.requires.forecast.one_each, ap (λ (n : Network). n.events) c.net-net.ensures.network) in
    c.in_ok-push.ensures.items ∙ (ap (λ (xs : List ℕ). xs ++ c.time.result ∷ []) c.loop-e.invariant
    ∙ (ap (λ (n : ℕ). take c.loop-e.e times ++ n ∷ []) c.time.ensures.time ∙ sym (take_more times c.loop-e.e 0 inside)))

pub returns-clause-times : goal.returns-clause-times
returns-clause-times c =
    let times = c.args.expected.now.times in
    let all : c.loop-e.e ≡ length times = omega (arith, c.requires.forecast.one_each, ap (λ (n : Network). n.events) c.net-net.ensures.network) in
    c.loop-e.invariant ∙ (ap (λ (n : ℕ). take n times) all ∙ take-length times)

pub returns-clause-soon : goal.returns-clause-soon
returns-clause-soon c =
    all_soon c.args.project.now c.requires.as_of c.args.expected.now c.loop-e.times.items c.net-net.ensures.planned c.requires.small c.requires.as_of_is
    (_, subst (λ (n : Network). IsOrder n c.order.result.now) c.net-net.ensures.network c.order.ensures.order) c.requires.forecast (returns-clause-times c)
