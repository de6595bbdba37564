use Rattle.std.proofs.Common.{◌≡◌, ℕ, List, slice_index, ap, subst, ◌∙◌, arith}
use Rattle.std.proofs.lemmas.List.{get_or_default}
use Rattle.pc_rollup.proofs.lemmas.figures.PushLaws.{if_answered}
use Rattle.pc_model.specs.Network.{Network}
use Rattle.pc_times.specs.Late.{AreLate}
use Rattle.pc_times.specs.Times.{AreEarly}
use Rattle.pc_reports.specs.Times.{end_to_meet}
use Rattle.pc_reports.proofs.forecasts.late_times.Goals as goal

pub early-requires : goal.early-requires
early-requires c = rw (c.net-net.ensures.network, c.expected.ensures.expected) c.net-net.ensures.planned.lengths

pub returns-clause-late : goal.returns-clause-late
returns-clause-late c =
    let project = c.args.project.now in
    let reached = c.in_ok-reached.reached.items in
    let end : c.end.result ≡ project.network.end = c.end.ensures.end ∙ ap (λ (n : Network). n.end) c.net-net.ensures.network in
    let read : c.index.result.now ≡ slice_index reached project.network.end = c.index.ensures
    ∙ (get_or_default reached c.end.result c.index.result.now 0
    (omega (arith, c.in_ok-reached.ensures.times.one_each, c.end.ensures.known)) ∙ ap (slice_index reached) end) in
    let early : AreEarly project.network project.expected reached =
    subst (λ (n : Network). AreEarly n project.expected reached) c.net-net.ensures.network
    (subst (λ (l : List ℕ). AreEarly c.net-net.result.now l reached) c.expected.ensures.expected c.in_ok-reached.ensures.times)
    in
    if_answered c.late_to_meet.result _ _
    (λ late is. (reached, (early, subst (λ (n : ℕ). AreLate project.network project.expected (end_to_meet project.heading.directed n) late.items) read is)))
    c.late_to_meet.ensures.late
