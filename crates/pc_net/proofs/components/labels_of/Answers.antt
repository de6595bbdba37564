use Rattle.std.proofs.Common.{◌≡◌, replicate, ap, ◌∙◌, arith}
use Rattle.pc_net.proofs.LabelLaws.{AreSpreadLabels-fresh}
use Rattle.pc_net.proofs.components.labels_of.Goals as goal

pub spread_all-requires-clause-spread : goal.spread_all-requires-clause-spread
spread_all-requires-clause-spread c =
    let events : c.events.result ≡ c.args.graph.now.events = c.events.ensures.events in
    AreSpreadLabels-fresh _ _ _ _ c.in_ok-reached.ensures.items (c.in_ok-labels.ensures.items_if_clones_equal (λ y e. e) ∙ ap (λ n. replicate n 0) events) (omega arith)
