use Rattle.pc_curve.proofs.lemmas.bench.DeckLaws.{whole-deck}
use Rattle.pc_curve.proofs.bench.deck.bench_deck.Goals as goal

pub returns : goal.returns
returns c =
    rw c.into_bytes.ensures.value
    (whole-deck c.args.n _ _ _ _ _ _ _ _ c.last_event-last.ensures c.in_ok-costs.ensures.costs c.new-deck.ensures.bytes c.in_ok-write_project.ensures
    c.in_ok-write_item.ensures c.in_ok-write_events.ensures c.in_ok-costs.ensures.text c.in_ok-write_end.ensures)
