use Rattle.std.proofs.Common.{◌≡◌, ◌++◌, string_bytes}
use Rattle.pc_edges.specs.Texts.{texts_to}
use Rattle.pc_curve.specs.bench.Deck.{bench_event_line}
use Rattle.pc_curve.proofs.bench.deck.write_events.Given as goal

abbrev pub invariant-loop-e : goal.invariant-loop-e
invariant-loop-e l = string_bytes l.deck ≡ string_bytes l.fn.deck ++ texts_to l.e-counter bench_event_line
