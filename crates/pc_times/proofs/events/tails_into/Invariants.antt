use Rattle.std.proofs.Common.{length}
use Rattle.std.specs.Slice.Iter.{iter_rest}
use Rattle.std.specs.Iterator.Adapters.{rev_source}
use Rattle.pc_times.proofs.TimesLaws.{AreTailsFrom}
use Rattle.pc_times.proofs.events.tails_into.Given as goal

abbrev pub invariant-loop-event : goal.invariant-loop-event
invariant-loop-event l =
    AreTailsFrom l.net l.lengths l.tails (iter_rest (rev_source l.initial.event-iterator)) (length l.yielded)
