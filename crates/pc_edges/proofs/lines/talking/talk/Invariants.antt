use Rattle.pc_edges.specs.inside.lines.Reading.{bytes_left}
use Rattle.pc_edges.proofs.lemmas.lines.TalkLaws.{IsTalking}
use Rattle.pc_edges.proofs.lines.talking.talk.Given as goal

abbrev pub invariant-loop-talker : goal.invariant-loop-talker
invariant-loop-talker g l =
    IsTalking g.T.Answers.Says g.C.Source.left g.C.Source.faults g.C.Source.pulls g.O.Sink.taken g.O.Sink.faults l.fn.talker l.talker l.fn.source l.source l.fn.out l.out l.reader

abbrev pub decreases-loop-talker : goal.decreases-loop-talker
decreases-loop-talker g l = bytes_left l.reader
