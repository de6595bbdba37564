use Rattle.pc_cert.proofs.KnownLaws.{comes_again}
use Rattle.pc_cert.proofs.fast.known.LineText.again.Goals as goal

pub returns-then-begins-clause-again : goal.returns-then-begins-clause-again
returns-then-begins-clause-again c = λ line text some.
    comes_again line c.args.self.now.cells c.args.piece.now c.args.self.now.len text (c.begins.ensures.within c.if-begins.true) (c.begins.ensures.same c.if-begins.true) some
