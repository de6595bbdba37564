use Rattle.std.proofs.Common.{length, ap, ◌∙◌, arith}
use Rattle.pc_text.specs.Fields.{run_len}
use Rattle.pc_edges.proofs.lemmas.lines.StepLemmas.{took_all, took_line}
use Rattle.pc_edges.proofs.lines.reader.LineReader.take_line.Goals as goal

pub returns-then-all : goal.returns-then-all
returns-then-all c =
    took_all c.args.self.now c.hold.new.self c.pass.new.self c.line_len-count.result (c.line_len-count.ensures.value ∙ ap (run_len 10) c.ahead-ahead.ensures)
    (omega (arith, c.if-all.true, ap length c.ahead-ahead.ensures)) c.hold.ensures c.pass.ensures

pub returns : goal.returns
returns c =
    took_line c.args.self.now c.hold.new.self c.pass-2.new.self c.line_len-count.result (c.line_len-count.ensures.value ∙ ap (run_len 10) c.ahead-ahead.ensures)
    (omega (arith, c.if-all.false, c.line_len-count.ensures.within, ap length c.ahead-ahead.ensures)) c.hold.ensures c.pass-2.ensures
