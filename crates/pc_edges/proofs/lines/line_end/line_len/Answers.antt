use Rattle.std.proofs.Common.{subst}
use Rattle.memchr.specs.Find.{IsFirstByte, is_byte}
use Rattle.pc_edges.proofs.lemmas.lines.RunLemmas.{run_len-found, run_len-not_found}
use Rattle.pc_edges.proofs.lines.line_end.line_len.Goals as goal

pub returns-in-Some-clause-value : goal.returns-in-Some-clause-value
returns-in-Some-clause-value c = run_len-found 10 c.in-Some.end c.args.bytes.now (subst (IsFirstByte (is_byte 10) c.args.bytes.now) c.in-Some.is c.memchr.ensures)

pub returns-in-None-clause-value : goal.returns-in-None-clause-value
returns-in-None-clause-value c = run_len-not_found 10 c.args.bytes.now (subst (IsFirstByte (is_byte 10) c.args.bytes.now) c.in-None.is c.memchr.ensures)
