use Rattle.std.proofs.Common.{rules}
use Rattle.pc_names.proofs.OnceLaws.{IsNamedOnce-distinct}
use Rattle.pc_names.proofs.names.Names.as_slice.Goals as goal

pub returns-clause-apart : goal.returns-clause-apart
returns-clause-apart c = IsNamedOnce-distinct c.as_slice.result.now (search rules)
