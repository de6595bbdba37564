use Rattle.std.proofs.Common.{refl, arith}
use Rattle.pc_text.specs.declared.code.TheConstants.{CODE_BYTES}
use Rattle.pc_text.proofs.TableLemmas.{agree_below, from_table}
use Rattle.pc_text.proofs.code.is_code_byte.Goals as goal

pub returns : goal.returns
unfolding agree_below
returns c = from_table CODE_BYTES c.args.byte (omega arith) refl
