use Rattle.std.proofs.Common.{refl, arith}
use Rattle.pc_text.specs.declared.code.TheConstants.{CODE_BYTES}
use Rattle.pc_text.proofs.TableLemmas.{agree_below, byte_from}
use Rattle.pc_text.proofs.code.code_byte.Goals as goal

pub returns : goal.returns
unfolding agree_below
returns c = byte_from CODE_BYTES c.args.byte (omega arith) refl
