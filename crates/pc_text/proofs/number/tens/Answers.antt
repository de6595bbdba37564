use Rattle.std.proofs.Common.{refl}
use Rattle.pc_text.specs.declared.number.TheConstants.{PAIRS}
use Rattle.pc_text.proofs.TableLemmas.{agree_below, tens_from}
use Rattle.pc_text.proofs.number.tens.Goals as goal

pub returns : goal.returns
unfolding agree_below
returns c = tens_from PAIRS c.args.number c.requires refl
