use Rattle.std.proofs.Common.{arith, ◌∙◌, w64, FitsSigned}
use Rattle.std.proofs.lemmas.Int.{to_z-of_z}
use Rattle.jiff_core.proofs.SignedLemmas.{signed_arith}
use Rattle.pc_days.proofs.Sixths.{rounded_up, rounded_up-code}
use Rattle.pc_days.proofs.day.whole_days.Goals as goal

pub returns : goal.returns
returns c =
    let t = c.args.sixths in
    let e = c.div_euclid.ensures ∙ rounded_up-code t c.requires.early c.requires.late in
    let fits : FitsSigned w64 c.div_euclid.result = omega (arith, signed_arith) in
    let r = rounded_up t c.requires.early c.requires.late in
    rw (to_z-of_z w64 c.div_euclid.result fits, e) (record { rounded = r.0; within = r.1 })
