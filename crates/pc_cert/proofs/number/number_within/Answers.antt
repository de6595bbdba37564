use Rattle.std.proofs.Common.{refl, sym, ◌∙◌, arith}
use Rattle.pc_cert.proofs.NumberLemmas.{behind_space, number_is}
use Rattle.pc_cert.proofs.number.number_within.Goals as goal

pub returns-clause-number : goal.returns-clause-number
returns-clause-number c =
    number_is _ _ _ _ _ (behind_space c.args.bytes.now (omega (arith, c.requires)) c.if-bytes-ne32.false) c.digits_within-number.ensures
    (sym c.is_unpadded.ensures ∙ c.if-not-is_unpadded.false) refl
