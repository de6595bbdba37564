use Rattle.std.proofs.Common.{refl, sym, ◌∙◌}
use Rattle.pc_cert.proofs.NumberLemmas.{number_is}
use Rattle.pc_cert.proofs.number.number_at.Goals as goal

pub returns : goal.returns
returns c =
    number_is _ _ _ _ _ (search Rattle.std.proofs.Common.rules) c.digits_to_end-number.ensures (sym c.is_unpadded.ensures ∙ c.if-not-is_unpadded.false) refl
