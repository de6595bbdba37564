-- A certified text is found to be nothing else.
use Rattle.std.proofs.Common.{◌≡◌, ℕ, List, ap}
use Rattle.pc_crash.specs.Priced.{PricedNetwork}
use Rattle.pc_check.specs.declared.checker.Verdict.{Verdict}
use Rattle.pc_check.specs.declared.checker.Verdict.TheVariants.{Yes, No}
use Rattle.pc_check.specs.Texts.{IsCertified, Finds}
use Rattle.pc_check.proofs.TextLaws.{not_both, one_number}

pub found_certified : (net : PricedNetwork) (text : List ℕ) (segments : ℕ) → IsCertified net text segments → (verdict : Verdict) → Finds net text verdict → verdict ≡ Yes segments
found_certified net text segments certified (Yes others) finds = ap Yes (one_number net text others segments finds certified)
found_certified net text segments certified (No line reason) finds = absurd (not_both net text segments (record { line = line; reason = reason }) certified finds)
