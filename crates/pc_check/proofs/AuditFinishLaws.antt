-- What a text that was read to its end is found to be.
use Rattle.std.proofs.Common.{◌≡◌, ℕ, List, ◌⊎◌, inl, inr, None, refl, sym, ◌∙◌}
use Rattle.std.proofs.lemmas.Option.{none-some}
use Rattle.pc_cert.specs.declared.line.CertLine.{CertLine}
use Rattle.pc_cert.specs.Reader.{IsStopped, IsMissing, IsWhole}
use Rattle.pc_cert.specs.declared.reader.Malformed.{Malformed}
use Rattle.pc_crash.specs.Priced.{PricedNetwork}
use Rattle.pc_check.specs.declared.checker.Verdict.{Verdict}
use Rattle.pc_check.specs.declared.checker.Verdict.TheVariants.{Yes, No}
use Rattle.pc_check.specs.Failures.{failure_of}
use Rattle.pc_check.specs.inside.Certified.{FindsInLines}
use Rattle.pc_check.specs.Texts.{IsFailing, malformed, missing, Finds}

-- a complete text is certified
pub found_whole : (net : PricedNetwork) (lines : List CertLine) (text : List ℕ) (verdict : Verdict) → IsWhole lines text →
    failure_of net lines ≡ None → FindsInLines net lines verdict → Finds net text verdict
found_whole net lines text (Yes segments) whole none finds = record { lines = lines; whole = whole; none = none; count = finds.1 }
found_whole net lines text (No line reason) whole none finds = absurd (none-some (record { line = line; reason = reason }) (sym none ∙ finds))

-- another text is malformed, or a line is missing
pub found_broken : (net : PricedNetwork) (lines : List CertLine) (text : List ℕ) (m : Malformed) → failure_of net lines ≡ None →
    IsStopped m lines text ⊎ IsMissing m lines text → IsFailing net text (record { line = m.line; reason = 0 })
found_broken net lines text m none (inl stop) = malformed lines none stop refl
found_broken net lines text m none (inr lack) = missing lines none lack refl
