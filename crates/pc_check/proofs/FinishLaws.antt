-- What a yes proves.
use Rattle.std.proofs.Common.{◌≡◌, List, length, Some, None, ap, subst, ◌∙◌}
use Rattle.std.specs.Prelude.{IfNone}
use Rattle.pc_model.specs.Cost.{IsPriced}
use Rattle.pc_cert.specs.declared.line.CertLine.{CertLine}
use Rattle.pc_cert.specs.declared.place.Place.TheVariants.{Ended}
use Rattle.pc_crash.specs.Priced.{knees_in}
use Rattle.pc_check.specs.Certified.{segments_of}
use Rattle.pc_check.specs.declared.checker.Fail.{Fail}
use Rattle.pc_check.specs.declared.checker.Verdict.TheVariants.{No}
use Rattle.pc_check.specs.inside.Certified.{FindsInLines}
use Rattle.pc_check.specs.Certified.{AreCurve}
use Rattle.pc_check.specs.inside.Checking.{Checking, HasCheckedOrFailed, ChecksAs}
use Rattle.pc_check.proofs.TakeLaws.{is_going, when_none}
use Rattle.pc_check.proofs.GoodLines.{curve_of}

pub curve_at_yes : (s : Checking) (lines : List CertLine) → s.fail ≡ None → IfNone s.fail (s.kept.place ≡ Ended) →
    IsPriced s.net.network s.net.terms (knees_in s.net) → length s.net.activities ≡ length s.net.network.arcs → ChecksAs s lines →
    AreCurve s.net (segments_of s.net lines)
curve_at_yes s lines none ended priced named h =
    let going = is_going s.net s.kept s.fail lines none h in
    curve_of s.net lines priced named (record { whole = going.order ∙ ap Some (when_none s.fail none ended); none = going.none })

-- what a no says
pub finds_at_no : (s : Checking) (lines : List CertLine) (fail : Fail) → s.fail ≡ Some fail → ChecksAs s lines → FindsInLines s.net lines (No fail.line fail.reason)
finds_at_no s lines fail is h = subst (λ f. HasCheckedOrFailed s.net s.kept f lines) is h
