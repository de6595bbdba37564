-- Certificates of a deck's project, and the verdicts on them.
-- Here is what no clause of a top call and no law reaches.
use Rattle.std.specs.Prelude.{◌≡◌}
use Rattle.pc_crash.specs.Priced.{PricedNetwork}
use Rattle.pc_check.specs.inside.Certified.{OnYes}
use Rattle.pc_check.specs.declared.checker.Verdict.{Verdict}
use Rattle.pc_check.specs.declared.checker.Verdict.TheVariants.{Yes, No}
use Rattle.pc_check.specs.Texts.{Finds}
use Rattle.pc_project.specs.Project.{Project}
use Rattle.pc_project.specs.declared.shell.status.Status.{Status}
use Rattle.pc_project.specs.declared.shell.status.Status.TheVariants.{Done, OutOfMemory, ReadFault, WriteFault, NotCertified}
use Rattle.pc_project.specs.shell.Priced.{priced_in}
use Rattle.pc_project.specs.shell.Sides.{Side, HadFault, IsReadToEnd, IsUntouched, OfBytes, Took, TookFront}
use Rattle.pc_audit.specs.Certificate.{verdict_text, IsSettledIn, IsUnsettledIn}

-- ---- what a check leaves

-- what the source had left has this verdict without a fault of the source, a certified text was read to its end, and
-- nothing was pulled after the first failing line
pub record IsFound {X : Type 0} (net : PricedNetwork) (cert : Side X) (verdict : Verdict) : Type 0 where
  pub finds : OfBytes cert (λ text. Finds net text verdict)
  pub end : OnYes verdict (IsReadToEnd cert)
  pub settled : IsSettledIn net verdict cert
  pub no_fault : cert.faults cert.new ≡ cert.faults cert.old

-- the status for a verdict that was reported
abbrev pub status_for : Verdict → Status
status_for (Yes segments) = Done
status_for (No line reason) = NotCertified

-- the line of the verdict was written, or a fault of the sink came in it
pub data Told {X : Type 0} (verdict : Verdict) (out : Side X) : Status → Type 0 where
  told : (status : Status) → status ≡ status_for verdict → Took out (verdict_text verdict) → Told verdict out status
  cut : TookFront out (verdict_text verdict) → Told verdict out WriteFault

-- how the check of a certificate of the project ends: with a verdict, with a fault of the source before any line
-- failed, or out of memory before anything was pulled
pub data CheckEndsWith {C O : Type 0} (project : Project) (cert : Side C) (out : Side O) : Status → Type 0 where
  found : (verdict : Verdict) (status : Status) → IsFound (priced_in project) cert verdict → Told verdict out status → CheckEndsWith project cert out status
  unread : HadFault cert → IsUnsettledIn (priced_in project) cert → IsUntouched out → CheckEndsWith project cert out ReadFault
  no_room : IsUntouched cert → IsUntouched out → CheckEndsWith project cert out OutOfMemory
