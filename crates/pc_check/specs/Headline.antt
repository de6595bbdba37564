-- The complete time-cost curve of a network, as the text of a certificate states it.
use Rattle.std.specs.Prelude.{ℕ, ◌≤◌, List}
use Rattle.pc_model.specs.Schedule.{IsAllNormalLength, IsAllCrashLength}
use Rattle.pc_laws.specs.Cover.{Joins, IsReadRight}
use Rattle.pc_cert.specs.declared.line.CertLine.{CertLine}
use Rattle.pc_cert.specs.Reader.{IsWhole}
use Rattle.pc_crash.specs.Priced.{PricedNetwork, knees_in}
use Rattle.pc_check.specs.Certified.{segments_of}

-- the text is that of the lines of a complete certificate, whose segments join from the all-normal length down to the all-crash length;
-- and for every length between them what is read from the first segment that holds it is right (`IsReadRight`): no time is cut off at
-- 0, the durations and times are a schedule that ends at that length, they cost what is printed, and no schedule for the length costs
-- less; the flow has the slope as its value and the printed cost as its bound; and the slope is the cut gain
pub record PrintsWholeCurve (net : PricedNetwork) (text : List ℕ) : Type 0 where
  pub lines : List CertLine
  pub whole : IsWhole lines text
  pub longest : ℕ
  pub shortest : ℕ
  pub all_normal : IsAllNormalLength net.network net.terms longest
  pub all_crash : IsAllCrashLength net.network net.terms shortest
  pub joined : Joins longest (segments_of net lines) shortest
  pub read : (limit : ℕ) → shortest ≤ limit → limit ≤ longest → IsReadRight net.network net.terms (knees_in net) (segments_of net lines) limit
