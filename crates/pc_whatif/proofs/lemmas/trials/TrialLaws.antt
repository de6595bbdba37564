-- The looks of a trial by the ends of a network's range.
use Rattle.std.proofs.Common.{◌≡◌, ℕ, ◌+◌, ◌-◌, ◌≤◌, subst}
use Rattle.pc_model.specs.Schedule.{IsAllCrashLength, IsAllNormalLength}
use Rattle.pc_crash.specs.Priced.{PricedNetwork}
use Rattle.pc_flow.specs.Courses.{Course}
use Rattle.pc_curve.specs.Range.{IsRange}
use Rattle.pc_curve.proofs.RangeLaws.{one_range}
use Rattle.pc_whatif.specs.inside.trials.Trials.{looks_over}

-- the looks that a solver of the network may take, by the ends of the range
pub looks-of-range : (net : PricedNetwork) (c : Course) (before after : ℕ) → c.net ≡ net
    → IsAllCrashLength net.network net.terms c.shortest → IsAllNormalLength net.network net.terms c.longest
    → after ≤ before + looks_over c.net (c.longest - c.shortest)
    → (shortest longest : ℕ) → IsRange net shortest longest → after ≤ before + looks_over net (longest - shortest)
looks-of-range net c before after same crash normal counted shortest longest range =
    let ends = one_range net c.shortest c.longest shortest longest (record { all_crash = crash; all_normal = normal }) range in
    let here : after ≤ before + looks_over net (c.longest - c.shortest) = subst (λ n. after ≤ before + looks_over n (c.longest - c.shortest)) same counted in
    subst (λ n. after ≤ before + looks_over net (n - shortest)) ends.1 (subst (λ n. after ≤ before + looks_over net (c.longest - n)) ends.0 here)
