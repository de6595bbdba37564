-- Lines none of which fails, put together.
use Rattle.std.proofs.Common.{◌≡◌, ℕ, ◌+◌, Bool, true, false, cond, List, [], ◌∷◌, ◌++◌, Option, Some, None, refl, sym, ap, ◌∙◌, subst}
use Rattle.std.specs.Prelude.{fold}
use Rattle.pc_cert.specs.declared.line.CertLine.{CertLine}
use Rattle.pc_crash.specs.Priced.{PricedNetwork}
use Rattle.pc_check.specs.declared.checker.Fail.{Fail}
use Rattle.pc_check.specs.Draft.{Part, Draft, with_line}
use Rattle.pc_check.specs.Failures.{reason_at, or_later, failure_after}
use Rattle.pc_check.proofs.GoodLines.{none_parts}

-- none of the lines fails, given the lines before them, and `behind` is the draft after them
pub record Pass (net : PricedNetwork) (draft : Draft) (lines : List CertLine) (behind : Draft) : Type 0 where
  pub none : (number : ℕ) → failure_after net draft number lines ≡ None
  pub says : fold with_line draft lines ≡ behind

pub Pass-nil : (net : PricedNetwork) (draft : Draft) → Pass net draft [] draft
Pass-nil net draft = record { none = λ number. refl; says = refl }

or_none : (number : ℕ) (reason : Option ℕ) (later : Option Fail) → reason ≡ None → later ≡ None → or_later number reason later ≡ None
or_none number None later h none = none
or_none number (Some reason) later h none = absurd cc

-- a line and those after it
pub Pass-cons : {net : PricedNetwork} {draft behind : Draft} (line : CertLine) (lines : List CertLine) → reason_at net draft line ≡ None →
    Pass net (with_line draft line) lines behind → Pass net draft (line ∷ lines) behind
Pass-cons {net} {draft} {behind} line lines passes h = record {
  none = λ number. or_none number (reason_at net draft line) (failure_after net (with_line draft line) (number + 1) lines) passes (h.none (number + 1));
  says = h.says;
}

pub Pass-one : (net : PricedNetwork) (draft : Draft) (line : CertLine) → reason_at net draft line ≡ None → Pass net draft (line ∷ []) (with_line draft line)
Pass-one net draft line passes = Pass-cons line [] passes (Pass-nil net (with_line draft line))

-- the same draft under another name
pub Pass-as : {net : PricedNetwork} {draft behind : Draft} {lines : List CertLine} (other : Draft) → behind ≡ other → Pass net draft lines behind → Pass net draft lines other
Pass-as {net} {draft} {behind} {lines} other same h = record { none = h.none; says = h.says ∙ same }

none_then : (net : PricedNetwork) (draft : Draft) (number : ℕ) (lines others : List CertLine) →
    failure_after net draft number lines ≡ None → ((m : ℕ) → failure_after net (fold with_line draft lines) m others ≡ None) →
    failure_after net draft number (lines ++ others) ≡ None
none_then net draft number [] others h later = later number
none_then net draft number (line ∷ lines) others h later =
    let parts = none_parts number (reason_at net draft line) (failure_after net (with_line draft line) (number + 1) lines) h in
    or_none number (reason_at net draft line) (failure_after net (with_line draft line) (number + 1) (lines ++ others)) (parts.0)
    (none_then net (with_line draft line) (number + 1) lines others (parts.1) later)

says_then : (draft : Draft) (lines others : List CertLine) → fold with_line draft (lines ++ others) ≡ fold with_line (fold with_line draft lines) others
says_then draft [] others = refl
says_then draft (line ∷ lines) others = says_then (with_line draft line) lines others

-- lines and those after them
pub Pass-then : {net : PricedNetwork} {draft middle behind : Draft} (lines others : List CertLine) → Pass net draft lines middle →
    Pass net middle others behind → Pass net draft (lines ++ others) behind
Pass-then {net} {draft} {middle} {behind} lines others h later = record {
  none = λ number. none_then net draft number lines others (h.none number) (λ m. subst (λ d. failure_after net d m others ≡ None) (sym h.says) (later.none m));
  says = says_then draft lines others ∙ ap (λ d. fold with_line d others) h.says ∙ later.says;
}

-- none of the lines fails, and after them these segments are complete
pub record PassTo (net : PricedNetwork) (draft : Draft) (lines : List CertLine) (segments : List Part) : Type 0 where
  pub none : (number : ℕ) → failure_after net draft number lines ≡ None
  pub says : (fold with_line draft lines).segments ≡ segments

pub PassTo-then : {net : PricedNetwork} {draft middle : Draft} {segments : List Part} (lines others : List CertLine) →
    Pass net draft lines middle → PassTo net middle others segments → PassTo net draft (lines ++ others) segments
PassTo-then {net} {draft} {middle} {segments} lines others h later = record {
  none = λ number. none_then net draft number lines others (h.none number) (λ m. subst (λ d. failure_after net d m others ≡ None) (sym h.says) (later.none m));
  says = ap (λ (d : Draft). d.segments) (says_then draft lines others ∙ ap (λ d. fold with_line d others) h.says) ∙ later.says;
}

-- the first condition holds, and so do the others
pub holds_on : (holds : Bool) (later : Option ℕ) (number : ℕ) → holds ≡ true → later ≡ None → cond holds later (Some number) ≡ None
holds_on true later number h none = none
holds_on false later number h none = absurd cc
