-- The table of the forms: the words of each, its name in the usage line, which texts answer it for a project, and the
-- faults with which it refuses the project of an accepted deck.
use Rattle.std.specs.Prelude.{◌≡◌, ℕ, ◌^◌, ◌<◌, ◌≤◌, ⊤, List, [], ◌∷◌, get_or, codes, decimal}
use Rattle.pc_faults.specs.declared.fault.Fault.{Fault}
use Rattle.pc_reports.specs.Check.{check_text}
use Rattle.pc_reports.specs.SummaryText.{IsSummaryText}
use Rattle.pc_reports.specs.TimesText.{IsTimesText}
use Rattle.pc_reports.specs.ValueText.{IsValueText}
use Rattle.pc_curve.specs.bench.Report.{IsBenchText}
use Rattle.pc_curve.specs.declared.bench.deck.TheConstants.{MOST_ACTIVITIES}
use Rattle.pc_certify.specs.Certificate.{IsCertificate}
use Rattle.pc_curve.specs.CurveText.{IsCurveText}
use Rattle.pc_load.specs.LoadText.{IsLoadText}
use Rattle.pc_load.specs.declared.loading.TheConstants.{MAX_DAYS}
use Rattle.pc_project.specs.Project.{Project}
use Rattle.pc_project.specs.deck_text.Written.{IsDeckText}
use Rattle.pert_cli.specs.declared.forms.Form.{Form}
use Rattle.pert_cli.specs.declared.forms.Form.TheVariants.{Check, Normal, Times, Summary, Value, Curve, Certify, Point, Outlook, Bench, Migrate, Optimum, Arrows, Load}
use Rattle.pc_project.specs.shell.Priced.{priced_in}
use Rattle.pert_cli.specs.Load.{HasTooManyPeriods}
use Rattle.pert_cli.specs.Normal.{IsNormalText}
use Rattle.pert_cli.specs.Optimum.{IsOptimumText}
use Rattle.pert_cli.specs.Outlook.{IsOutlookReply}
use Rattle.pert_cli.specs.Point.{IsOutside, IsPointText}

-- the words of a form; the number of a form is in its decimal form
abbrev pub form_words : Form → List (List ℕ)
form_words Check = codes "check" ∷ []
form_words Normal = codes "normal" ∷ []
form_words Times = codes "times" ∷ []
form_words Summary = codes "summary" ∷ []
form_words Value = codes "value" ∷ []
form_words Curve = codes "curve" ∷ []
form_words Certify = codes "certify" ∷ []
form_words (Point limit) = codes "point" ∷ decimal limit ∷ []
form_words (Outlook limit) = codes "outlook" ∷ decimal limit ∷ []
form_words (Bench n) = codes "bench" ∷ decimal n ∷ []
form_words Migrate = codes "migrate" ∷ []
form_words Optimum = codes "optimum" ∷ []
form_words Arrows = codes "arrows" ∷ []
form_words (Load days) = codes "load" ∷ decimal days ∷ []

-- the number of a form is one that it may have: a length has at most 13 digits, the benchmark's deck 1 to 4,000 activities,
-- and a period 1 to 3,660 days
abbrev pub IsNumbered : Form → Type 0
IsNumbered (Point limit) = limit < 10 ^ 13
IsNumbered (Outlook limit) = limit < 10 ^ 13
IsNumbered (Bench n) = (1 ≤ n) × (n ≤ MOST_ACTIVITIES)
IsNumbered (Load days) = (1 ≤ days) × (days ≤ MAX_DAYS)
IsNumbered _ = ⊤

-- the words ask for the form: they are its words, and its number is one that they may have
pub record IsAskedBy (form : Form) (words : List (List ℕ)) : Type 0 where
  pub are : words ≡ form_words form
  pub numbered : IsNumbered form

-- the forms, in the order of the usage line; a form with a number represents all its numbers
abbrev pub forms : List Form
forms = Check ∷ Normal ∷ Times ∷ Summary ∷ Value ∷ Curve ∷ Certify ∷ Point 0 ∷ Outlook 0 ∷ Bench 0 ∷ Migrate ∷ Optimum ∷ Arrows ∷ Load 0 ∷ []

-- the name of a form in the usage line: its word, and a letter in the place of its number
abbrev pub form_name : Form → List ℕ
form_name (Point limit) = codes "point L"
form_name (Outlook limit) = codes "outlook L"
form_name (Bench n) = codes "bench N"
form_name (Load days) = codes "load P"
form_name form = get_or (form_words form) 0 []

-- the text answers the form: `check` with the project's code and the counts of its cards, `normal` with the schedule at
-- the all-normal length, `times` with the times of the events and the critical path, `summary` with the sums of the
-- accounts by item and by level, `value` with the forecast and the value of the work, `curve` with the breakpoints of
-- the time-cost curve, `certify` with a certified text of the complete time-cost curve, whose two walks are the picked
-- ones, `point` with a schedule of least cost for the length, `outlook` with such a schedule and what each item costs
-- by it, `bench` with the figures of the curve of its own deck, `migrate` with the text of the deck in canonical form,
-- `optimum` with the length of least total cost and a schedule for it, `arrows` with the text of the plan's deck in
-- canonical form, `load` with what is spent by item and used by resource in each period
abbrev pub IsTextOf : Form → Project → List ℕ → Type 0
IsTextOf Check project text = text ≡ check_text project
IsTextOf Normal project text = IsNormalText project text
IsTextOf Times project text = IsTimesText project text
IsTextOf Summary project text = IsSummaryText project text
IsTextOf Value project text = IsValueText project text
IsTextOf Curve project text = IsCurveText (priced_in project) text
IsTextOf Certify project text = IsCertificate (priced_in project) text
IsTextOf (Point limit) project text = IsPointText project limit text
IsTextOf (Outlook limit) project text = IsOutlookReply project limit text
IsTextOf (Bench n) project text = IsBenchText n (priced_in project) text
IsTextOf Migrate project text = IsDeckText project text
IsTextOf Optimum project text = IsOptimumText project text
IsTextOf Arrows project text = IsDeckText project text
IsTextOf (Load days) project text = IsLoadText project days text

-- a deck has only one text that answers the form; there may be several least schedules and certificates
abbrev pub HasOneText : Form → Type 0
HasOneText Certify = ⊥
HasOneText (Point limit) = ⊥
HasOneText (Outlook limit) = ⊥
HasOneText Optimum = ⊥
HasOneText _ = ⊤

-- the form refuses the project with the fault: `point` and `outlook` if the length is outside the range of the project,
-- `load` if the project takes too many periods
abbrev pub IsDenial : Form → Project → Fault → Type 0
IsDenial (Point limit) project fault = IsOutside (priced_in project) limit fault
IsDenial (Outlook limit) project fault = IsOutside (priced_in project) limit fault
IsDenial (Load days) project fault = HasTooManyPeriods project days fault
IsDenial _ project fault = ⊥
