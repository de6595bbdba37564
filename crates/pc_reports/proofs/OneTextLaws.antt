-- A project has one report of each kind.
use Rattle.std.proofs.Common.{◌≡◌, ℕ, List, [], slice_index, Option, refl, sym, ap, ◌∙◌, subst, arith}
use Rattle.std.specs.Prelude.{ℤ, pos, ◌-ℤ◌, slice_index_or}
use Rattle.std.proofs.lemmas.Int.{ints}
use Rattle.std.proofs.lemmas.List.{ext_get_or}
use Rattle.pc_days.specs.Dates.{NamesDay}
use Rattle.pc_days.proofs.Reading.{NamesDay-same}
use Rattle.pc_days.proofs.Sixths.{one_day}
use Rattle.pc_model.specs.Network.{Network}
use Rattle.pc_model.proofs.Walks.WalkLaws.{greatest_unique}
use Rattle.pc_accounts.specs.status.Statuses.{IsSixths}
use Rattle.pc_times.specs.Forecast.{Expected, IsForecast}
use Rattle.pc_times.specs.Late.{AreLate, IsLate}
use Rattle.pc_times.specs.Times.{AreEarly}
use Rattle.pc_times.proofs.OneForecastLaws.{one_forecast}
use Rattle.pc_times.proofs.PickedWalks.{picked_walk_unique}
use Rattle.pc_rollup.specs.declared.figures.outline.OutlineRow.{OutlineRow}
use Rattle.pc_rollup.specs.figures.Columns.{AreOnTree}
use Rattle.pc_rollup.specs.figures.Slacks.{AreLeastSlacks, slack_at}
use Rattle.pc_rollup.specs.figures.Worth.{Worth}
use Rattle.pc_rollup.proofs.lemmas.figures.OnceLaws.{one_outline, one_slacks, one_summary, one_worth}
use Rattle.pc_project.proofs.SoundLaws.{HasSoundParts}
use Rattle.pc_project.specs.Project.{Project}
use Rattle.pc_reports.specs.Earned.{AreForecasts, AreLateFor, Earned, Forecasts, IsEarned}
use Rattle.pc_reports.specs.SummaryText.{IsSummaryText, summary_text}
use Rattle.pc_reports.specs.Times.{AreDates, IsDate, IsTimes, Times, end_to_meet, past, printed}
use Rattle.pc_reports.specs.TimesText.{IsTimesText, times_text}
use Rattle.pc_reports.specs.ValueText.{IsValueText, value_text}

-- ---- times and dates

pub one_early : (net : Network) (lengths xs ys : List ℕ) → AreEarly net lengths xs → AreEarly net lengths ys → xs ≡ ys
one_early net lengths xs ys a b =
    ext_get_or 0 xs ys (a.one_each ∙ sym b.one_each)
    (λ e lt. greatest_unique _ (slice_index xs e) (slice_index ys e) (a.each e (omega (arith, lt, a.one_each))) (b.each e (omega (arith, lt, a.one_each))))

one_late_time : (net : Network) (lengths : List ℕ) (by : ℤ) (e : ℕ) (s t : ℤ) → IsLate net lengths by e s → IsLate net lengths by e t → s ≡ t
one_late_time net lengths by e s t (m, tail, is) (n, other, also) =
    is ∙ (ap (λ (k : ℕ). by -ℤ pos k) (greatest_unique _ m n tail other) ∙ sym also)

one_late : (net : Network) (lengths : List ℕ) (by : ℤ) (xs ys : List ℤ) → AreLate net lengths by xs → AreLate net lengths by ys → xs ≡ ys
one_late net lengths by xs ys a b =
    ext_get_or (pos 0) xs ys (a.one_each ∙ sym b.one_each)
    (λ e lt. one_late_time net lengths by e (slice_index_or xs e (pos 0)) (slice_index_or ys e (pos 0)) (a.each e (omega (arith, lt, a.one_each))) (b.each e (omega (arith, lt, a.one_each))))

one_date : (start : ℤ) (sixths : ℕ) (s t : List ℕ) → IsDate start sixths s → IsDate start sixths t → s ≡ t
one_date start sixths s t (printed day after in_print names) (printed other later also is) =
    NamesDay-same s t other (subst (NamesDay s) (one_day start (pos sixths) day other after later) names) is
one_date start sixths s t (printed day after in_print names) (past never is) = absurd (never day after in_print)
one_date start sixths s t (past never is) (printed day after in_print names) = absurd (never day after in_print)
one_date start sixths s t (past never is) (past none also) = is ∙ sym also

one_dates : (start : ℤ) (times : List ℕ) (xs ys : List (List ℕ)) → AreDates start times xs → AreDates start times ys → xs ≡ ys
one_dates start times xs ys a b =
    ext_get_or [] xs ys (a.one_each ∙ sym b.one_each)
    (λ e lt. one_date start (slice_index times e) (slice_index_or xs e []) (slice_index_or ys e []) (a.each e (omega (arith, lt, a.one_each))) (b.each e (omega (arith, lt, a.one_each))))

-- ---- the report of event times

abbrev make_times : List ℕ → List ℤ → List ℕ → Times
make_times e l p = record { early = e; late = l; path = p }

same_times : {e f : List ℕ} {l m : List ℤ} {p q : List ℕ} → e ≡ f → l ≡ m → p ≡ q → make_times e l p ≡ make_times f m q
same_times a b c = rw (a, b, c) refl

one_times : (project : Project) (s t : Times) → HasSoundParts project → IsTimes project s → IsTimes project t → s ≡ t
one_times project s t parts x y =
    let early = one_early project.network project.expected s.early t.early x.early y.early in
    let by : List ℕ → ℤ = λ es. end_to_meet project.heading.directed (slice_index es project.network.end) in
    same_times early
    (one_late project.network project.expected (by t.early) s.late t.late (subst (λ (es : List ℕ). AreLate project.network project.expected (by es) s.late) early x.late) y.late)
    (picked_walk_unique project.network project.expected s.path t.path parts.sound x.path y.path)

pub one_times_text : (project : Project) (text other : List ℕ) → HasSoundParts project → IsTimesText project text → IsTimesText project other → text ≡ other
one_times_text project text other parts x y = x.told ∙ (ap (times_text project) (one_times project x.times y.times parts x.are y.are) ∙ sym y.told)

-- ---- the management summary

on_tree : (project : Project) → HasSoundParts project → AreOnTree project.tree project.accounts
on_tree project parts = record { known = parts.known; leaves = parts.leaves }

pub one_summary_text : (project : Project) (text other : List ℕ) → HasSoundParts project → IsSummaryText project text → IsSummaryText project other → text ≡ other
one_summary_text project text other parts x y =
    x.told ∙ (ap (summary_text project) (one_summary project.tree project.accounts project.entries x.summary y.summary parts.ranged parts.tree (on_tree project parts) x.are y.are) ∙ sym y.told)

-- ---- the report of the value of work

abbrev make_forecasts : List ℕ → List ℤ → List (List ℕ) → List (Option ℤ) → Forecasts
make_forecasts t l d s = record { times = t; late = l; dates = d; slacks = s }

same_forecasts : {t u : List ℕ} {l m : List ℤ} {d e : List (List ℕ)} {r s : List (Option ℤ)} → t ≡ u → l ≡ m → d ≡ e → r ≡ s → make_forecasts t l d r ≡ make_forecasts u m e s
same_forecasts a b c d = rw (a, b, c, d) refl

one_sixths : (start day : ℤ) (m n : ℕ) → IsSixths start day m → IsSixths start day n → m ≡ n
one_sixths start day m n x y = omega (arith, ints, x, y)

one_late_for : (project : Project) (xs ys : List ℤ) → AreLateFor project xs → AreLateFor project ys → xs ≡ ys
one_late_for project xs ys (early, (are, late)) (other, (also, later)) =
    let by : List ℕ → ℤ = λ es. end_to_meet project.heading.directed (slice_index es project.network.end) in
    one_late project.network project.expected (by other) xs ys
    (subst (λ (es : List ℕ). AreLate project.network project.expected (by es) xs) (one_early project.network project.expected early other are also) late) later

one_forecasts : (project : Project) (f g : Forecasts) → HasSoundParts project → AreForecasts project f → AreForecasts project g → f ≡ g
one_forecasts project f g parts x y =
    let as_of = one_sixths project.heading.start_day project.heading.as_of x.as_of y.as_of x.as_of_is y.as_of_is in
    let expected = one_forecast project.network project.expected project.states y.as_of parts.in_range parts.sound x.expected y.expected
    (subst (λ (n : ℕ). IsForecast project.network project.expected project.states n x.expected) as_of x.forecast) y.forecast in
    let times : f.times ≡ g.times = x.times ∙ (ap (λ (e : Expected). e.times) expected ∙ sym y.times) in
    let late = one_late_for project f.late g.late x.late y.late in
    same_forecasts times late
    (one_dates project.heading.start_day g.times f.dates g.dates (subst (λ (ts : List ℕ). AreDates project.heading.start_day ts f.dates) times x.dates) y.dates)
    (one_slacks project.tree project.places (slack_at project.network g.late y.expected.finishes) f.slacks g.slacks
    (subst (λ (ls : List ℤ). AreLeastSlacks project.tree project.places (slack_at project.network ls y.expected.finishes) f.slacks) late
    (subst (λ (e : Expected). AreLeastSlacks project.tree project.places (slack_at project.network f.late e.finishes) f.slacks) expected x.slacks)) y.slacks)

abbrev make_earned : Forecasts → List OutlineRow → Worth → Earned
make_earned f o w = record { forecasts = f; outline = o; worth = w }

one_earned : (project : Project) (e f : Earned) → HasSoundParts project → IsEarned project e → IsEarned project f → e ≡ f
one_earned project e f parts x y =
    ap (λ fs. make_earned fs e.outline e.worth) (one_forecasts project e.forecasts f.forecasts parts x.forecasts y.forecasts)
    ∙ ap (λ os. make_earned f.forecasts os e.worth) (one_outline project.tree e.outline f.outline parts.tree x.outline y.outline)
    ∙ ap (λ ws. make_earned f.forecasts f.outline ws) (one_worth project.tree project.places project.states project.accounts project.entries e.worth f.worth x.worth y.worth)

pub one_value_text : (project : Project) (text other : List ℕ) → HasSoundParts project → IsValueText project text → IsValueText project other → text ≡ other
one_value_text project text other parts x y = x.told ∙ (ap (value_text project) (one_earned project x.earned y.earned parts x.are y.are) ∙ sym y.told)
