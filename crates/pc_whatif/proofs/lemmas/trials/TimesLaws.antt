-- The report of event times, written from what is in a session's region.
use Rattle.std.proofs.Common.{◌≡◌, ℕ, ◌^◌, ◌<◌, ◌≤◌, List, length, to_z, of_z, w64, refl, sym, ◌∙◌, ap, arith}
use Rattle.std.specs.Prelude.{ℤ, pos, ◌-ℤ◌, ◌≤ℤ◌, unsigned_abs, slice_index, slice_index_or}
use Rattle.std.proofs.lemmas.Int.{ints, to_z-of_z}
use Rattle.std.proofs.lemmas.List.{length-map, length-take, get_or-map}
use Rattle.pc_model.specs.Network.{Network}
use Rattle.pc_model.specs.declared.limits.TheConstants.{MAX_EVENTS, MAX_VARIANCE}
use Rattle.pc_times.proofs.PickedWalks.{picked_from_known}
use Rattle.pc_times.specs.declared.TheConstants.{MAX_ACTIVITY_LENGTH, MAX_TIME}
use Rattle.pc_project.specs.Project.{Project, Heading}
use Rattle.pc_reports.specs.Times.{Times, IsTimes, end_to_meet}
use Rattle.pc_reports.specs.TimesText.{times_text}
use Rattle.pc_reports.specs.inside.View.{Shown, IsShownOf, as_shown}
use Rattle.pc_whatif.specs.inside.trials.SessionRegion.{SessionRegion, IsChangedTo, IsRegionFor, IsStanding, path_in}
use Rattle.pc_whatif.specs.inside.trials.Laid.{AreAtMost}
use Rattle.pc_whatif.specs.inside.trials.Shown.{late_by}

-- those of the path that is stored there
pub path-known : (net : Network) (r : SessionRegion) (k : ℕ) → IsStanding net r → k < length (path_in r) → slice_index (path_in r) k < length net.arcs
path-known net r k standing below = picked_from_known net r.expected net.start (path_in r) k standing.path below

-- what is shown if the end is to be met at that time
abbrev pub shown_by : SessionRegion → ℤ → Shown
shown_by r by = record {
  expected = r.expected;
  variances = r.variances;
  times = record { early = r.early; late = late_by by r.tails; path = path_in r };
}

-- the same, of lists
abbrev pub shown_from : List ℕ → List ℕ → List ℕ → List ℕ → List ℕ → ℤ → Shown
shown_from expected variances early tails path by = record {
  expected = expected;
  variances = variances;
  times = record { early = early; late = late_by by tails; path = path };
}

-- it is a report of the project
pub shown-fits : (project : Project) (r : SessionRegion) (by : ℤ) → IsRegionFor project.network r → IsStanding project.network r
    → AreAtMost MAX_ACTIVITY_LENGTH r.expected → AreAtMost MAX_VARIANCE r.variances → AreAtMost MAX_TIME r.early → AreAtMost MAX_TIME r.tails
    → project.network.events ≤ MAX_EVENTS → (pos 0 ≤ℤ by) × (by ≤ℤ pos MAX_TIME) → IsShownOf project (shown_by r by)
shown-fits project r by fits standing small_expected small_variances small_early small_tails few within = record {
  expected_each = fits.expected;
  variance_each = fits.variances;
  early_each = fits.early;
  late_each = length-map r.tails (λ tail. by -ℤ pos tail) ∙ fits.tails;
  expected = λ a known. small_expected a (omega (arith, known, fits.expected));
  variances = λ a known. small_variances a (omega (arith, known, fits.variances));
  early = λ e known. omega (arith, small_early e (omega (arith, known, fits.early)));
  late = late;
  known = λ k below. path-known project.network r k standing below;
  few = omega (arith, length-take r.path_len r.path_cells, fits.path_cells, few);
} where
  late : (e : ℕ) → e < project.network.events → unsigned_abs (slice_index_or (late_by by r.tails) e (pos 0)) < 2 ^ 40
  late e known =
      let below : e < length r.tails = omega (arith, known, fits.tails) in
      grind (arith, ints, get_or-map (λ tail. by -ℤ pos tail) r.tails e 0 (pos 0) below, small_tails e below, within.0, within.1)

-- its times are those of a project with these expected times
pub times-are : (project changed : Project) (r : SessionRegion) (by : ℤ) → IsRegionFor project.network r → IsStanding project.network r → IsChangedTo project r changed
    → by ≡ end_to_meet project.heading.directed (slice_index r.early project.network.end) → IsTimes changed (shown_by r by).times
times-are project changed r by fits standing is by_is = record {
  early = rw (is.network, is.expected) standing.early;
  late = rw (is.network, is.expected, is.heading) (record {
    one_each = length-map r.tails (λ tail. by -ℤ pos tail) ∙ fits.tails;
    each = λ e known. (
      slice_index r.tails e,
      standing.tails.each e known,
      get_or-map (λ tail. by -ℤ pos tail) r.tails e 0 (pos 0) (omega (arith, known, fits.tails)) ∙ ap (λ b. b -ℤ pos (slice_index r.tails e)) by_is,
    );
  });
  path = rw (is.network, is.expected) standing.path;
}

-- the report of a project by its parts
abbrev told : Project → Heading → Network → List (List ℕ) → List (List ℕ) → List ℕ → List ℕ → Times → List ℕ
told base heading network events activities expected variances times =
    times_text
    (record base { heading = heading; network = network; events = events; activities = activities; expected = expected; variances = variances })
    times

told-is : (base p : Project) (times : Times) → times_text p times ≡ told base p.heading p.network p.events p.activities p.expected p.variances times
unfolding times_text
told-is base p times = refl

-- the report made from there is that of the project with these expected times
pub text-same : (project changed : Project) (r : SessionRegion) (by : ℤ) → IsChangedTo project r changed
    → times_text (as_shown project (shown_by r by)) (shown_by r by).times ≡ times_text changed (shown_by r by).times
text-same project changed r by is =
    let times = (shown_by r by).times in
    told-is project (as_shown project (shown_by r by)) times
    ∙ ap (λ x. told project x project.network project.events project.activities r.expected r.variances times) (sym is.heading)
    ∙ ap (λ x. told project changed.heading x project.events project.activities r.expected r.variances times) (sym is.network)
    ∙ ap (λ x. told project changed.heading changed.network x project.activities r.expected r.variances times) (sym is.events)
    ∙ ap (λ x. told project changed.heading changed.network changed.events x r.expected r.variances times) (sym is.activities)
    ∙ ap (λ x. told project changed.heading changed.network changed.events changed.activities x r.variances times) (sym is.expected)
    ∙ ap (λ x. told project changed.heading changed.network changed.events changed.activities changed.expected x times) (sym is.variances)
    ∙ sym (told-is project changed times)

-- lists that are those of the region show the same
pub shown-is : (r : SessionRegion) (expected variances early tails path : List ℕ) (by to : ℤ) → expected ≡ r.expected → variances ≡ r.variances → early ≡ r.early
    → tails ≡ r.tails → path ≡ path_in r → by ≡ to → shown_from expected variances early tails path by ≡ shown_by r to
shown-is r expected variances early tails path by to e v t u p b =
    ap (λ x. shown_from x variances early tails path by) e
    ∙ ap (λ x. shown_from r.expected x early tails path by) v
    ∙ ap (λ x. shown_from r.expected r.variances x tails path by) t
    ∙ ap (λ x. shown_from r.expected r.variances r.early x path by) u
    ∙ ap (λ x. shown_from r.expected r.variances r.early r.tails x by) p
    ∙ ap (λ x. shown_from r.expected r.variances r.early r.tails (path_in r) x) b

-- what is read back from its bits is the same
pub read-back : (by : ℤ) → (pos 0 ≤ℤ by) × (by ≤ℤ pos MAX_TIME) → to_z w64 (of_z w64 by) ≡ by
read-back by within = to_z-of_z w64 by (grind (arith, ints, within.0, within.1))

-- and small
pub small-back : (by : ℤ) → (pos 0 ≤ℤ by) × (by ≤ℤ pos MAX_TIME) → unsigned_abs (to_z w64 (of_z w64 by)) < 2 ^ 40
small-back by within = rw (read-back by within) (grind (arith, ints, within.0, within.1))
