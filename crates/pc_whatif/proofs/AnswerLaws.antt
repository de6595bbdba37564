-- What a line leaves, and what lines leave together.
use Rattle.std.proofs.Common.{◌≡◌, ℕ, ◌-◌, Bool, true, false, List, [], ◌∷◌, length, take, Option, Some, None, refl, sym, ap, ◌∙◌, subst}
use Rattle.std.proofs.lemmas.Bool.{eqb-true}
use Rattle.std.proofs.lemmas.List.{nil_from_length}
use Rattle.std.specs.Prelude.{◌==◌, if◌then◌else◌}
use Rattle.std.specs.Option.{option_map_or}
use Rattle.circular_buffer.specs.Buffer.{last_item}
use Rattle.pc_crash.specs.Priced.{PricedNetwork}
use Rattle.pc_curve.specs.Points.{curve_in}
use Rattle.pc_model.specs.declared.Term.{Term}
use Rattle.pc_model.specs.Schedule.{term_at}
use Rattle.pc_project.specs.Project.{Project}
use Rattle.pc_whatif.specs.declared.edits.ask.Ask.{Ask}
use Rattle.pc_whatif.specs.declared.edits.ask.Ask.TheVariants as ask
use Rattle.pc_whatif.specs.declared.edits.ask.Trial.{Trial}
use Rattle.pc_whatif.specs.declared.edits.reason.Reason.{Reason}
use Rattle.pc_whatif.specs.declared.edits.reason.Reason.TheVariants.{NothingToUndo, OutsideRange}
use Rattle.pc_whatif.specs.declared.edits.ActTerm.{ActTerm}
use Rattle.pc_whatif.specs.edits.Editing.{Editing, activity_named, undone, editing_with, net_trying}
use Rattle.pc_whatif.specs.edits.Plans.{Plan, term_tried}
use Rattle.pc_whatif.specs.edits.Refusal.{undo_refusal, trial_refusal}
use Rattle.pc_edges.specs.inside.lines.Talk.{Answered}
use Rattle.pc_edges.specs.inside.lines.Reading.{kept}
use Rattle.pc_curve.specs.Range.{IsLengthInRange}
use Rattle.pc_whatif.specs.inside.trials.SessionRegion.{SessionRegion}
use Rattle.pc_whatif.specs.Planning.{IsLineAnswer, IsTrialText, outside, costs, AreAnswers, editing_after, net_tried}
use Rattle.pc_whatif.specs.inside.Planning.{Planning, IsAnswered, HasCurrentTimes, AnswersLine}
use Rattle.pc_whatif.specs.Texts.{refused_text, cost_text}
use Rattle.pc_whatif.proofs.LineLaws.{ask_of-kept}

-- ---- one line

-- a session of these parts
abbrev planning_of : Project → Editing → SessionRegion → Planning
planning_of project editing region = record { project = project; editing = editing; region = region }

-- the session stays as it is
pub stays : (old : Planning) (asked : Option Ask) (text : List ℕ) → HasCurrentTimes old.project old.editing old.region → IsLineAnswer old.project old.editing asked text
    → old.editing ≡ editing_after old.editing asked → IsAnswered old asked text old
stays old asked text standing is same = record { answer = is; project = refl; editing = same; standing = standing; lists = λ other. refl; cells = refl }

-- the same, where the session is the one that it was
pub stays_as : (old new : Planning) (asked : Option Ask) (text : List ℕ) → new ≡ old → HasCurrentTimes new.project new.editing new.region → IsLineAnswer new.project new.editing asked text
    → new.editing ≡ editing_after new.editing asked
    → IsAnswered old asked text new
stays_as old new asked text same standing is kept = subst (λ (p : Planning). IsAnswered p asked text new) same (stays new asked text standing is kept)

-- a trial that is answered, and after which the session is the one that it was
pub tried_out : (old : Planning) (project : Project) (editing editing_left : Editing) (region region_left : SessionRegion) (trial : Trial) (text : List ℕ)
    → editing_left ≡ editing → region_left ≡ region → HasCurrentTimes project editing region → planning_of project editing region ≡ old → IsTrialText editing trial text
    → IsAnswered old (Some (ask.Try trial)) text (planning_of project editing_left region_left)
tried_out old project editing editing_left region region_left trial text edits kept standing same answers =
    stays_as old (planning_of project editing_left region_left) (Some (ask.Try trial)) text
    (ap (λ (e : Editing). planning_of project e region_left) edits ∙ ap (planning_of project editing) kept ∙ same)
    (subst (λ (e : Editing). HasCurrentTimes project e region_left) (sym edits) (subst (HasCurrentTimes project editing) (sym kept) standing))
    (subst (λ (e : Editing). IsTrialText e trial text) (sym edits) answers) refl

none_kept : (test : Bool) (reason : Reason) → (if test then Some NothingToUndo else None) ≡ Some reason → test ≡ true
none_kept true reason e = refl
none_kept false reason e = absurd cc

nothing_undone : (editing : Editing) → editing.kept ≡ [] → undone editing ≡ editing
nothing_undone editing none = ap (λ (kept : List Plan). option_map_or (λ (plan : Plan). editing_with editing plan (take (length kept - 1) kept)) (last_item kept) editing) none

-- an UNDO that is refused leaves all as it is
pub undone_same : (editing : Editing) (reason : Reason) → undo_refusal editing ≡ Some reason → undone editing ≡ editing
undone_same editing reason why =
    nothing_undone editing (nil_from_length editing.kept (eqb-true (length editing.kept) 0 (none_kept (length editing.kept == 0) reason why)))

-- ---- a trial

module _ (editing : Editing) (trial : Trial) where
  -- the network with the term on trial
  pub tried_net : (tried : ActTerm) → tried.term ≡ term_tried trial (term_at editing.net.terms tried.activity) → net_trying editing.net tried ≡ net_tried editing trial tried.activity
  tried_net tried term = ap (λ (t : Term). net_trying editing.net (record { activity = tried.activity; term = t })) term

  pub trial_costs : (tried : ActTerm) (cost : ℕ) → trial_refusal editing.net editing.estimates trial ≡ None → activity_named editing.net trial.act ≡ Some tried.activity
      → tried.term ≡ term_tried trial (term_at editing.net.terms tried.activity) → IsLengthInRange (net_trying editing.net tried) trial.length →
      curve_in (net_trying editing.net tried) trial.length cost
      → IsTrialText editing trial (cost_text cost)
  trial_costs tried cost none named term within least =
      let net = tried_net tried term in
      costs tried.activity cost none named (subst (λ (n : PricedNetwork). IsLengthInRange n trial.length) net within) (subst (λ (n : PricedNetwork). curve_in n trial.length cost) net least) refl

  pub trial_outside : (tried : ActTerm) → trial_refusal editing.net editing.estimates trial ≡ None → activity_named editing.net trial.act ≡ Some tried.activity
      → tried.term ≡ term_tried trial (term_at editing.net.terms tried.activity) → (IsLengthInRange (net_trying editing.net tried) trial.length → ⊥)
      → IsTrialText editing trial (refused_text OutsideRange)
  trial_outside tried none named term without =
      let net = tried_net tried term in
      outside tried.activity none named (λ within. without (subst (λ (n : PricedNetwork). IsLengthInRange n trial.length) (sym net) within)) refl

-- ---- lines

-- the answers of a session are the answers to its lines
pub answers_of : (start end : Planning) (lines : List (List ℕ)) (text : List ℕ) → Answered AnswersLine start lines text end → AreAnswers start.project start.editing lines text
answers_of start end [] text p = p.0
answers_of start end (line ∷ lines) text p =
    let next = p.2 in
    let said = p.4 in
    let asked = ask_of-kept line in
    let rest = answers_of next end lines (p.1) (p.5) in (
      p.0,
      p.1,
      p.3,
      subst (λ (a : Option Ask). IsLineAnswer start.project start.editing a (p.0)) asked said.answer,
      subst (λ (e : Editing). AreAnswers start.project e lines (p.1)) (said.editing ∙ ap (editing_after start.editing) asked)
          (subst (λ (project : Project). AreAnswers project next.editing lines (p.1)) said.project rest),
    )
