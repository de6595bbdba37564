-- An accepted deck has one text of each of these forms.
use Rattle.std.proofs.Common.{◌≡◌, ℕ, List, slice_index, refl, sym, ap, ◌∙◌, subst, arith}
use Rattle.std.proofs.lemmas.List.{ext_get_or}
use Rattle.pc_model.specs.Cost.{cost_of}
use Rattle.pc_model.specs.Pieces.{knees_of}
use Rattle.pc_model.proofs.Walks.WalkLaws.{greatest_unique}
use Rattle.pc_curve.proofs.lemmas.bench.OneTextLaws.{one_bench_text}
use Rattle.pc_curve.proofs.OneTextLaws.{one_curve_text}
use Rattle.pc_project.specs.Project.{Project}
use Rattle.pc_project.proofs.SoundLaws.{HasSoundParts}
use Rattle.pc_project.specs.shell.Priced.{priced_in}
use Rattle.pc_reports.proofs.OneTextLaws.{one_summary_text, one_times_text, one_value_text}
use Rattle.pert_cli.specs.declared.forms.Form.{Form}
use Rattle.pert_cli.specs.declared.forms.Form.TheVariants.{Check, Normal, Times, Summary, Value, Curve, Bench, Migrate, Arrows, Load}
use Rattle.pert_cli.specs.FormDeck.{sort_of}
use Rattle.pert_cli.specs.Forms.{HasOneText, IsTextOf}
use Rattle.pert_cli.specs.Verdicts.{IsMadeAs}
use Rattle.pert_cli.specs.Normal.{IsNormalSchedule, IsNormalText, Printed, printed_text}
use Rattle.pert_cli.proofs.OneLoadLaws.{one_load_text}
use Rattle.pert_cli.proofs.VerdictLaws.{one_project_as, parts_as}

abbrev make_printed : ℕ → ℕ → List ℕ → List ℕ → Printed
make_printed l c t d = record { length = l; cost = c; times = t; durations = d }

same_printed : {l m c e : ℕ} {t u d f : List ℕ} → l ≡ m → c ≡ e → t ≡ u → d ≡ f → make_printed l c t d ≡ make_printed m e u f
same_printed p q r s = rw (p, q, r, s) refl

one_schedule : (project : Project) (p q : Printed) → IsNormalSchedule project p → IsNormalSchedule project q → p ≡ q
one_schedule project p q x y =
    let durations = x.normal ∙ sym y.normal in
    same_printed (greatest_unique _ p.length q.length x.length y.length)
    (sym x.cost ∙ (ap (λ (ds : List ℕ). cost_of project.terms (knees_of project.terms project.pieces) (slice_index ds)) durations ∙ y.cost))
    (ext_get_or 0 p.times q.times (x.time_each ∙ sym y.time_each)
    (λ e lt. greatest_unique _ (slice_index p.times e) (slice_index q.times e) (x.early e (omega (arith, lt, x.time_each))) (y.early e (omega (arith, lt, x.time_each)))))
    durations

one_normal_text : (project : Project) (text other : List ℕ) → IsNormalText project text → IsNormalText project other → text ≡ other
one_normal_text project text other x y = x.is ∙ (ap (printed_text project) (one_schedule project x.printed y.printed x.right y.right) ∙ sym y.is)

of_parts : (form : Form) (project : Project) (text other : List ℕ) → HasOneText form → HasSoundParts project → IsTextOf form project text → IsTextOf form project other → text ≡ other
of_parts Check project text other has parts x y = x ∙ sym y
of_parts Normal project text other has parts x y = one_normal_text project text other x y
of_parts Times project text other has parts x y = one_times_text project text other parts x y
of_parts Summary project text other has parts x y = one_summary_text project text other parts x y
of_parts Value project text other has parts x y = one_value_text project text other parts x y
of_parts Curve project text other has parts x y = one_curve_text (priced_in project) text other x y
of_parts (Bench n) project text other has parts x y = one_bench_text n (priced_in project) text other parts.terms x y
of_parts Migrate project text other has parts x y = x.is ∙ sym y.is
of_parts Arrows project text other has parts x y = x.is ∙ sym y.is
of_parts (Load days) project text other has parts x y = one_load_text project days text other parts x y
of_parts _ project text other has parts x y = absurd has

-- two texts that answer such a form for the project of a deck are equal
pub one_text : (bytes : List ℕ) (project other_project : Project) (form : Form) (text other : List ℕ) → IsMadeAs (sort_of form) bytes project → IsMadeAs (sort_of form) bytes other_project →
    HasOneText form → IsTextOf form project text → IsTextOf form other_project other → text ≡ other
one_text bytes project other_project form text other is also has x y =
    of_parts form project text other has (parts_as (sort_of form) bytes project is) x
    (subst (λ (p : Project). IsTextOf form p other) (one_project_as (sort_of form) bytes other_project project also is) y)
