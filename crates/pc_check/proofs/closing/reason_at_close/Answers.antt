use Rattle.std.proofs.Common.{refl, sym, ◌∙◌}
use Rattle.std.proofs.lemmas.Bool.{eq-eqb, ne_eqb}
use Rattle.pc_check.proofs.ReasonLaws.{fails_here, fails_later}
use Rattle.pc_check.proofs.closing.reason_at_close.Goals as goal

pub returns-then-not-is_conserved : goal.returns-then-not-is_conserved
returns-then-not-is_conserved c = fails_here _ _ _ (sym c.is_conserved.ensures ∙ c.if-not-is_conserved.true)

pub returns-then-not-leaves_start : goal.returns-then-not-leaves_start
returns-then-not-leaves_start c =
    fails_later _ _ _ _ (sym c.is_conserved.ensures ∙ c.if-not-is_conserved.false)
    (fails_here _ _ _ (sym c.leaves_start.ensures ∙ c.if-not-leaves_start.true))

pub returns-then-kept : goal.returns-then-kept
returns-then-kept c =
    fails_later _ _ _ _ (sym c.is_conserved.ensures ∙ c.if-not-is_conserved.false)
    (fails_later _ _ _ _ (sym c.leaves_start.ensures ∙ c.if-not-leaves_start.false)
    (fails_here _ _ _ (ne_eqb _ _ c.if-kept.true)))

pub returns-then-not-has_cut_gain : goal.returns-then-not-has_cut_gain
returns-then-not-has_cut_gain c =
    fails_later _ _ _ _ (sym c.is_conserved.ensures ∙ c.if-not-is_conserved.false)
    (fails_later _ _ _ _ (sym c.leaves_start.ensures ∙ c.if-not-leaves_start.false)
    (fails_later _ _ _ _ (eq-eqb _ _ c.if-kept.false)
    (fails_here _ _ _ (sym c.has_cut_gain.ensures ∙ c.if-not-has_cut_gain.true))))

pub returns-then-not-has_stop : goal.returns-then-not-has_stop
returns-then-not-has_stop c =
    fails_later _ _ _ _ (sym c.is_conserved.ensures ∙ c.if-not-is_conserved.false)
    (fails_later _ _ _ _ (sym c.leaves_start.ensures ∙ c.if-not-leaves_start.false)
    (fails_later _ _ _ _ (eq-eqb _ _ c.if-kept.false)
    (fails_later _ _ _ _ (sym c.has_cut_gain.ensures ∙ c.if-not-has_cut_gain.false)
    (fails_here _ _ _ (sym c.has_stop.ensures ∙ c.if-not-has_stop.true)))))

pub returns : goal.returns
returns c =
    fails_later _ _ _ _ (sym c.is_conserved.ensures ∙ c.if-not-is_conserved.false)
    (fails_later _ _ _ _ (sym c.leaves_start.ensures ∙ c.if-not-leaves_start.false)
    (fails_later _ _ _ _ (eq-eqb _ _ c.if-kept.false)
    (fails_later _ _ _ _ (sym c.has_cut_gain.ensures ∙ c.if-not-has_cut_gain.false)
    (fails_later _ _ _ _ (sym c.has_stop.ensures ∙ c.if-not-has_stop.false) refl))))
