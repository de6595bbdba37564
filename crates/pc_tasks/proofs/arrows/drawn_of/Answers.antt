use Rattle.std.proofs.Common.{◌∙◌}
use Rattle.std.proofs.lemmas.Result.{IfOk-weaker}
use Rattle.pc_tasks.proofs.KeepLemmas.{made-drawn, made-within, rows-among}
use Rattle.pc_tasks.proofs.KnownLemmas.{can_be_drawn}
use Rattle.pc_tasks.proofs.arrows.drawn_of.Goals as goal

pub acts_of-requires-clause-among : goal.acts_of-requires-clause-among
acts_of-requires-clause-among c =
    let deck = c.args.cards.now in
    rows-among deck c.args.afters.now (can_be_drawn deck c.requires.sound.items.cards c.facts.ensures.within) c.requires.afters

pub build_drawn-requires : goal.build_drawn-requires
build_drawn-requires c =
    made-within c.args.cards.now c.deref.result.now c.deref-2.result.now c.deref-3.result.now c.facts.ensures.within c.requires.sound.items.cards
    (c.deref.ensures.value ∙ c.in_ok-items.ensures) (c.deref-2.ensures.value ∙ c.in_ok-events.ensures) (c.deref-3.ensures.value ∙ c.in_ok-acts.ensures)

pub returns-clause-drawn : goal.returns-clause-drawn
returns-clause-drawn c =
    IfOk-weaker c.build_drawn.result _ _
    (λ plan is.
    is
    ∙ made-drawn c.args.cards.now c.deref.result.now c.deref-2.result.now c.deref-3.result.now
    (c.deref.ensures.value ∙ c.in_ok-items.ensures) (c.deref-2.ensures.value ∙ c.in_ok-events.ensures) (c.deref-3.ensures.value ∙ c.in_ok-acts.ensures))
    c.build_drawn.ensures
