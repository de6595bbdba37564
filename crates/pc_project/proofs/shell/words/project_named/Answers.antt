use Rattle.std.proofs.Common.{refl, subst, arith}
use Rattle.pc_faults.specs.declared.fault.Fault.{Fault}
use Rattle.pc_deck.specs.Limits.{longest_deck}
use Rattle.pc_edges.specs.declared.loading.TheConstants.{STREAM_ROOM}
use Rattle.pc_edges.proofs.PullLaws.{IsReadWithin_none}
use Rattle.pc_project.specs.inside.shell.OneWord.{not_one_word, no_memory, deck_unread, usage_cut}
use Rattle.pc_project.specs.inside.shell.Refusing.{Refusal}
use Rattle.pc_project.specs.shell.Sides.{side}
use Rattle.pc_project.proofs.lemmas.shell.OneWordLaws.{after_refusal}
use Rattle.pc_project.proofs.shell.words.project_named.Goals as goal

pub returns-in-Ok-clause-none : goal.returns-in-Ok-clause-none
returns-in-Ok-clause-none g c = not_one_word (λ one. absurd (omega (arith, one, c.if-words-ne1.true))) c.in-Ok.ensures.ok refl

pub returns-in-Ok-clause-stops : goal.returns-in-Ok-clause-stops
returns-in-Ok-clause-stops g c = IsReadWithin_none longest_deck STREAM_ROOM g.D.Source.left g.D.Source.faults g.D.Source.pulls c.args.deck.now

pub returns-in-Err-clause-stops : goal.returns-in-Err-clause-stops
returns-in-Err-clause-stops g c = IsReadWithin_none longest_deck STREAM_ROOM g.D.Source.left g.D.Source.faults g.D.Source.pulls c.args.deck.now

pub returns-in-Err-clause-none : goal.returns-in-Err-clause-none
returns-in-Err-clause-none g c = usage_cut (λ one. absurd (omega (arith, one, c.if-words-ne1.true))) c.in-Err.ensures.err refl

pub returns-in-Err-Refused-clause-none : goal.returns-in-Err-Refused-clause-none
returns-in-Err-Refused-clause-none g c =
    let why = rw c.in-Err-Refused.field-0-is at c.in-Err-Refused.ensures.none in
    after_refusal c.args.words.now c.args.usage.now _ _ c.in-Err-Refused.fault c.refuse.result (omega (arith, c.if-words-ne1.false)) why.1
    (subst (λ (fault : Fault). Refusal fault (side g.E.Sink.taken g.E.Sink.faults c.args.err.now c.refuse.new.err) c.refuse.result) c.in-Err-Refused.fault-is c.refuse.ensures)

pub returns-in-Err-ReadFault-clause-none : goal.returns-in-Err-ReadFault-clause-none
returns-in-Err-ReadFault-clause-none g c =
    let why = rw c.in-Err-ReadFault.field-0-is at c.in-Err-ReadFault.ensures.none in
    deck_unread (omega (arith, c.if-words-ne1.false)) why.0 why.1 refl

pub returns-in-Err-OutOfMemory-clause-none : goal.returns-in-Err-OutOfMemory-clause-none
returns-in-Err-OutOfMemory-clause-none g c = no_memory (omega (arith, c.if-words-ne1.false)) refl
