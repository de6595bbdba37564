-- Each fault of a deck has a line.
use Rattle.std.proofs.Common.{ℕ, Bool, true, false, List, [], ◌∷◌, ◌++◌, inl, inr, refl, sym, subst}
use Rattle.std.specs.Str.{is_utf8}
use Rattle.pc_faults.specs.inside.FaultText.{IsTold}
use Rattle.pc_faults.specs.declared.fault.Fault.{Fault}
use Rattle.pc_cards.specs.Cards.{Numbered, deck_cards}
use Rattle.pc_cards.specs.declared.sort.Sort.{Sort}
use Rattle.pc_cards.specs.declared.sort.Sort.TheVariants.{Plan}
use Rattle.pc_deck.specs.Judged.{Seen}
use Rattle.pc_deck.specs.Refusal.{HasCardFault, HasFaultFrom, HasFaultWhere, IsCardRefusal, IsRefusalAs}
use Rattle.pc_deck.specs.Refusal as has

told_of-card : (seen : Seen) (card : Numbered) (fault : Fault) → HasCardFault seen card fault → IsTold fault
told_of-card seen card fault (has.not_project first other is) = subst IsTold (sym is) refl
told_of-card seen card fault (has.unknown_kind none is) = subst IsTold (sym is) refl
told_of-card seen card fault (has.second_card kind named once some is) = subst IsTold (sym is) refl
told_of-card seen card fault (has.wrong_fields kind named part is) = subst IsTold (sym is) refl
told_of-card seen card fault (has.wrong_shape kind slot named whole found is) = subst IsTold (sym is) refl
told_of-card seen card fault (has.over_limit kind slot named whole shapes found is) = subst IsTold (sym is) refl
told_of-card seen card fault (has.repeated_code kind named whole shapes among is) = subst IsTold (sym is) refl
told_of-card seen card fault (has.one_too_many kind limit named few full is) = subst IsTold (sym is) refl
told_of-card seen card fault (has.behind_end kind named ended is) = subst IsTold (sym is) refl

told_from : (sort : Sort) (before : List Numbered) (end : ℕ) (cards : List Numbered) (fault : Fault) → HasFaultFrom sort before end cards fault → IsTold fault
told_from sort before end [] fault h = subst IsTold (sym h.1) refl
told_from sort before end (card ∷ cards) fault (inl here) = told_of-card _ card fault here
told_from sort before end (card ∷ cards) fault (inr later) = told_from sort (before ++ card ∷ []) end cards fault later

told_where : (sort : Sort) (utf8 : Bool) (bytes : List ℕ) (fault : Fault) → HasFaultWhere sort utf8 bytes fault → IsTold fault
told_where sort true bytes fault h = told_from sort [] _ (deck_cards bytes) fault h
told_where sort false bytes fault h = subst IsTold (sym h) refl

-- the first fault of a deck of a sort has a line
pub told_of-refusal_as : (sort : Sort) (bytes : List ℕ) (fault : Fault) → IsRefusalAs sort bytes fault → IsTold fault
told_of-refusal_as sort bytes fault refused = told_where sort (is_utf8 bytes) bytes fault refused.holds

-- the same of a plan
pub told_of-refusal : (bytes : List ℕ) (fault : Fault) → IsCardRefusal bytes fault → IsTold fault
told_of-refusal bytes fault refused = told_of-refusal_as Plan bytes fault refused
