-- The cards of a deck make a project exactly if no phase finds a fault.
use Rattle.std.proofs.Common.{◌≡◌, ℕ, zero, suc, ◌+◌, ◌<◌, List, length, get_or, Option, refl, sym, ap, ◌∙◌, subst, inl, inr, arith}
use Rattle.std.specs.Prelude.{All, ◌≤ℤ◌}
use Rattle.std.proofs.lemmas.Bool.{cases_lt}
use Rattle.std.proofs.lemmas.Int.{ints}
use Rattle.std.proofs.lemmas.List.{length-map}
use Rattle.pc_crash.specs.Priced.{piece_at}
use Rattle.pc_cards.specs.declared.sort.Sort.TheVariants.{Plan}
use Rattle.pc_deck.specs.Act.{HasActFlaw, durations, same_events}
use Rattle.pc_deck.specs.Deck.{Deck, item_codes, list_of, number_among}
use Rattle.pc_deck.specs.Durations.{crash_above, unordered}
use Rattle.pc_deck.specs.Kinds.{CardOf, entry_of, kinds_of}
use Rattle.pc_deck.specs.Misfit.{AreKnownNames, HasNoMisfit}
use Rattle.pc_deck.specs.inside.Misfit.{names_of}
use Rattle.pc_deck.specs.declared.kinds.acct.AcctCard.{AcctCard}
use Rattle.pc_deck.specs.declared.kinds.act.ActCard.{ActCard}
use Rattle.pc_deck.specs.declared.kinds.as_of.AsOfCard.{AsOfCard}
use Rattle.pc_deck.specs.declared.kinds.project.ProjectCard.{ProjectCard}
use Rattle.pc_deck.proofs.MisfitLaws.{all_named, at_each, none_unknown}
use Rattle.pc_faults.specs.declared.fault.Fault.{Fault}
use Rattle.pc_faults.specs.declared.kind.Kind.{Kind}
use Rattle.pc_faults.specs.declared.kind.Kind.TheVariants.{Act, Project}
use Rattle.pc_model.specs.declared.limits.TheConstants.{MAX_PIECES_EACH}
use Rattle.pc_model.specs.Pieces.{slope_in, units_of}
use Rattle.pc_model.specs.Schedule.{term_at}
use Rattle.pc_wbs.specs.Climb.{IsLeaf}
use Rattle.pc_project.specs.DisorderFaults.{HasDisorder, of_as_of, of_status}
use Rattle.pc_project.specs.Makes.{AreSoundCards, IsFlawless, IsSoundAct, MakesProject}
use Rattle.pc_project.specs.PackageFaults.{HasLeafFault, of_account, of_act}
use Rattle.pc_project.specs.PieceFaults.{HasNoPieceFault, HasPieceFault, none_left, not_rising, one_too_many, pieces_before}
use Rattle.pc_project.specs.Project.{as_of_day, piece_of, pieces_in, rows_of, status_of, terms_in}
use Rattle.pc_project.specs.Refusal.{HasNoFault}
use Rattle.pc_project.specs.TermsFaults.{HasTermsFault, bonus_above}
use Rattle.pc_project.proofs.BranchLaws.{account_on_leaf, act_on_leaf}
use Rattle.pc_project.proofs.DisorderLaws.{all_in_order, as_of-late}
use Rattle.pc_project.proofs.FitLaws.{all_fit, ends_apart}

-- ---- no fault is found, so each part is sound

sound_cards : (deck : Deck) → HasNoMisfit Plan deck → AreSoundCards deck
sound_cards deck none = record { named = λ n d within. all_named Plan deck none n d within; apart = ends_apart deck none; acts = all_fit deck none }

-- no piece of a deck without faults of pieces has a flaw
pub flawless : (deck : Deck) → HasNoPieceFault deck → (i : ℕ) → i < length (pieces_in deck) → IsFlawless (terms_in deck) (pieces_in deck) i
flawless deck none i within =
    let inside : i < length deck.pieces = omega (arith, within, length-map deck.pieces (piece_of deck)) in
    let a = (piece_at (pieces_in deck) i).activity in
    let before = pieces_before (pieces_in deck) i in
    record {
      few = elim (cases_lt (length before) MAX_PIECES_EACH) [ inl fine ↦ fine | inr many ↦ absurd (none _ (i, inside, one_too_many many refl)) ];
      rising = elim (cases_lt (slope_in (term_at (terms_in deck) a) before (length before)) (piece_at (pieces_in deck) i).slope)
          [ inl fine ↦ fine | inr low ↦ absurd (none _ (i, inside, not_rising low refl)) ];
      leaving = elim (cases_lt ((term_at (terms_in deck) a).crash + (units_of before + (piece_at (pieces_in deck) i).units))
          (term_at (terms_in deck) a).normal) [ inl fine ↦ fine | inr long ↦ absurd (none _ (i, inside, none_left long refl)) ];
    }

-- a deck in which no phase finds a fault makes a project
pub makes_project : (deck : Deck) → HasNoFault deck → MakesProject deck
makes_project deck none = record {
  cards = sound_cards deck none.cards;
  tree = none.tree;
  sound = none.sound;
  leaves = act_on_leaf deck none.figures.leaves;
  accounts = account_on_leaf deck none.figures.leaves;
  even = none.figures.even;
  as_of = as_of-late deck none.figures.ordered;
  ordered = all_in_order deck none.figures.ordered (length-map deck.statuses (status_of deck));
  once = none.figures.once;
  pieces = flawless deck none.pieces;
  terms = λ card there. elim (cases_lt card.penalty card.bonus) [ inl above ↦ absurd (none.terms _ (bonus_above card there above refl)) | inr fine ↦ fine ];
}

-- ---- each part is sound, so no fault is found

module _ (deck : Deck) (sound : AreSoundCards deck) where
  no_act_flaw : (card : ActCard) → IsSoundAct card → (fault : Fault) → HasActFlaw card fault → ⊥
  no_act_flaw card fit fault (same_events same is) = fit.apart same
  no_act_flaw card fit fault (durations (unordered not is)) = not fit.ordered
  no_act_flaw card fit fault (durations (crash_above above is)) = omega (arith, above, fit.durations)

  -- a card whose names are there has no fault unless it is wrong by itself
  no_flaw : (kind : Kind) (i : ℕ) (card : CardOf kind) → i < length (list_of deck kind) → get_or (list_of deck kind) i card ≡ card →
      (fault : Fault) → (entry_of kind).flaws Plan card fault → ⊥
  no_flaw Project zero card within at fault h = sound.apart (ap (λ (c : ProjectCard). c.start) at ∙ (h.0 ∙ sym (ap (λ (c : ProjectCard). c.end) at)))
  no_flaw Project (suc i) card within at fault h = omega (arith, within)
  no_flaw Act i card within at fault h = no_act_flaw card (at_each IsSoundAct deck.acts sound.acts i card within at) fault h
  no_flaw other i card within at fault h = absurd (let h' = h in h')

  abbrev AreNamed : Kind → Type 0
  AreNamed kind = All (λ card. AreKnownNames deck (names_of Plan kind card)) (list_of deck kind)

  pub no_misfit : HasNoMisfit Plan deck
  no_misfit fault (k, kind, within, at, (i, card, inside, at_card, inl unknown)) =
      let there = at_each AreNamed (kinds_of Plan) sound.named k kind within at in
      none_unknown deck ((entry_of kind).row card) (names_of Plan kind card)
      (at_each (λ card. AreKnownNames deck (names_of Plan kind card)) (list_of deck kind) there i card inside at_card) fault unknown
  no_misfit fault (k, kind, within, at, (i, card, inside, at_card, inr flaw)) = no_flaw kind i card inside at_card fault flaw

module _ (deck : Deck) (makes : MakesProject deck) where
  no_leaf_fault : (fault : Fault) → HasLeafFault deck fault → ⊥
  no_leaf_fault fault (of_act (k, card, within, at, (branch, is))) =
      branch (at_each (λ (c : ActCard). IsLeaf (rows_of deck) (number_among (item_codes deck) c.item)) deck.acts makes.leaves k card within at)
  no_leaf_fault fault (of_account (k, card, within, at, (branch, is))) =
      branch (at_each (λ (c : AcctCard). IsLeaf (rows_of deck) (number_among (item_codes deck) c.item)) deck.accounts makes.accounts k card within at)

  no_disorder : (fault : Fault) → HasDisorder deck fault → ⊥
  no_disorder fault (of_as_of (card, (there, early, is))) =
      let late : deck.project.start_day ≤ℤ card.day = subst (λ (o : Option AsOfCard). deck.project.start_day ≤ℤ as_of_day deck.project.start_day o) there makes.as_of in
      omega (arith, ints, early, late)
  no_disorder fault (of_status (k, within, (reason, (first, is)))) =
      makes.ordered k (omega (arith, within, length-map deck.statuses (status_of deck))) reason first.holds

  fine : (i : ℕ) → i < length deck.pieces → IsFlawless (terms_in deck) (pieces_in deck) i
  fine i within = makes.pieces i (omega (arith, within, length-map deck.pieces (piece_of deck)))

  no_piece_fault : (fault : Fault) → HasPieceFault deck fault → ⊥
  no_piece_fault fault (i, within, one_too_many many is) = omega (arith, many, (fine i within).few)
  no_piece_fault fault (i, within, not_rising low is) = omega (arith, low, (fine i within).rising)
  no_piece_fault fault (i, within, none_left long is) = omega (arith, long, (fine i within).leaving)

  no_terms_fault : (fault : Fault) → HasTermsFault deck fault → ⊥
  no_terms_fault fault (bonus_above card there above is) = omega (arith, above, makes.terms card there)

  -- in a deck that makes a project no phase finds a fault
  pub no_faults : HasNoFault deck
  no_faults = record {
    cards = no_misfit deck makes.cards;
    tree = makes.tree;
    sound = makes.sound;
    figures = record { leaves = no_leaf_fault; even = makes.even; ordered = no_disorder; once = makes.once };
    pieces = no_piece_fault;
    terms = no_terms_fault;
  }
