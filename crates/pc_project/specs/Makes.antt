-- When the cards of a deck make a project, whatever a fault is called. The law `projects_have_no_fault` says that this is so exactly
-- if the deck has none of the faults F13 to F31, F33 to F36 and F41.
use Rattle.std.specs.Prelude.{◌≡◌, ◌≢◌, ℕ, ◌+◌, ◌<◌, ◌≤◌, ◌≤ℤ◌, List, length, All, Some}
use Rattle.pc_model.specs.declared.PieceRow.{PieceRow}
use Rattle.pc_model.specs.declared.Term.{Term}
use Rattle.pc_model.specs.declared.limits.TheConstants.{MAX_PIECES_EACH}
use Rattle.pc_model.specs.Network.{IsSound}
use Rattle.pc_model.specs.Pieces.{slope_in, units_of}
use Rattle.pc_model.specs.Schedule.{term_at}
use Rattle.pc_crash.specs.Priced.{piece_at}
use Rattle.pc_wbs.specs.Climb.{IsLeaf, IsTree}
use Rattle.pc_accounts.specs.status.Statuses.{AreInOrder}
use Rattle.pc_cards.specs.declared.sort.Sort.TheVariants.{Plan}
use Rattle.pc_deck.specs.Deck.{Deck, item_codes, list_of, number_among}
use Rattle.pc_deck.specs.Durations.{HasOrderedEstimates}
use Rattle.pc_deck.specs.Kinds.{entry_of, kinds_of}
use Rattle.pc_deck.specs.Misfit.{AreKnownNames}
use Rattle.pc_deck.specs.declared.kinds.act.ActCard.{ActCard}
use Rattle.pc_deck.specs.declared.kinds.terms.TermsCard.{TermsCard}
use Rattle.pc_project.specs.DisorderFaults.{as_of_in}
use Rattle.pc_project.specs.PieceFaults.{pieces_before}
use Rattle.pc_project.specs.Project.{network_of, pieces_in, rows_of, statuses_in, terms_in}
use Rattle.pc_project.specs.Refusal.{HasNoSecondToGo, IsEven}

-- the activity leads from one event to another one, and its numbers are in order
pub record IsSoundAct (card : ActCard) : Type 0 where
  pub apart : card.from ≢ card.to
  pub ordered : HasOrderedEstimates card.opt card.likely card.pess
  pub durations : card.crash ≤ card.normal

-- what each card names is there, the start and the end are two events, and the numbers of activities are in order
pub record AreSoundCards (deck : Deck) : Type 0 where
  pub named : All (λ kind. All (λ card. AreKnownNames deck ((entry_of kind).names Plan card)) (list_of deck kind)) (kinds_of Plan)
  pub apart : deck.project.start ≢ deck.project.end
  pub acts : All IsSoundAct deck.acts

-- the i-th piece is not one too many of its activity, its slope is above the one before, and the pieces up to it leave units to
-- the activity's first slope
pub record IsFlawless (terms : List Term) (pieces : List PieceRow) (i : ℕ) : Type 0 where
  pub few : length (pieces_before pieces i) < MAX_PIECES_EACH
  pub rising : slope_in (term_at terms (piece_at pieces i).activity) (pieces_before pieces i) (length (pieces_before pieces i))
      < (piece_at pieces i).slope
  pub leaving : (term_at terms (piece_at pieces i).activity).crash + (units_of (pieces_before pieces i) + (piece_at pieces i).units)
      < (term_at terms (piece_at pieces i).activity).normal

-- the cards make a project: each is sound, the items are a tree, the network is sound, activities and accounts are on leaves,
-- packages are even, statuses and as-of are in order, no amount to go is a second one, the pieces of each activity rise and leave
-- units to its first slope, and the bonus is not above the penalty
pub record MakesProject (deck : Deck) : Type 0 where
  pub cards : AreSoundCards deck
  pub tree : IsTree (rows_of deck)
  pub sound : IsSound (network_of deck)
  pub leaves : All (λ act. IsLeaf (rows_of deck) (number_among (item_codes deck) act.item)) deck.acts
  pub accounts : All (λ account. IsLeaf (rows_of deck) (number_among (item_codes deck) account.item)) deck.accounts
  pub even : IsEven deck
  pub as_of : deck.project.start_day ≤ℤ as_of_in deck
  pub ordered : AreInOrder deck.project.start_day (as_of_in deck) (statuses_in deck)
  pub once : HasNoSecondToGo deck
  pub pieces : (i : ℕ) → i < length (pieces_in deck) → IsFlawless (terms_in deck) (pieces_in deck) i
  pub terms : (card : TermsCard) → deck.terms ≡ Some card → card.bonus ≤ card.penalty
