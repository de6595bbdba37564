-- Why a deck whose cards were read is refused: the first fault, phase by phase. A phase counts only if no phase before
-- it has a fault: first the cards one by one (F13 to F19, F41), then the tree of the items (F20 to F23, tried in that
-- order), then the network of the activities (F24 to F27, tried in that order), then the items that activities and
-- accounts are on (F28), then the budgets of packages (F29), then statuses and as-of (F30), then second amounts to go
-- (F31), then the pieces of the activities' costs (F33 to F35), and last the terms of time (F36).
use Rattle.std.specs.Prelude.{◌≡◌, ℕ, List, slice_index}
use Rattle.pc_model.specs.Codes.{text_at}
use Rattle.pc_accounts.specs.Packages.{IsUneven}
use Rattle.pc_accounts.specs.Second.{IsRepeated}
use Rattle.pc_model.specs.Network.{IsSound}
use Rattle.pc_wbs.specs.Climb.{IsTree}
use Rattle.pc_wbs.specs.Refusal.{IsTreeError as IsTreeRefusal}
use Rattle.pc_wbs.specs.declared.tree.ItemRow.{ItemRow}
use Rattle.pc_wbs.specs.declared.error.TreeError.{TreeError}
use Rattle.pc_wbs.specs.declared.error.TreeError.TheVariants as tree
use Rattle.pc_net.specs.Refusals.{IsNetError as IsNetRefusal}
use Rattle.pc_net.specs.declared.refusal.NetError.{NetError}
use Rattle.pc_net.specs.declared.refusal.NetError.TheVariants as net
use Rattle.pc_cards.specs.declared.sort.Sort.TheVariants.{Plan}
use Rattle.pc_deck.specs.Deck.{Deck, act_codes, event_codes}
use Rattle.pc_deck.specs.declared.kinds.wbs.ItemCard.{ItemCard}
use Rattle.pc_deck.specs.Misfit.{HasMisfit, HasNoMisfit}
use Rattle.pc_faults.specs.First.{IsFirstFault}
use Rattle.pc_faults.specs.Faults.{no_top, second_top, item_loop, too_deep, enters_start, leaves_end, dangling, cycle}
use Rattle.pc_faults.specs.declared.fault.Fault.{Fault as ADeckFault}
use Rattle.pc_faults.specs.declared.fault.DeckError.{DeckError}
use Rattle.pc_faults.specs.declared.fault.DeckError.TheVariants.{Fault, OutOfMemory}
use Rattle.pc_project.specs.DisorderFaults.{HasDisorder, HasNoDisorder}
use Rattle.pc_project.specs.PackageFaults.{HasLeafFault, HasNoLeafFault, IsFirstUnevenFault}
use Rattle.pc_project.specs.PieceFaults.{HasPieceFault, HasNoPieceFault}
use Rattle.pc_project.specs.Project.{accounts_in, network_of, rows_of, togos_in, work_in}
use Rattle.pc_project.specs.Records.{act_records, codes_among, codes_at, event_records, records_among}
use Rattle.pc_project.specs.TermsFaults.{HasTermsFault}
use Rattle.pc_project.specs.ToGoFaults.{IsFirstSecondToGo}

-- the fault that reports a refusal of the tree of these items; its record is the card of the item that it names first
abbrev pub tree_fault : List ItemCard → TreeError → DeckError
tree_fault items tree.NoTop = Fault no_top
tree_fault items (tree.SecondTop item) = Fault (second_top (slice_index (records_among items) item) (text_at (codes_among items) item))
tree_fault items (tree.Loop loop) = Fault (item_loop (slice_index (records_among items) (slice_index loop 0)) (codes_at (codes_among items) loop))
tree_fault items (tree.TooDeep item level) = Fault (too_deep (slice_index (records_among items) item) (text_at (codes_among items) item) level)
tree_fault items tree.OutOfMemory = OutOfMemory

-- these items, with these parents, are no tree, and the fault says so
pub record IsTreeFault (items : List ItemCard) (rows : List ItemRow) (fault : ADeckFault) : Type 0 where
  pub error : TreeError
  pub refused : IsTreeRefusal rows error
  pub told : tree_fault items error ≡ Fault fault

-- the fault that reports a refusal of the network; its record is the card of the activity or event that it names first
abbrev pub net_fault : Deck → NetError → DeckError
net_fault deck (net.StartEntered arc) = Fault (enters_start (slice_index (act_records deck) arc) (text_at (act_codes deck) arc))
net_fault deck (net.EndLeft arc) = Fault (leaves_end (slice_index (act_records deck) arc) (text_at (act_codes deck) arc))
net_fault deck (net.Dangling event entered) = Fault (dangling (slice_index (event_records deck) event) (text_at (event_codes deck) event) entered)
net_fault deck (net.Cycle round) = Fault (cycle (slice_index (act_records deck) (slice_index round 0)) (codes_at (act_codes deck) round))
net_fault deck net.OutOfMemory = OutOfMemory

-- the items are a tree and the network is sound, and no card by itself is wrong
pub record HasSoundPlan (deck : Deck) : Type 0 where
  pub cards : HasNoMisfit Plan deck
  pub tree : IsTree (rows_of deck)
  pub sound : IsSound (network_of deck)

-- if an item has activities, the budgets of its accounts add up to what these cost
abbrev pub IsEven : Deck → Type 0
IsEven deck = (item : ℕ) → IsUneven (accounts_in deck) (work_in deck) item → ⊥

-- no account has two amounts to go for one day
abbrev pub HasNoSecondToGo : Deck → Type 0
HasNoSecondToGo deck = (k : ℕ) → IsRepeated (togos_in deck) k → ⊥

-- in addition to a sound plan, activities and accounts are on leaves, packages are even, statuses and as-of are in order, and
-- no amount to go is a second one
pub record HasSoundFigures (deck : Deck) : Type 0 where
  pub leaves : HasNoLeafFault deck
  pub even : IsEven deck
  pub ordered : HasNoDisorder deck
  pub once : HasNoSecondToGo deck

-- no phase finds a fault: no card has one, the items are a tree, the network is sound, activities and accounts are on leaves, packages
-- are even, statuses and as-of are in order, no amount to go is a second one, no piece has a fault, and the terms of time have none
pub record HasNoFault (deck : Deck) : Type 0 where
  pub cards : HasNoMisfit Plan deck
  pub tree : IsTree (rows_of deck)
  pub sound : IsSound (network_of deck)
  pub figures : HasSoundFigures deck
  pub pieces : HasNoPieceFault deck
  pub terms : (fault : ADeckFault) → HasTermsFault deck fault → ⊥

-- the fault with which a deck is refused if its cards make no project; a phase counts only if no phase before it has a fault
pub data IsRefusedWith (deck : Deck) (fault : ADeckFault) : Type 0 where
  -- F13 to F19, F41: a card names what is not there, or its numbers are out of order
  of_cards : IsFirstFault (HasMisfit Plan deck) fault → IsRefusedWith deck fault
  -- F20 to F23: the items are no tree
  of_tree : HasNoMisfit Plan deck → IsTreeFault deck.items (rows_of deck) fault → IsRefusedWith deck fault
  -- F24 to F27: the network is not sound
  of_network : HasNoMisfit Plan deck → IsTree (rows_of deck) → (e : NetError) → IsNetRefusal (network_of deck) e → net_fault deck e ≡ Fault fault → IsRefusedWith deck fault
  -- F28: an activity or an account is on an item that has items below it
  of_leaves : HasSoundPlan deck → IsFirstFault (HasLeafFault deck) fault → IsRefusedWith deck fault
  -- F29: a package has budgets that are not the costs of its activities
  of_packages : HasSoundPlan deck → HasNoLeafFault deck → IsFirstUnevenFault deck fault → IsRefusedWith deck fault
  -- F30: a STATUS card or the ASOF card is in disorder
  of_statuses : HasSoundPlan deck → HasNoLeafFault deck → IsEven deck → IsFirstFault (HasDisorder deck) fault → IsRefusedWith deck fault
  -- F31: a TOGO card has the account and the day of an earlier one
  of_togos : HasSoundPlan deck → HasNoLeafFault deck → IsEven deck → HasNoDisorder deck → IsFirstSecondToGo deck fault → IsRefusedWith deck fault
  -- F33 to F35: a piece is one too many, does not rise, or leaves nothing to the first slope
  of_pieces : HasSoundPlan deck → HasSoundFigures deck → IsFirstFault (HasPieceFault deck) fault → IsRefusedWith deck fault
  -- F36: the bonus is above the penalty
  of_terms : HasSoundPlan deck → HasSoundFigures deck → HasNoPieceFault deck → IsFirstFault (HasTermsFault deck) fault → IsRefusedWith deck fault
