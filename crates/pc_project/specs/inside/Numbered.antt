-- What the cards of a deck name, by numbers, where no card has a fault.
use Rattle.std.specs.Prelude.{◌≡◌, ◌≤◌, drop, length, map}
use Rattle.pc_model.specs.declared.limits.TheConstants.{MAX_ITEMS}
use Rattle.pc_cards.specs.declared.sort.Sort.TheVariants.{Plan}
use Rattle.pc_deck.specs.Deck.{Deck}
use Rattle.pc_deck.specs.Within.{IsWithinLimits}
use Rattle.pc_deck.specs.Misfit.{HasNoMisfit}
use Rattle.pc_deck.specs.inside.Misfit.{HasFaultAmong}
use Rattle.pc_deck.specs.Kinds.{kinds_of}
use Rattle.pc_faults.specs.declared.fault.Fault.{Fault}
use Rattle.pc_project.specs.declared.numbers.Numbers.{Numbers}
use Rattle.pc_project.specs.declared.project.Frame.{Frame}
use Rattle.pc_project.specs.Project.{accounts_in, charges_in, expected_of, load_of, network_of, pieces_in, item_of_act, rows_of, statuses_in}
use Rattle.pc_project.specs.Project.{term_of, togos_in, variance_in}
use Rattle.pc_project.specs.inside.Project.{placement_of}

-- the faults of all cards but the PROJECT card
abbrev pub HasListedFault : Deck → Fault → Type 0
HasListedFault deck = HasFaultAmong Plan deck (drop 1 (kinds_of Plan))

-- the lists of numbers are what the cards of each list name
pub record AreListsOf (deck : Deck) (numbers : Numbers) : Type 0 where
  pub rows : numbers.rows.items ≡ rows_of deck
  pub placements : numbers.placements.items ≡ map (placement_of deck) deck.acts
  pub pieces : numbers.pieces.items ≡ pieces_in deck
  pub loads : numbers.loads.items ≡ map (load_of deck) deck.loads
  pub accounts : numbers.accounts.items ≡ accounts_in deck
  pub charges : numbers.charges.items ≡ charges_in deck
  pub togos : numbers.togos.items ≡ togos_in deck
  pub statuses : numbers.statuses.items ≡ statuses_in deck

-- the numbers are those of the deck, of which no card has a fault
pub record AreNumbersOf (deck : Deck) (numbers : Numbers) : Type 0 where
  pub within : IsWithinLimits deck
  pub faultless : HasNoMisfit Plan deck
  pub start : numbers.start ≡ (network_of deck).start
  pub end : numbers.end ≡ (network_of deck).end
  pub lists : AreListsOf deck numbers
  pub few : length numbers.rows.items ≤ MAX_ITEMS

-- the lists of a project's activities are those of the deck, in card order
pub record AreProjectLists (deck : Deck) (frame : Frame) : Type 0 where
  pub places : frame.places.items ≡ map (item_of_act deck) deck.acts
  pub terms : frame.terms.items ≡ map term_of deck.acts
  pub expected : frame.expected.items ≡ map (expected_of deck) deck.acts
  pub variances : frame.variances.items ≡ map (variance_in deck) deck.acts
