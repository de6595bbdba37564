-- What holds of every project.
use Rattle.std.specs.Prelude.{◌≡◌, ℕ, ◌<◌, ◌≤◌, ◌≤ℤ◌, All, length, slice_index}
use Rattle.std.specs.Option.{ForSome}
use Rattle.pc_model.specs.Codes.{IsNamedOnce}
use Rattle.pc_model.specs.Network.{IsInRange, IsSound}
use Rattle.pc_model.specs.Schedule.{AreTerms}
use Rattle.pc_model.specs.TimeCost.{AreTimeTerms}
use Rattle.pc_model.specs.Pieces.{ArePieces}
use Rattle.pc_crash.specs.Priced.{ArePiecesWithinLimits}
use Rattle.pc_crash.specs.Terms.{AreWithinLimits}
use Rattle.pc_wbs.specs.Climb.{IsLeaf, IsTree}
use Rattle.pc_accounts.specs.Amounts.{AreEntriesOf}
use Rattle.pc_accounts.specs.Entries.{AreEntriesWithinLimits}
use Rattle.pc_accounts.specs.Packages.{IsUneven}
use Rattle.pc_accounts.specs.status.Statuses.{AreInOrder, AreKnown}
use Rattle.pc_times.specs.Forecast.{AreStates}
use Rattle.pc_times.specs.Times.{AreLengths}
use Rattle.pc_model.specs.declared.limits.TheConstants.{MAX_COST, MAX_DIRECTED, MAX_EVENTS, MAX_ITEMS, MAX_LOADS, MAX_RESOURCES, MAX_STATUSES, MAX_UNIT_DAYS, MAX_VARIANCE}
use Rattle.pc_deck.specs.Within.{IsWithinLimits}
use Rattle.pc_project.specs.Figures.{AreAccounts, AreFigures, AreStatesOf, IsProjectOfDeck, work_rows}
use Rattle.pc_project.specs.Makes.{MakesProject}
use Rattle.pc_project.specs.Project.{Project}
use Rattle.pc_project.specs.declared.placed.LoadItem.{LoadItem}

-- the load is one of an activity on a resource, and its quantity within the limit of money
pub record IsLoad (project : Project) (load : LoadItem) : Type 0 where
  pub activity : load.activity < length project.network.arcs
  pub resource : load.resource < length project.resources
  pub quantity : load.quantity ≤ MAX_COST

-- activities and accounts are on leaves, and if an item has activities, the budgets of its accounts add up to what these
-- cost; the entries are what charges and amounts to go make of the accounts; the statuses are in order, and the states are
-- what they say
pub record HasFigures (project : Project) : Type 0 where
  pub on_leaves : (a : ℕ) → a < length project.network.arcs → IsLeaf project.tree (slice_index project.places a)
  pub accounts : AreAccounts project.tree project.accounts
  pub even : (item : ℕ) → IsUneven project.accounts (work_rows project.places project.terms) item → ⊥
  pub figures : AreFigures (length project.accounts) project.charges project.togos
  pub entries : AreEntriesOf project.accounts project.charges project.togos project.heading.as_of project.entries
  pub small_entries : AreEntriesWithinLimits project.entries
  pub as_of : project.heading.start_day ≤ℤ project.heading.as_of
  pub few_statuses : length project.statuses ≤ MAX_STATUSES
  pub statuses_known : AreKnown (length project.network.arcs) project.statuses
  pub in_order : AreInOrder project.heading.start_day project.heading.as_of project.statuses
  pub states : AreStatesOf project.heading.start_day project.statuses (length project.network.arcs) project.states
  pub small_states : AreStates project.network project.states

-- the project is that of the deck which it keeps, whose cards are within the limits and make a project
pub record IsOfItsDeck (project : Project) : Type 0 where
  pub within : IsWithinLimits project.deck
  pub makes : MakesProject project.deck
  pub is : IsProjectOfDeck project.deck project

-- it is the project of its deck; the network is sound and the items are a tree; each activity has its term and the pieces of its cost within the limits,
-- its expected time, its variance and its item; each event, activity and item has its code, no event and no activity that
-- of another; loads and terms of time are within their limits; and it has its figures
pub record IsPlanned (project : Project) : Type 0 where
  pub own : IsOfItsDeck project
  pub in_range : IsInRange project.network
  pub sound : IsSound project.network
  pub tree : IsTree project.tree
  pub terms : AreTerms project.network project.terms
  pub limits : AreWithinLimits project.terms
  pub lengths : AreLengths project.network project.expected
  pub variance_each : length project.variances ≡ length project.network.arcs
  pub small_variances : (a : ℕ) → a < length project.network.arcs → slice_index project.variances a ≤ MAX_VARIANCE
  pub place_each : length project.places ≡ length project.network.arcs
  pub placed : (a : ℕ) → a < length project.network.arcs → slice_index project.places a < length project.tree
  pub few_events : project.network.events ≤ MAX_EVENTS
  pub few_items : length project.tree ≤ MAX_ITEMS
  pub event_codes : length project.events ≡ project.network.events
  pub activity_codes : length project.activities ≡ length project.network.arcs
  pub item_codes : length project.items ≡ length project.tree
  pub item_titles : length project.titles ≡ length project.tree
  pub unit_days : project.heading.unit_days ≤ MAX_UNIT_DAYS
  pub directed : ForSome project.heading.directed (λ days. days ≤ MAX_DIRECTED)
  pub events_differ : IsNamedOnce project.events
  pub activities_differ : IsNamedOnce project.activities
  pub pieces : ArePieces project.terms project.pieces
  pub piece_limits : ArePiecesWithinLimits project.pieces
  pub few_resources : length project.resources ≤ MAX_RESOURCES
  pub few_loads : length project.loads ≤ MAX_LOADS
  pub loads : All (IsLoad project) project.loads
  pub time_terms : AreTimeTerms project.time_terms
  pub figures : HasFigures project
