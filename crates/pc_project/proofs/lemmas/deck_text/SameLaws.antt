-- Decks that say the same have the same codes and the same lists, so they make the same project.
use Rattle.std.proofs.Common.{◌≡◌, ℕ, List, length, map, sym, ap, ◌∙◌}
use Rattle.std.specs.Prelude.{option_and_then, Some}
use Rattle.std.proofs.lemmas.List.{length-map}
use Rattle.std.proofs.lemmas.Simd.{map-map}
use Rattle.pc_accounts.specs.declared.book.Entry.{Entry}
use Rattle.pc_times.specs.Estimates.{expected_time, variance_of}
use Rattle.pc_times.specs.declared.forecasts.ActState.{ActState}
use Rattle.pc_deck.specs.declared.kinds.act.ActCard.{ActCard}
use Rattle.pc_deck.specs.Deck.{Deck, account_codes, act_codes, event_codes, item_codes, named_among, number_among, resource_codes}
use Rattle.pc_project.specs.Project.{account_of, accounts_in, arc_of, charges_in, counts_of, expected_of, heading_of, load_of, money_of, network_of, piece_of, pieces_in}
use Rattle.pc_project.specs.Project.{item_of_act, project_in, row_of, rows_of, status_of, statuses_in, term_of, terms_in, togos_in, variance_in, work_in, work_of}
use Rattle.pc_project.specs.deck_text.Same.{SayTheSame, account_said, act_said, item_said, load_said, money_said, piece_said, status_said, titled_said}

-- if a value read of each element does not change when a function is applied, two lists that the function makes equal have the same values
pub of_said : {X Y : Type 0} (said : X → X) (read : X → Y) (xs ys : List X) → map said xs ≡ map said ys → map (λ x. read (said x)) xs ≡ map (λ x. read (said x)) ys
of_said said read xs ys same = sym (map-map read said xs) ∙ ap (map read) same ∙ map-map read said ys

-- two such lists are of one length
pub length_said : {X : Type 0} (said : X → X) (xs ys : List X) → map said xs ≡ map said ys → length xs ≡ length ys
length_said said xs ys same = sym (length-map xs said) ∙ ap length same ∙ length-map ys said

-- expected times and variances, by the days of a unit
abbrev expected_with : ℕ → ActCard → ℕ
expected_with unit_days act = expected_time act.opt act.likely act.pess unit_days

abbrev variance_with : ℕ → ActCard → ℕ
variance_with unit_days act = variance_of act.opt act.pess unit_days

module _ (a b : Deck) (same : SayTheSame a b) where
  pub same_item_codes : item_codes a ≡ item_codes b
  same_item_codes = of_said item_said (λ item. item.code) a.items b.items same.items

  pub same_event_codes : event_codes a ≡ event_codes b
  same_event_codes = of_said titled_said (λ event. event.code) a.events b.events same.events

  pub same_act_codes : act_codes a ≡ act_codes b
  same_act_codes = of_said act_said (λ act. act.code) a.acts b.acts same.acts

  pub same_account_codes : account_codes a ≡ account_codes b
  same_account_codes = of_said account_said (λ account. account.code) a.accounts b.accounts same.accounts

  pub same_resource_codes : resource_codes a ≡ resource_codes b
  same_resource_codes = of_said titled_said (λ resource. resource.code) a.resources b.resources same.resources

  pub same_items : named_among (item_codes a) ≡ named_among (item_codes b)
  same_items = ap named_among same_item_codes

  pub same_events : named_among (event_codes a) ≡ named_among (event_codes b)
  same_events = ap named_among same_event_codes

  pub same_acts : named_among (act_codes a) ≡ named_among (act_codes b)
  same_acts = ap named_among same_act_codes

  pub same_accounts : named_among (account_codes a) ≡ named_among (account_codes b)
  same_accounts = ap named_among same_account_codes

  pub same_resources : named_among (resource_codes a) ≡ named_among (resource_codes b)
  same_resources = ap named_among same_resource_codes

  item_numbers : number_among (item_codes a) ≡ number_among (item_codes b)
  item_numbers = ap number_among same_item_codes

  event_numbers : number_among (event_codes a) ≡ number_among (event_codes b)
  event_numbers = ap number_among same_event_codes

  act_numbers : number_among (act_codes a) ≡ number_among (act_codes b)
  act_numbers = ap number_among same_act_codes

  account_numbers : number_among (account_codes a) ≡ number_among (account_codes b)
  account_numbers = ap number_among same_account_codes

  resource_numbers : number_among (resource_codes a) ≡ number_among (resource_codes b)
  resource_numbers = ap number_among same_resource_codes

  pub same_item_number : number_among (item_codes a) ≡ number_among (item_codes b)
  same_item_number = item_numbers

  -- the network
  arcs : map (arc_of a) a.acts ≡ map (arc_of b) b.acts
  arcs = (λ i. map (λ act. record { from = event_numbers i act.from; to = event_numbers i act.to }) a.acts) ∙ of_said act_said (arc_of b) a.acts b.acts same.acts

  start_of : a.project.start ≡ b.project.start
  start_of = ap (λ card. card.start) same.project

  end_of : a.project.end ≡ b.project.end
  end_of = ap (λ card. card.end) same.project

  pub same_start_day : a.project.start_day ≡ b.project.start_day
  same_start_day = ap (λ card. card.start_day) same.project

  unit : a.project.unit_days ≡ b.project.unit_days
  unit = ap (λ card. card.unit_days) same.project

  pub same_network : network_of a ≡ network_of b
  same_network = λ i. record {
    events = length_said titled_said a.events b.events same.events i;
    start = event_numbers i (start_of i);
    end = event_numbers i (end_of i);
    arcs = arcs i;
  }

  -- the tree
  pub same_rows : rows_of a ≡ rows_of b
  same_rows =
      (λ i. map (λ item. record { parent = option_and_then (λ code. Some (item_numbers i code)) item.parent }) a.items)
      ∙ of_said item_said (row_of b) a.items b.items same.items

  -- the activities
  places : map (item_of_act a) a.acts ≡ map (item_of_act b) b.acts
  places = (λ i. map (λ act. item_numbers i act.item) a.acts) ∙ of_said act_said (item_of_act b) a.acts b.acts same.acts

  pub same_terms : terms_in a ≡ terms_in b
  same_terms = of_said act_said term_of a.acts b.acts same.acts

  expected : map (expected_of a) a.acts ≡ map (expected_of b) b.acts
  expected =
      ap (λ unit_days. map (λ act. expected_with unit_days act) a.acts) unit
      ∙ of_said act_said (expected_of b) a.acts b.acts same.acts

  variances : map (variance_in a) a.acts ≡ map (variance_in b) b.acts
  variances =
      ap (λ unit_days. map (λ act. variance_with unit_days act) a.acts) unit
      ∙ of_said act_said (variance_in b) a.acts b.acts same.acts

  pub same_pieces : pieces_in a ≡ pieces_in b
  same_pieces =
      (λ i. map (λ piece. record { activity = act_numbers i piece.activity; units = piece.units; slope = piece.slope }) a.pieces)
      ∙ of_said piece_said (piece_of b) a.pieces b.pieces same.pieces

  loads : map (load_of a) a.loads ≡ map (load_of b) b.loads
  loads =
      (λ i. map (λ load. record { activity = act_numbers i load.activity; resource = resource_numbers i load.resource; quantity = load.quantity }) a.loads)
      ∙ of_said load_said (load_of b) a.loads b.loads same.loads

  -- the figures
  pub same_accounts_in : accounts_in a ≡ accounts_in b
  same_accounts_in =
      (λ i. map (λ card. record { item = item_numbers i card.item; budget = card.budget }) a.accounts)
      ∙ of_said account_said (account_of b) a.accounts b.accounts same.accounts

  pub same_charges : charges_in a ≡ charges_in b
  same_charges =
      (λ i. map (λ card. record { account = account_numbers i card.account; day = card.day; amount = card.amount }) a.charges)
      ∙ of_said money_said (money_of b) a.charges b.charges same.charges

  pub same_togos : togos_in a ≡ togos_in b
  same_togos =
      (λ i. map (λ card. record { account = account_numbers i card.account; day = card.day; amount = card.amount }) a.togos)
      ∙ of_said money_said (money_of b) a.togos b.togos same.togos

  pub same_work : work_in a ≡ work_in b
  same_work =
      (λ i. map (λ act. record { item = item_numbers i act.item; cost = act.cost }) a.acts)
      ∙ of_said act_said (work_of b) a.acts b.acts same.acts

  pub same_statuses : statuses_in a ≡ statuses_in b
  same_statuses =
      (λ i. map (λ card. record { activity = act_numbers i card.activity; finished = card.finished; day = card.day }) a.statuses)
      ∙ of_said status_said (status_of b) a.statuses b.statuses same.statuses

  heading : heading_of a ≡ heading_of b
  heading = λ i. record {
    code = ap (λ card. card.code) same.project i;
    start_day = same_start_day i;
    as_of = same.as_of i;
    unit_days = unit i;
    directed = ap (λ card. card.directed) same.project i;
  }

  counts : counts_of a ≡ counts_of b
  counts = λ i. record {
    events = length_said titled_said a.events b.events same.events i;
    activities = length_said act_said a.acts b.acts same.acts i;
    items = length_said item_said a.items b.items same.items i;
    accounts = length_said account_said a.accounts b.accounts same.accounts i;
    charges = length_said money_said a.charges b.charges same.charges i;
    togos = length_said money_said a.togos b.togos same.togos i;
    statuses = length_said status_said a.statuses b.statuses same.statuses i;
  }

  -- with the same entries and states they make the same project, but for the deck that it keeps
  pub same_project : (entries : List Entry) (states : List ActState) → record (project_in a entries states) { deck = b } ≡ project_in b entries states
  same_project entries states = λ i. record {
    deck = b;
    heading = heading i;
    network = same_network i;
    tree = same_rows i;
    events = same_event_codes i;
    activities = same_act_codes i;
    places = places i;
    terms = same_terms i;
    expected = expected i;
    variances = variances i;
    items = same_item_codes i;
    titles = of_said item_said (λ item. item.title) a.items b.items same.items i;
    pieces = same_pieces i;
    resources = same_resource_codes i;
    loads = loads i;
    accounts = same_accounts_in i;
    charges = same_charges i;
    togos = same_togos i;
    entries = entries;
    statuses = same_statuses i;
    states = states;
    time_terms = same.terms i;
    counts = counts i;
  }
