-- The project of a deck whose cards make one is planned.
use Rattle.std.proofs.Common.{◌≡◌, ◌<◌, ◌≤◌, ◌+◌, ◌*◌, ℕ, List, [], Option, Some, None, length, get_or, map, refl, sym, ap, ◌∙◌, inl, inr, arith}
use Rattle.std.specs.Prelude.{All, slice_index}
use Rattle.std.specs.Option.{ForSome}
use Rattle.std.proofs.Math.Nat.{mul-le-mul}
use Rattle.std.proofs.lemmas.Bool.{cases_lt}
use Rattle.std.proofs.lemmas.List.{get_or-map, length-map}
use Rattle.std.proofs.lemmas.List.Elements.{All-from_get_or}
use Rattle.pc_faults.specs.declared.kind.Kind.TheVariants.{Act, Event, Load, Piece, Res, Wbs}
use Rattle.pc_model.specs.declared.PieceRow.{PieceRow}
use Rattle.pc_model.specs.declared.limits.TheConstants.{MAX_DURATION, MAX_SLOPE, MAX_UNIT_DAYS, MAX_VARIANCE}
use Rattle.pc_model.specs.Pieces.{ArePieces}
use Rattle.pc_model.specs.Schedule.{AreTerms, term_at}
use Rattle.pc_crash.specs.Priced.{ArePiecesWithinLimits, piece_at}
use Rattle.pc_crash.specs.Terms.{AreWithinLimits}
use Rattle.pc_accounts.specs.declared.book.Entry.{Entry}
use Rattle.pc_times.proofs.EstimateLaws.{variance_small}
use Rattle.pc_times.specs.Times.{AreLengths}
use Rattle.pc_times.specs.declared.forecasts.ActState.{ActState}
use Rattle.pc_cards.specs.declared.sort.Sort.TheVariants.{Plan}
use Rattle.pc_deck.specs.declared.kinds.act.ActCard.{ActCard}
use Rattle.pc_deck.specs.declared.kinds.load.LoadCard.{LoadCard}
use Rattle.pc_deck.specs.declared.kinds.piece.PieceCard.{PieceCard}
use Rattle.pc_deck.specs.declared.kinds.terms.TermsCard.{TermsCard}
use Rattle.pc_deck.specs.Deck.{Deck}
use Rattle.pc_deck.proofs.NumberLemmas.{AreTermsWithin, acts-within, loads-within, pieces-within, project-within, terms-within}
use Rattle.pc_deck.specs.Within.{IsWithinLimits}
use Rattle.pc_deck.specs.Misfit.{HasNoMisfit}
use Rattle.pc_project.specs.Project.{accounts_in, arc_of, expected_of, item_of_act, load_of, network_of, piece_of, pieces_in, project_in}
use Rattle.pc_project.specs.Project.{row_of, rows_of, term_of, terms_in, time_terms_of, variance_in}
use Rattle.pc_project.specs.declared.project.Project.TheInside.{Inside}
use Rattle.pc_project.specs.inside.Numbered.{AreProjectLists}
use Rattle.pc_project.specs.inside.Parts.{project_from}
use Rattle.pc_project.specs.declared.placed.LoadItem.{LoadItem}
use Rattle.pc_project.specs.PieceFaults.{HasNoPieceFault}
use Rattle.pc_project.specs.TermsFaults.{HasTermsFault, bonus_above}
use Rattle.pc_faults.specs.declared.fault.Fault.{Fault}
use Rattle.pc_project.specs.Refusal.{HasNoFault}
use Rattle.pc_model.specs.TimeCost.{AreTimeTerms}
use Rattle.pc_project.specs.Planned.{HasFigures, IsLoad, IsPlanned}
use Rattle.pc_project.proofs.FitLaws.{all_fit, load_known, network_of-in_range, no_act, piece_activity-within, place_of-within}
use Rattle.pc_project.proofs.MakesLaws.{flawless, makes_project}
use Rattle.pc_project.proofs.PieceLaws.{ArePieces-flawless}

-- the card of activity a
abbrev card_at : Deck → ℕ → ActCard
card_at deck a = get_or deck.acts a no_act

-- the term of activity a is that of its card
term_there : (deck : Deck) (a : ℕ) → a < length deck.acts → term_at (map term_of deck.acts) a ≡ term_of (card_at deck a)
term_there deck a within = get_or-map term_of deck.acts a no_act (record { normal = 0; crash = 0; cost = 0; slope = 0 }) within

-- an expected time is no longer than the longest estimate in the longest unit
expected_small : (opt likely pess unit : ℕ) → opt ≤ likely → likely ≤ pess → pess ≤ MAX_DURATION → unit ≤ MAX_UNIT_DAYS → (opt + 4 * likely + pess) * unit ≤ 4200000
expected_small opt likely pess unit low high most few =
    let times : opt + 4 * likely + pess ≤ 600000 = omega arith in
    mul-le-mul times few

module _ (deck : Deck) (limits : IsWithinLimits deck) (none : HasNoMisfit Plan deck) where
  inside_of : {X : Type 0} (f : ActCard → X) (a : ℕ) → a < length (map f deck.acts) → a < length deck.acts
  inside_of f a below = omega (arith, below, length-map deck.acts f)

  inside_arcs : (a : ℕ) → a < length (network_of deck).arcs → a < length deck.acts
  inside_arcs a below = inside_of (arc_of deck) a below

  are_terms : AreTerms (network_of deck) (map term_of deck.acts)
  are_terms = record {
    one_each = length-map deck.acts term_of ∙ sym (length-map deck.acts (arc_of deck));
    ordered = λ a below.
        let inside = inside_of term_of a below in
        let is = term_there deck a inside in
        omega (arith, ap (λ t. t.crash) is, ap (λ t. t.normal) is, (all_fit deck none a no_act inside).durations);
  }

  within_limits : AreWithinLimits (map term_of deck.acts)
  within_limits = record {
    few = omega (arith, length-map deck.acts term_of, (limits Act).few);
    short = λ a below. let inside = inside_of term_of a below in omega (arith, ap (λ t. t.normal) (term_there deck a inside), (acts-within deck limits a no_act inside).normal);
    cheap = λ a below. let inside = inside_of term_of a below in omega (arith, ap (λ t. t.cost) (term_there deck a inside), (acts-within deck limits a no_act inside).cost);
    gentle = λ a below. let inside = inside_of term_of a below in omega (arith, ap (λ t. t.slope) (term_there deck a inside), (acts-within deck limits a no_act inside).slope);
  }

  are_lengths : AreLengths (network_of deck) (map (expected_of deck) deck.acts)
  are_lengths = record {
    one_each = length-map deck.acts (expected_of deck) ∙ sym (length-map deck.acts (arc_of deck));
    small = λ a below.
        let inside = inside_arcs a below in
        let fits = (all_fit deck none a no_act inside).ordered in
        let card = card_at deck a in
        let bound = expected_small card.opt card.likely card.pess deck.project.unit_days fits.optimistic fits.pessimistic
        (acts-within deck limits a no_act inside).pess (project-within deck limits).unit_within in
        omega (arith, bound, get_or-map (expected_of deck) deck.acts a no_act 0 inside);
  }

  small_variance : (a : ℕ) → a < length (network_of deck).arcs → slice_index (map (variance_in deck) deck.acts) a ≤ MAX_VARIANCE
  small_variance a below =
      let inside = inside_arcs a below in
      let card = card_at deck a in
      let bound = variance_small card.opt card.pess deck.project.unit_days (acts-within deck limits a no_act inside).pess (project-within deck limits).unit_within in
      omega (arith, bound, get_or-map (variance_in deck) deck.acts a no_act 0 inside)

  item_there : (a : ℕ) → a < length (network_of deck).arcs → slice_index (map (item_of_act deck) deck.acts) a < length (rows_of deck)
  item_there a below =
      let inside = inside_arcs a below in
      omega (arith, place_of-within deck none a inside, get_or-map (item_of_act deck) deck.acts a no_act 0 inside, length-map deck.items (row_of deck))

-- cards to read past the end of the cards, where no one looks
pub no_piece : PieceCard
no_piece = record { row = 0; activity = []; units = 0; slope = 0 }

no_load : LoadCard
no_load = record { row = 0; activity = []; resource = []; quantity = 0 }

-- the piece at a place is that of the card there
pub piece_there : (deck : Deck) (i : ℕ) → i < length deck.pieces → piece_at (pieces_in deck) i ≡ piece_of deck (get_or deck.pieces i no_piece)
piece_there deck i within = get_or-map (piece_of deck) deck.pieces i no_piece (record { activity = 0; units = 0; slope = 0 }) within

-- the pieces of a deck without faults
pub pieces_of_deck : (deck : Deck) → HasNoMisfit Plan deck → HasNoPieceFault deck → ArePieces (terms_in deck) (pieces_in deck)
pieces_of_deck deck cards none =
    ArePieces-flawless (terms_in deck) (pieces_in deck)
    (λ i within.
    let inside : i < length deck.pieces = omega (arith, within, length-map deck.pieces (piece_of deck)) in
    omega (arith, ap (λ (p : PieceRow). p.activity) (piece_there deck i inside), piece_activity-within deck cards i no_piece inside, length-map deck.acts term_of))
    (flawless deck none)

-- they are within their limits
within_pieces : (deck : Deck) → IsWithinLimits deck → ArePiecesWithinLimits (pieces_in deck)
within_pieces deck limits = record {
  few = omega (arith, length-map deck.pieces (piece_of deck), (limits Piece).few);
  gentle = All-from_get_or (λ (piece : PieceRow). piece.slope ≤ MAX_SLOPE) (pieces_in deck) (record { activity = 0; units = 0; slope = 0 }) (λ i within.
      let inside : i < length deck.pieces = omega (arith, within, length-map deck.pieces (piece_of deck)) in
      omega (arith, ap (λ (p : PieceRow). p.slope) (piece_there deck i inside), (pieces-within deck limits i no_piece inside).slope));
}

-- the loads of a deck without faults
loads_of_deck : (deck : Deck) (entries : List Entry) (states : List ActState) → HasNoMisfit Plan deck → IsWithinLimits deck →
    All (IsLoad (project_in deck entries states)) (map (load_of deck) deck.loads)
loads_of_deck deck entries states cards limits =
    All-from_get_or (IsLoad (project_in deck entries states)) (map (load_of deck) deck.loads) (record { activity = 0; resource = 0; quantity = 0 }) (λ i within.
    let inside : i < length deck.loads = omega (arith, within, length-map deck.loads (load_of deck)) in
    let load = get_or-map (load_of deck) deck.loads i no_load (record { activity = 0; resource = 0; quantity = 0 }) inside in
    let known = load_known deck cards i no_load inside in
    record {
      activity = omega (arith, ap (λ (l : LoadItem). l.activity) load, known.0, length-map deck.acts (arc_of deck));
      resource = omega (arith, ap (λ (l : LoadItem). l.resource) load, known.1, length-map deck.resources (λ resource. resource.code));
      quantity = omega (arith, ap (λ (l : LoadItem). l.quantity) load, loads-within deck limits i no_load inside);
    })

-- the terms of time
time_terms_of_deck : (deck : Deck) (terms : Option TermsCard) → ((fault : Fault) → HasTermsFault deck fault → ⊥) →
    ForSome deck.terms AreTermsWithin → deck.terms ≡ terms → AreTimeTerms (time_terms_of terms)
time_terms_of_deck deck None none within is = record { overhead = omega arith; target = omega arith; bonus = omega arith; penalty = omega arith }
time_terms_of_deck deck (Some card) none within is =
    let fit = within card is in record {
      overhead = fit.overhead;
      target = fit.target;
      bonus = elim (cases_lt card.penalty card.bonus) [ inl above ↦ absurd (none _ (bonus_above card is above refl)) | inr fine ↦ fine ];
      penalty = fit.penalty;
    }

-- the project of cards that make one
pub project_in-planned : (deck : Deck) (entries : List Entry) (states : List ActState) → HasNoFault deck → IsWithinLimits deck →
    HasFigures (project_in deck entries states) → IsPlanned (project_in deck entries states)
project_in-planned deck entries states makes limits figures = record {
  own = record { within = limits; makes = makes_project deck makes; is = record { lists = refl; entries = figures.entries; states = figures.states } };
  in_range = network_of-in_range deck makes.cards;
  sound = makes.sound;
  tree = makes.tree;
  terms = are_terms deck limits makes.cards;
  limits = within_limits deck limits makes.cards;
  lengths = are_lengths deck limits makes.cards;
  variance_each = length-map deck.acts (variance_in deck) ∙ sym (length-map deck.acts (arc_of deck));
  small_variances = small_variance deck limits makes.cards;
  place_each = length-map deck.acts (item_of_act deck) ∙ sym (length-map deck.acts (arc_of deck));
  placed = item_there deck limits makes.cards;
  few_events = (limits Event).few;
  few_items = omega (arith, length-map deck.items (row_of deck), (limits Wbs).few);
  event_codes = length-map deck.events (λ event. event.code);
  activity_codes = length-map deck.acts (λ act. act.code) ∙ sym (length-map deck.acts (arc_of deck));
  item_codes = length-map deck.items (λ item. item.code) ∙ sym (length-map deck.items (row_of deck));
  item_titles = length-map deck.items (λ item. item.title) ∙ sym (length-map deck.items (row_of deck));
  unit_days = (project-within deck limits).unit_within;
  directed = (project-within deck limits).directed_within;
  events_differ = ((limits Event).differ refl);
  activities_differ = ((limits Act).differ refl);
  pieces = pieces_of_deck deck makes.cards makes.pieces;
  piece_limits = within_pieces deck limits;
  few_resources = omega (arith, length-map deck.resources (λ resource. resource.code), (limits Res).few);
  few_loads = omega (arith, length-map deck.loads (load_of deck), (limits Load).few);
  loads = loads_of_deck deck entries states makes.cards limits;
  time_terms = time_terms_of_deck deck deck.terms makes.terms (terms-within deck limits) refl;
  figures = figures;
}

-- a project is that of the deck that it keeps, where what it keeps as numbers is the deck's
pub project_from-is : (s : Inside) → s.frame.net ≡ network_of s.cards → s.frame.tree ≡ rows_of s.cards → AreProjectLists s.cards s.frame →
    s.pieces.items ≡ pieces_in s.cards → s.loads.items ≡ map (load_of s.cards) s.cards.loads → s.accounts.items ≡ accounts_in s.cards →
    project_from s ≡ project_in s.cards s.frame.book s.frame.states.items
project_from-is s network tree lists pieces loads accounts =
    λ i. record (project_in s.cards s.frame.book s.frame.states.items) {
      network = network i;
      tree = tree i;
      places = lists.places i;
      terms = lists.terms i;
      expected = lists.expected i;
      variances = lists.variances i;
      pieces = pieces i;
      loads = loads i;
      accounts = accounts i;
    }
