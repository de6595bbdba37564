-- Cards without faults fit together: the network and the items are within their ranges.
use Rattle.std.proofs.Common.{◌≡◌, ◌≢◌, ◌<◌, ℕ, List, [], length, get_or, sym, ap, subst, ◌∙◌, refl, inl, inr, arith, Option, Some, None}
use Rattle.std.specs.Prelude.{All, IsSome, option_and_then}
use Rattle.std.proofs.lemmas.Bool.{cases_lt}
use Rattle.std.proofs.lemmas.List.{get_or-map, length-map}
use Rattle.pc_model.specs.declared.Arc.{Arc}
use Rattle.pc_model.specs.Walk.{from_of, to_of}
use Rattle.pc_model.specs.Network.{Network, IsInRange}
use Rattle.pc_wbs.specs.Climb.{AreInRange}
use Rattle.pc_cards.specs.declared.sort.Sort.TheVariants.{Plan}
use Rattle.pc_deck.specs.Act as flaw
use Rattle.pc_deck.specs.Act.{HasActFlaw}
use Rattle.pc_deck.specs.Durations.{crash_above, unordered}
use Rattle.pc_deck.specs.Wbs.{names_parent}
use Rattle.pc_deck.specs.declared.kinds.acct.AcctCard.{AcctCard}
use Rattle.pc_deck.specs.declared.kinds.act.ActCard.{ActCard}
use Rattle.pc_deck.specs.declared.kinds.load.LoadCard.{LoadCard}
use Rattle.pc_deck.specs.declared.kinds.money.MoneyCard.{MoneyCard}
use Rattle.pc_deck.specs.declared.kinds.piece.PieceCard.{PieceCard}
use Rattle.pc_deck.specs.declared.kinds.status.StatusCard.{StatusCard}
use Rattle.pc_deck.specs.declared.kinds.wbs.ItemCard.{ItemCard}
use Rattle.pc_deck.specs.Deck.{Deck, account_codes, act_codes, event_codes, item_codes, named_among, number_among, resource_codes}
use Rattle.pc_deck.specs.Misfit.{AreKnownNames, HasCardMisfit, HasNoMisfit}
use Rattle.pc_deck.specs.inside.Misfit.{names_of}
use Rattle.pc_deck.proofs.MisfitLaws.{Any-at, all_named, at_accounts, at_acts, at_charges, at_items, at_loads, at_pieces, at_project, at_statuses, at_togos, no_fault_of}
use Rattle.pc_faults.specs.Faults.{one_event}
use Rattle.pc_faults.specs.declared.fault.Fault.{Fault}
use Rattle.pc_faults.specs.declared.kind.Kind.TheVariants.{Act, End, Project}
use Rattle.pc_project.specs.Project.{arc_of, network_of, item_of_act, row_of, rows_of}
use Rattle.pc_project.specs.Makes.{IsSoundAct}
use Rattle.pc_project.proofs.NumberLaws.{account_number-within, act_number-within, event_number-within, event_number-apart, item_number-within, resource_number-within}

module _ (deck : Deck) (none : HasNoMisfit Plan deck) where
  -- the start and the end are two events
  pub ends_there : AreKnownNames deck (names_of Plan Project deck.project)
  ends_there = all_named Plan deck none at_project End (omega arith) 0 deck.project (omega arith)

  pub ends_apart : deck.project.start ≢ deck.project.end
  ends_apart same = no_fault_of Plan deck none at_project End (omega arith) (one_event deck.project.row deck.project.start) (0, deck.project, omega arith, refl, inr (same, refl))

  -- what an activity names is there, and its numbers are in order
  pub acts_there : All (λ card. AreKnownNames deck (names_of Plan Act card)) deck.acts
  acts_there = all_named Plan deck none at_acts End (omega arith)

  pub all_fit : All IsSoundAct deck.acts
  all_fit i d within = record {
    apart = λ same. out _ (flaw.same_events same refl);
    ordered = record {
      optimistic = elim (cases_lt card.likely card.opt) [ inl above ↦ absurd (out _ (flaw.durations (unordered (λ o. omega (arith, above, o.optimistic)) refl))) | inr fine ↦ fine ];
      pessimistic = elim (cases_lt card.pess card.likely) [ inl above ↦ absurd (out _ (flaw.durations (unordered (λ o. omega (arith, above, o.pessimistic)) refl))) | inr fine ↦ fine ];
    };
    durations = elim (cases_lt card.normal card.crash) [ inl above ↦ absurd (out _ (flaw.durations (crash_above above refl))) | inr fine ↦ fine ];
  }
    where
      card : ActCard
      card = get_or deck.acts i d

      out : (fault : Fault) → HasActFlaw card fault → ⊥
      out fault h = no_fault_of Plan deck none at_acts End (omega arith) fault (Any-at (λ act. HasCardMisfit Plan deck Act act fault) deck.acts i d within (inr h))

-- a card to read past the end of the cards, where no one looks
pub no_act : ActCard
no_act = record { row = 0; code = []; from = []; to = []; item = []; opt = 0; likely = 0; pess = 0; normal = 0; crash = 0; cost = 0; slope = 0; title = [] }

no_item : ItemCard
no_item = record { row = 0; code = []; parent = None; title = [] }

-- the activity leads from the event that its card names first to the one that it names second
record IsPlaced (deck : Deck) (a : ℕ) (card : ActCard) : Type 0 where
  there : AreKnownNames deck (names_of Plan Act card)
  apart : card.from ≢ card.to
  from : from_of (network_of deck).arcs a ≡ number_among (event_codes deck) card.from
  to : to_of (network_of deck).arcs a ≡ number_among (event_codes deck) card.to

is_placed : (deck : Deck) → HasNoMisfit Plan deck → (a : ℕ) → a < length (network_of deck).arcs → IsPlaced deck a (get_or deck.acts a no_act)
is_placed deck none a within =
    let inside : a < length deck.acts = omega (arith, within, length-map deck.acts (arc_of deck)) in
    let arc = get_or-map (arc_of deck) deck.acts a no_act (record { from = 0; to = 0 }) inside in
    record { there = acts_there deck none a no_act inside; apart = (all_fit deck none a no_act inside).apart; from = ap (λ x. x.from) arc; to = ap (λ x. x.to) arc }

-- a deck without misfits has a network of its own events
pub network_of-in_range : (deck : Deck) → HasNoMisfit Plan deck → IsInRange (network_of deck)
network_of-in_range deck none =
    let (starts, (ends, _)) = ends_there deck none in record {
      start_in = event_number-within deck deck.project.start starts;
      end_in = event_number-within deck deck.project.end ends;
      apart = λ same. ends_apart deck none (event_number-apart deck deck.project.start deck.project.end starts ends same);
      from_in = λ a within. let p = is_placed deck none a within in omega (arith, p.from, event_number-within deck (get_or deck.acts a no_act).from p.there.0);
      to_in = λ a within. let p = is_placed deck none a within in omega (arith, p.to, event_number-within deck (get_or deck.acts a no_act).to p.there.1.0);
      not_looped = λ a within same.
          let p = is_placed deck none a within in
          p.apart (event_number-apart deck (get_or deck.acts a no_act).from (get_or deck.acts a no_act).to p.there.0 p.there.1.0 (sym p.from ∙ (same ∙ p.to)));
    }

-- the number of a parent that is named
parent_within : (deck : Deck) (parent : Option (List ℕ)) (p : ℕ) →
    ((code : List ℕ) → parent ≡ Some code → IsSome (named_among (item_codes deck) code)) →
    option_and_then (λ code. Some (number_among (item_codes deck) code)) parent ≡ Some p → p < length deck.items
parent_within deck None p known is = absurd (let never : None ≡ Some p = is in cc)
parent_within deck (Some code) p known is =
    let same : number_among (item_codes deck) code ≡ p = cc in
    omega (arith, same, item_number-within deck code (known code refl))

-- items without faults have items for parents, in decks of either sort
known_parent : (deck : Deck) (parent : Option (List ℕ)) → AreKnownNames deck (names_parent parent) → (code : List ℕ) → parent ≡ Some code → IsSome (named_among (item_codes deck) code)
known_parent deck None there code is = absurd cc
known_parent deck (Some named) there code is = subst (λ name. IsSome (named_among (item_codes deck) name)) (let same : named ≡ code = cc in same) there.0

pub items-in_range : (deck : Deck) → All (λ (item : ItemCard). AreKnownNames deck (names_parent item.parent)) deck.items → AreInRange (rows_of deck)
items-in_range deck all x p within is =
    let count = length-map deck.items (row_of deck) in
    let inside : x < length deck.items = omega (arith, within, count) in
    let card = get_or deck.items x no_item in
    let row = get_or-map (row_of deck) deck.items x no_item (record { parent = None }) inside in
    let parent : option_and_then (λ code. Some (number_among (item_codes deck) code)) card.parent ≡ Some p = sym (ap (λ r. r.parent) row) ∙ is in
    omega (arith, count, parent_within deck card.parent p (known_parent deck card.parent (all x no_item inside)) parent)

pub rows_of-in_range : (deck : Deck) → HasNoMisfit Plan deck → AreInRange (rows_of deck)
rows_of-in_range deck none = items-in_range deck (all_named Plan deck none at_items End (omega arith))

-- the item of an activity is an item
pub place_of-within : (deck : Deck) → HasNoMisfit Plan deck → (a : ℕ) → a < length deck.acts → item_of_act deck (get_or deck.acts a no_act) < length deck.items
place_of-within deck none a within =
    item_number-within deck (get_or deck.acts a no_act).item (acts_there deck none a no_act within).1.1.0

-- the item of an account is an item
pub account_item-within : (deck : Deck) → HasNoMisfit Plan deck → (a : ℕ) (d : AcctCard) → a < length deck.accounts → number_among (item_codes deck) (get_or deck.accounts a d).item < length deck.items
account_item-within deck none a d within =
    item_number-within deck (get_or deck.accounts a d).item (all_named Plan deck none at_accounts End (omega arith) a d within).0

-- the same of a card that was read
pub act_item-within : (deck : Deck) → HasNoMisfit Plan deck → (a : ℕ) (card : ActCard) → a < length deck.acts → card ≡ get_or deck.acts a card →
    number_among (item_codes deck) card.item < length deck.items
act_item-within deck none a card within read =
    subst (λ (c : ActCard). number_among (item_codes deck) c.item < length deck.items) (sym read) (item_number-within deck (get_or deck.acts a card).item (acts_there deck none a card within).1.1.0)

pub account_item-read : (deck : Deck) → HasNoMisfit Plan deck → (a : ℕ) (card : AcctCard) → a < length deck.accounts →
    card ≡ get_or deck.accounts a card → number_among (item_codes deck) card.item < length deck.items
account_item-read deck none a card within read =
    subst (λ (c : AcctCard). number_among (item_codes deck) c.item < length deck.items) (sym read) (account_item-within deck none a card within)

-- the account of a charge, and that of an amount to go, is an account
pub charge_account-within : (deck : Deck) → HasNoMisfit Plan deck → (k : ℕ) (d : MoneyCard) → k < length deck.charges →
    number_among (account_codes deck) (get_or deck.charges k d).account < length deck.accounts
charge_account-within deck none k d within =
    account_number-within deck (get_or deck.charges k d).account (all_named Plan deck none at_charges End (omega arith) k d within).0

pub togo_account-within : (deck : Deck) → HasNoMisfit Plan deck → (k : ℕ) (d : MoneyCard) → k < length deck.togos →
    number_among (account_codes deck) (get_or deck.togos k d).account < length deck.accounts
togo_account-within deck none k d within =
    account_number-within deck (get_or deck.togos k d).account (all_named Plan deck none at_togos End (omega arith) k d within).0

-- the activity of a status is an activity
pub status_activity-within : (deck : Deck) → HasNoMisfit Plan deck → (k : ℕ) (d : StatusCard) → k < length deck.statuses →
    number_among (act_codes deck) (get_or deck.statuses k d).activity < length deck.acts
status_activity-within deck none k d within =
    act_number-within deck (get_or deck.statuses k d).activity (all_named Plan deck none at_statuses End (omega arith) k d within).0

-- the network of a deck, from its parts
pub network_of-is : (deck : Deck) (events start end : ℕ) (arcs : List Arc) → events ≡ length deck.events → start ≡ (network_of deck).start →
    end ≡ (network_of deck).end → arcs ≡ (network_of deck).arcs →
    let net : Network = record { events = events; start = start; end = end; arcs = arcs } in net ≡ network_of deck
network_of-is deck events start end arcs same_events same_start same_end same_arcs =
    λ i. record { events = same_events i; start = same_start i; end = same_end i; arcs = same_arcs i }

-- the activity of a piece is an activity
pub piece_activity-within : (deck : Deck) → HasNoMisfit Plan deck → (i : ℕ) (d : PieceCard) → i < length deck.pieces →
    number_among (act_codes deck) (get_or deck.pieces i d).activity < length deck.acts
piece_activity-within deck none i d within =
    act_number-within deck (get_or deck.pieces i d).activity (all_named Plan deck none at_pieces End (omega arith) i d within).0

-- the activity and the resource of a load are known
pub load_known : (deck : Deck) → HasNoMisfit Plan deck → (i : ℕ) (d : LoadCard) → i < length deck.loads →
    (number_among (act_codes deck) (get_or deck.loads i d).activity < length deck.acts)
    × (number_among (resource_codes deck) (get_or deck.loads i d).resource < length deck.resources)
load_known deck none i d within =
    let card = get_or deck.loads i d in
    let (activity, (resource, _)) = all_named Plan deck none at_loads End (omega arith) i d within in
    (act_number-within deck card.activity activity, resource_number-within deck card.resource resource)
