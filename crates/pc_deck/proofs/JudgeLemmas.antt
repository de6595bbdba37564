-- A card without a fault: what each test found of it.
use Rattle.std.proofs.Common.{◌≡◌, ℕ, true, false, not, ◌&&◌, nat_lt, List, Option, Some, None, Result, Ok, refl, subst}
use Rattle.pc_model.specs.Codes.{text_at}
use Rattle.pc_faults.specs.declared.kind.Kind.{Kind}
use Rattle.pc_faults.specs.declared.fault.Fault.{Fault}
use Rattle.pc_cards.specs.Forms.{AllFit, first_misshapen, first_over_limit}
use Rattle.pc_cards.specs.Named.{is_among}
use Rattle.pc_cards.specs.inside.Findings.{wrong_field_count, misshapen_at, flaw_of_fields, repeated, one_too_many}
use Rattle.pc_cards.proofs.FitLemmas.{neither, not_so, not_not, no_shape, no_limit, all_fit}
use Rattle.pc_deck.specs.Kinds.{kind_of, stands_once, limit_of, least_width_of, slots_of, width_of}
use Rattle.pc_deck.specs.inside.Kinds.{is_project}
use Rattle.pc_deck.specs.Judged.{Seen}
use Rattle.pc_deck.specs.inside.Judged.{card_place_of, not_project, second, fault_of_kind, unless, judge_of, judge}
use Rattle.pc_deck.specs.Refusal.{is_whole_as}

-- what is known of a card that has no fault
pub record IsFaultless (seen : Seen) (row : ℕ) (fields : List (List ℕ)) (kind : Kind) : Type 0 where
  pub named : kind_of seen.sort (text_at fields 0) ≡ Some kind
  pub placed : (seen.is_first && not (is_project kind)) ≡ false
  pub once : (stands_once kind && nat_lt 0 (seen.count kind)) ≡ false
  pub whole : is_whole_as kind fields ≡ true
  pub shapes : first_misshapen (slots_of seen.sort kind) fields ≡ None
  pub limits : first_over_limit (slots_of seen.sort kind) fields ≡ None
  pub differs : is_among (text_at fields 1) (seen.codes kind) ≡ false
  pub room : one_too_many kind row (seen.count kind) (limit_of seen.sort seen.version kind) ≡ None
  pub before_end : seen.has_ended ≡ false

Ok-injective : {A E : Type 0} (x y : A) → ◌≡◌ {A = Result A E} (Ok x) (Ok y) → x ≡ y
Ok-injective x y h = cc

faultless_kind : (seen : Seen) (row : ℕ) (fields : List (List ℕ)) (kind : Kind) → kind_of seen.sort (text_at fields 0) ≡ Some kind →
    fault_of_kind seen kind row fields ≡ None → IsFaultless seen row fields kind
faultless_kind seen row fields kind named none =
    let place = card_place_of seen kind row in
    let first = neither (not_project seen kind row) _ none in
    let once = neither (second place (seen.count kind)) _ first.1 in
    let widths = neither (wrong_field_count place (least_width_of kind) (width_of kind) fields) _ once.1 in
    let flaws = neither (flaw_of_fields row (slots_of seen.sort kind) fields) _ widths.1 in
    let each = neither (misshapen_at row (first_misshapen (slots_of seen.sort kind) fields)) _ flaws.0 in
    let code = neither (repeated row (seen.codes kind) (text_at fields 1)) _ flaws.1 in
    let room = neither (one_too_many kind row (seen.count kind) (limit_of seen.sort seen.version kind)) _ code.1 in
    record {
      named = named;
      placed = not_so _ _ first.0;
      once = not_so _ _ once.0;
      whole = not_not _ (not_so _ _ widths.0);
      shapes = no_shape row _ each.0;
      limits = no_limit row _ each.1;
      differs = not_so _ _ code.0;
      room = room.0;
      before_end = not_so _ _ room.1;
    }

unless-Ok : (kind other : Kind) (fault : Option Fault) → unless kind fault ≡ Ok other → (kind ≡ other) × (fault ≡ None)
unless-Ok kind other None h = (Ok-injective kind other h, refl)
unless-Ok kind other (Some fault) h = absurd (let h' = h in cc)

-- a card that was judged to be of a kind has no fault
pub faultless : (seen : Seen) (row : ℕ) (fields : List (List ℕ)) (kind : Kind) → judge seen row fields ≡ Ok kind → IsFaultless seen row fields kind
faultless seen row fields kind h = by_kind (kind_of seen.sort (text_at fields 0)) refl h
  where
    by_kind : (named : Option Kind) → kind_of seen.sort (text_at fields 0) ≡ named → judge_of seen row fields named ≡ Ok kind → IsFaultless seen row fields kind
    by_kind None is h = absurd (let h' = h in cc)
    by_kind (Some other) is h =
        let known = unless-Ok other kind (fault_of_kind seen other row fields) h in
        subst (IsFaultless seen row fields) known.0 (faultless_kind seen row fields other is known.1)

-- the fields of a card without a fault are what its kind wants
pub fits : (seen : Seen) (row : ℕ) (fields : List (List ℕ)) (kind : Kind) → IsFaultless seen row fields kind → AllFit (slots_of seen.sort kind) fields
fits seen row fields kind known = all_fit (slots_of seen.sort kind) fields known.shapes known.limits
