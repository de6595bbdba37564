-- Another term for one activity: its knees move to where they belong, and all others stay.
use Rattle.std.proofs.Common.{◌≡◌, ◌≢◌, ℕ, zero, suc, ◌+◌, ◌-◌, ◌<◌, ◌≤◌, List, length, map, take, drop, set, slice_range, get_or, refl, sym, ◌∙◌, ap, subst, ⊎_elim, arith}
use Rattle.std.proofs.lemmas.Bool.{cases_eq, cases_lt}
use Rattle.std.proofs.lemmas.List.{get_or-set_same, get_or-set_other, length-set, length-map, length-take, length-drop}
use Rattle.std.proofs.lemmas.List.{length-append, map-set, take_all, same_lists, get_or_default, get_or_read, with_items_is}
use borrow.Rule.Slice.PartMut.{put_mid}
use Rattle.std.specs.Vec.{with_item, with_items}
use Rattle.std.proofs.lemmas.Slice.{take-put_mid_below, drop-put_mid, between-put_mid, between_is}
use Rattle.pc_model.specs.declared.Arc.{Arc}
use Rattle.pc_model.specs.declared.Knee.{Knee}
use Rattle.pc_model.specs.declared.PieceRow.{PieceRow}
use Rattle.pc_model.specs.declared.Term.{Term}
use Rattle.pc_model.specs.declared.limits.TheConstants.{MAX_DURATION, MAX_SLOPE}
use Rattle.pc_model.specs.Pieces.{ArePieces, pieces_of, rise_in, slope_in, units_of}
use Rattle.pc_model.specs.inside.Pieces.{knee_at}
use Rattle.pc_model.specs.Schedule.{AreTerms, term_at}
use Rattle.pc_model.specs.Walk.{arc_at}
use Rattle.pc_crash.specs.declared.price_table.PriceRow.{PriceRow}
use Rattle.pc_crash.specs.inside.KneeLists.{AreSmallKnees, knee_list}
use Rattle.pc_crash.specs.inside.Laid.{AreLaid, IsPriceRowOf, knees_of_row, price_row_at}
use Rattle.pc_crash.specs.declared.crash_net.CrashNet.TheInside.{Inside}
use Rattle.pc_crash.specs.inside.CrashNets.{IsWholeNetwork, IsWholeInside, priced_network}
use Rattle.pc_crash.specs.Priced.{PricedNetwork}
use Rattle.pc_crash.specs.Terms.{AreWithinLimits}
use Rattle.pc_crash.specs.inside.Moved.{AreMoved, IsMovable, moved_knee}
use Rattle.pc_crash.proofs.CostLaws.{AreSmallKnees-of}
use Rattle.pc_crash.proofs.InsideLaws.{row-read, rows-each}
use Rattle.pc_crash.proofs.KneeListLaws.{AreKneesOf-knee_list, piece_knees-at, piece_knees-rise, length-knee_list}

-- the knee past the end of a list of knees
abbrev no_knee : Knee
no_knee = record { at = 0; rise = 0 }

module _ (old new : Term) (own : List PieceRow) where
  -- the knee that a piece makes
  later : (term : Term) (k : ℕ) → k < length own → knee_at (knee_list term own) (suc k) ≡ record { at = term.crash + units_of (drop k own); rise = rise_in term own (suc k) }
  later term k inside i = record { at = piece_knees-at term.crash term.slope own k inside i; rise = piece_knees-rise term own k inside i }

  module _ (steep : 0 < length own → old.slope ≤ slope_in old own 1) where
    -- a knee of the old term moves to that of the new one
    moved-is : (k : ℕ) → k < length own + 1 → moved_knee old new k (knee_at (knee_list old own) k) ≡ knee_at (knee_list new own) k
    moved-is zero inside = refl
    moved-is (suc zero) inside =
        let some : 0 < length own = omega arith in
        ap (moved_knee old new 1) (later old 0 some) ∙ (λ i. record { at = place i; rise = rises some i }) ∙ sym (later new 0 some)
      where
        place : old.crash + units_of own - old.crash + new.crash ≡ new.crash + units_of own
        place = omega arith

        rises : 0 < length own → rise_in old own 1 + old.slope - new.slope ≡ rise_in new own 1
        rises some = omega (arith, steep some)
    moved-is (suc (suc k)) inside =
        let below : suc k < length own = omega arith in
        ap (moved_knee old new (suc (suc k))) (later old (suc k) below) ∙ (λ i. record { at = place i; rise = rise_in old own (suc (suc k)) }) ∙ sym (later new (suc k) below)
      where
        place : old.crash + units_of (drop (suc k) own) - old.crash + new.crash ≡ new.crash + units_of (drop (suc k) own)
        place = omega arith

    -- the knees of the old term that have moved are those of the new one
    moved-knee_list : (knees : List Knee) → AreMoved old new (knee_list old own) knees → knees ≡ knee_list new own
    moved-knee_list knees moved =
        same_lists knees (knee_list new own) (omega (arith, moved.as_many, length-knee_list old own, length-knee_list new own))
        (λ k d inside.
        let few : k < length own + 1 = omega (arith, moved.as_many, length-knee_list old own) in
        get_or_default knees k d no_knee inside
        ∙ moved.each k (omega (arith, length-knee_list old own))
        ∙ moved-is k few
        ∙ get_or_default (knee_list new own) k no_knee d (omega (arith, length-knee_list new own)))

  -- the knees of the old term can be moved
  IsMovable-knee_list : AreSmallKnees (knee_list old own) → old.slope ≤ MAX_SLOPE → new.crash ≤ MAX_DURATION → (0 < length own → new.slope < slope_in new own 1)
      → (k : ℕ) → k < length (knee_list old own) → IsMovable old new k (knee_at (knee_list old own) k)
  IsMovable-knee_list small gentle short steep zero inside = record {
    above = λ h. absurd (omega arith);
    low = λ h. absurd (omega arith);
    rising = λ h. absurd (omega arith);
    gentle = λ h. absurd (omega arith);
  }
  IsMovable-knee_list small gentle short steep (suc k) inside = record {
    above = λ h. omega (arith, ap (λ (knee : Knee). knee.at) (later old k below));
    low = λ h. omega (arith, small.low (suc k) inside);
    rising = λ first.
        let is : k ≡ 0 = omega arith in
        let rise : (knee_at (knee_list old own) (suc k)).rise ≡ rise_in old own 1 = ap (λ (knee : Knee). knee.rise) (later old k below) ∙ ap (λ j. rise_in old own (suc j)) is in
        omega (arith, steep (omega (arith, below)));
    gentle = λ first. omega (arith, small.gentle (suc k) inside);
  }
    where
      below : k < length own
      below = omega (arith, length-knee_list old own)

module _ (net : PricedNetwork) (whole : IsWholeNetwork net) (a : ℕ) (inside : a < length net.terms) (new : Term)
    (limits : AreWithinLimits (set net.terms a new)) (fit : AreTerms net.network (set net.terms a new))
    (right : ArePieces (set net.terms a new) net.pieces) where
  abbrev own : List PieceRow
  own = pieces_of net.pieces a

  abbrev old : Term
  old = term_at net.terms a

  still : a < length (set net.terms a new)
  still = omega (arith, length-set net.terms a new)

  new-at : term_at (set net.terms a new) a ≡ new
  new-at = get_or-set_same net.terms a new (record { normal = 0; crash = 0; cost = 0; slope = 0 }) inside

  -- the first piece rises above the new slope
  above-new : 0 < length own → new.slope < slope_in new own 1
  above-new some = subst (λ (term : Term). slope_in term own 0 < slope_in term own 1) new-at (right.rising a 0 still some)

  short : new.crash ≤ MAX_DURATION
  short = omega (arith, limits.short a still, fit.ordered a still, ap (λ (term : Term). term.crash) new-at, ap (λ (term : Term). term.normal) new-at)

  -- the knees of an activity can be moved to those of its new term
  movable : (k : ℕ) → k < length (knee_list old own) → IsMovable old new k (knee_at (knee_list old own) k)
  movable =
      IsMovable-knee_list old new own
      (AreSmallKnees-of net.network net.terms net.pieces whole.terms whole.limits whole.pieces whole.piece_limits a inside (knee_list old own) (AreKneesOf-knee_list net.terms net.pieces a))
      (whole.limits.gentle a inside) short above-new

  -- and then they are those
  moved : (knees : List Knee) → AreMoved old new (knee_list old own) knees → knees ≡ knee_list new own
  moved = moved-knee_list old new own (λ some. omega (arith, whole.pieces.rising a 0 inside some))

-- a part apart from one that was written is as it was
module _ (knees part : List Knee) (first count : ℕ) (within : first + count ≤ length knees) (long : length part ≡ count) where
  size : length (put_mid first count knees part) ≡ length knees
  size = simp (length-append, length-take, length-drop) (omega (arith, within, long))

  before : (from end : ℕ) → end ≤ first → slice_range (put_mid first count knees part) from end ≡ slice_range knees from end
  before from end below =
      between_is (put_mid first count knees part) from end
      ∙ ap (drop from) (take-put_mid_below first count knees part end below (omega arith))
      ∙ sym (between_is knees from end)

  after : (from end : ℕ) → first + count ≤ from → slice_range (put_mid first count knees part) from end ≡ slice_range knees from end
  after from end above = ap (take (end - from)) (drop-put_mid first count knees part from above (omega arith) long)

module _ (arcs : List Arc) (terms : List Term) (pieces : List PieceRow) (rows : List PriceRow) (knees : List Knee) (laid : AreLaid arcs terms pieces (length terms) rows knees)
    (a : ℕ) (inside : a < length terms) (new : Term) (row : PriceRow) (first count : ℕ) (part : List Knee)
    (begins : first ≡ (price_row_at rows a).first) (counts : count ≡ (price_row_at rows a).count) (long : length part ≡ count) (is : part ≡ knee_list new (pieces_of pieces a))
    (same_arc : row.arc ≡ arc_at arcs a) (same_term : row.term ≡ new) (same_first : row.first ≡ first) (same_count : row.count ≡ count) where
  abbrev knees' : List Knee
  knees' = put_mid first count knees part

  old_row : IsPriceRowOf arcs terms pieces knees a (price_row_at rows a)
  old_row = laid.each a inside

  abbrev none : PriceRow
  none = record { arc = record { from = 0; to = 0 }; term = record { normal = 0; crash = 0; cost = 0; slope = 0 }; first = 0; count = 0 }

  within : first + count ≤ length knees
  within = omega (arith, old_row.within)

  size' : length knees' ≡ length knees
  size' = size knees part first count within long

  -- the row that is given is that of its activity
  given : price_row_at (set rows a row) a ≡ row
  given = get_or-set_same rows a row none (omega (arith, laid.one_each))

  -- and the others are as they were
  kept : (b : ℕ) → b ≢ a → price_row_at (set rows a row) b ≡ price_row_at rows b
  kept b other = get_or-set_other rows a b row none other

  -- no row begins elsewhere or has more knees
  same_begin : (b : ℕ) → (price_row_at (set rows a row) b).first ≡ (price_row_at rows b).first
  same_begin b = ⊎_elim
      (λ same. subst (λ c. (price_row_at (set rows a row) c).first ≡ (price_row_at rows c).first) (sym same) (ap (λ (r : PriceRow). r.first) given ∙ same_first ∙ begins))
      (λ other. ap (λ (r : PriceRow). r.first) (kept b other))
      (cases_eq b a)

  same_size : (b : ℕ) → (price_row_at (set rows a row) b).count ≡ (price_row_at rows b).count
  same_size b = ⊎_elim
      (λ same. subst (λ c. (price_row_at (set rows a row) c).count ≡ (price_row_at rows c).count) (sym same) (ap (λ (r : PriceRow). r.count) given ∙ same_count ∙ counts))
      (λ other. ap (λ (r : PriceRow). r.count) (kept b other))
      (cases_eq b a)

  -- the part of another row is as it was
  part_kept : (b : ℕ) → b < length terms → b ≢ a → knees_of_row knees' (price_row_at rows b) ≡ knees_of_row knees (price_row_at rows b)
  part_kept b below other = ⊎_elim
      (λ less. before knees part first count within long (price_row_at rows b).first ((price_row_at rows b).first + (price_row_at rows b).count) (omega (arith, laid.apart b a less inside)))
      (λ more. after knees part first count within long (price_row_at rows b).first ((price_row_at rows b).first + (price_row_at rows b).count) (omega (arith, laid.apart a b (omega arith) below)))
      (cases_lt b a)

  here : IsPriceRowOf arcs (set terms a new) pieces knees' a row
  here = record {
    arc = same_arc;
    term = same_term ∙ sym (get_or-set_same terms a new (record { normal = 0; crash = 0; cost = 0; slope = 0 }) inside);
    within = omega (arith, within, size');
    few = omega (arith, old_row.few);
    part =
        ap (λ n. slice_range knees' n (n + row.count)) same_first
        ∙ ap (λ n. slice_range knees' first (first + n)) same_count
        ∙ between-put_mid first count knees part (first + count) (omega (arith, within)) (omega (arith, long))
        ∙ is
        ∙ ap (λ t. knee_list t (pieces_of pieces a)) (sym (get_or-set_same terms a new (record { normal = 0; crash = 0; cost = 0; slope = 0 }) inside));
  }

  there : (b : ℕ) → b < length terms → b ≢ a → IsPriceRowOf arcs (set terms a new) pieces knees' b (price_row_at rows b)
  there b below other =
      let was = laid.each b below in
      let term : term_at (set terms a new) b ≡ term_at terms b = get_or-set_other terms a b new (record { normal = 0; crash = 0; cost = 0; slope = 0 }) other in
      record {
        arc = was.arc;
        term = was.term ∙ sym term;
        within = omega (arith, was.within, size');
        few = was.few;
        part = part_kept b below other ∙ was.part ∙ ap (λ t. knee_list t (pieces_of pieces b)) (sym term);
      }

  -- the layout with another term for one activity, and its knees where they belong
  pub AreLaid-set : AreLaid arcs (set terms a new) pieces (length terms) (set rows a row) knees'
  AreLaid-set = record {
    one_each = length-set rows a row ∙ laid.one_each;
    same_terms =
        map-set (λ (r : PriceRow). r.term) rows a row
        ∙ ap (λ t. set (map (λ (r : PriceRow). r.term) rows) a t) same_term
        ∙ ap (λ ts. set ts a new) (laid.same_terms ∙ take_all (length terms) terms (omega arith))
        ∙ sym (take_all (length terms) (set terms a new) (omega (arith, length-set terms a new)));
    small = omega (arith, laid.small, size');
    each = λ b below. ⊎_elim
        (λ same. subst (λ c. IsPriceRowOf arcs (set terms a new) pieces knees' c (price_row_at (set rows a row) c)) (sym same)
        (subst (IsPriceRowOf arcs (set terms a new) pieces knees' a) (sym given) here))
        (λ other. subst (IsPriceRowOf arcs (set terms a new) pieces knees' b) (sym (kept b other)) (there b below other))
        (cases_eq b a);
    apart = λ b c order below. omega (arith, same_begin b, same_size b, same_begin c, laid.apart b c order below);
  }

-- what a call that sets a term reads and writes: the row of activity a, and its part of the knees
module _ (s : Inside) (net : PricedNetwork) (view : priced_network s ≡ net) (inv : IsWholeInside s) (a : ℕ)
    (known : a < length net.network.arcs) (row : PriceRow) (read : row ≡ get_or s.layout.rows.items a row) where
  in_inside : a < length s.net.now.arcs
  in_inside = omega (arith, ap (λ (n : PricedNetwork). length n.network.arcs) view)

  in_terms : a < length (priced_network s).terms
  in_terms = omega (arith, inv.whole.terms.one_each, in_inside)

  read_row : IsPriceRowOf s.net.now.arcs (priced_network s).terms s.pieces.items s.layout.knees.items a row
  read_row = row-read s a row inv in_inside read

  -- no more knees than all activities may have
  pub row_room : row.first + row.count ≤ 100000
  row_room = omega (arith, read_row.within, inv.laid.small, inv.whole.limits.few, length-map s.layout.rows.items (λ (r : PriceRow). r.term))

  module _ (new : Term) (fit : AreTerms net.network (set net.terms a new)) (limits : AreWithinLimits (set net.terms a new))
      (right : ArePieces (set net.terms a new) net.pieces) (knees : List Knee) (all : knees ≡ s.layout.knees.items) where
    fit' : AreTerms s.net.now (set (priced_network s).terms a new)
    fit' = subst (λ (n : PricedNetwork). AreTerms n.network (set n.terms a new)) (sym view) fit

    limits' : AreWithinLimits (set (priced_network s).terms a new)
    limits' = subst (λ (n : PricedNetwork). AreWithinLimits (set n.terms a new)) (sym view) limits

    right' : ArePieces (set (priced_network s).terms a new) s.pieces.items
    right' = subst (λ (n : PricedNetwork). ArePieces (set n.terms a new) n.pieces) (sym view) right

    abbrev part : List Knee
    part = slice_range knees row.first (row.first + row.count)

    part-is : part ≡ knee_list row.term (pieces_of s.pieces.items a)
    part-is = ap (λ ks. slice_range ks row.first (row.first + row.count)) all ∙ read_row.part ∙ ap (λ t. knee_list t (pieces_of s.pieces.items a)) (sym read_row.term)

    -- the knees of the row can be moved
    pub part_movable : (k : ℕ) → k < length part → IsMovable row.term new k (knee_at part k)
    part_movable =
        subst (λ list. (k : ℕ) → k < length list → IsMovable row.term new k (knee_at list k)) (sym part-is)
        (subst (λ t. (k : ℕ) → k < length (knee_list t (pieces_of s.pieces.items a)) → IsMovable t new k (knee_at (knee_list t (pieces_of s.pieces.items a)) k)) (sym read_row.term)
        (movable (priced_network s) inv.whole a in_terms new limits' fit' right'))

    module _ (row' : PriceRow) (read' : row' ≡ get_or s.layout.rows.items a row') (new_part : List Knee) (has_moved : AreMoved row.term new part new_part) where
      abbrev set_row : PriceRow
      set_row = record row' { term = new }

      abbrev set_knees : List Knee
      set_knees = put_mid row.first (row.first + row.count - row.first) knees new_part

      -- the fields after the call
      abbrev pub after_set : Inside
      after_set = record s { layout = record { rows = with_item s.layout.rows a set_row; knees = with_items s.layout.knees set_knees } }

      read_as : (r : PriceRow) → r ≡ get_or s.layout.rows.items a r → r ≡ price_row_at s.layout.rows.items a
      read_as r is = get_or_read s.layout.rows.items a r (omega (arith, in_inside, rows-each s inv)) is
          (record { arc = record { from = 0; to = 0 }; term = record { normal = 0; crash = 0; cost = 0; slope = 0 }; first = 0; count = 0 })

      same_row : row' ≡ row
      same_row = read_as row' read' ∙ sym (read_as row read)

      laid_as : AreLaid s.net.now.arcs (priced_network s).terms s.pieces.items (length (priced_network s).terms) s.layout.rows.items s.layout.knees.items
      laid_as = subst (λ n. AreLaid s.net.now.arcs (priced_network s).terms s.pieces.items n s.layout.rows.items s.layout.knees.items)
          (sym (length-map s.layout.rows.items (λ (r : PriceRow). r.term))) inv.laid

      moved_part : new_part ≡ knee_list new (pieces_of s.pieces.items a)
      moved_part =
          from_term row.term read_row.term (subst (λ list. AreMoved row.term new list new_part) part-is has_moved)
        where
          from_term : (t : Term) → t ≡ term_at (priced_network s).terms a → AreMoved t new (knee_list t (pieces_of s.pieces.items a)) new_part → new_part ≡ knee_list new (pieces_of s.pieces.items a)
          from_term t is m = moved (priced_network s) inv.whole a in_terms new limits' fit' right' new_part (subst (λ u. AreMoved u new (knee_list u (pieces_of s.pieces.items a)) new_part) is m)

      long : length new_part ≡ row.first + row.count - row.first
      long = omega (arith, has_moved.as_many, range-size)
        where
          range-size : length part ≡ row.first + row.count - row.first
          range-size = simp (length-take, length-drop) (omega (arith, read_row.within, ap (λ (ks : List Knee). length ks) all))

      set_laid : AreLaid s.net.now.arcs (set (priced_network s).terms a new) s.pieces.items (length (priced_network s).terms)
          (set s.layout.rows.items a set_row) (put_mid row.first (row.first + row.count - row.first) s.layout.knees.items new_part)
      set_laid =
          AreLaid-set s.net.now.arcs (priced_network s).terms s.pieces.items s.layout.rows.items s.layout.knees.items laid_as a in_terms new
          set_row row.first (row.first + row.count - row.first) new_part
          (ap (λ (r : PriceRow). r.first) (read_as row read))
          (omega (arith, ap (λ (r : PriceRow). r.count) (read_as row read)))
          long moved_part
          (ap (λ (r : PriceRow). r.arc) same_row ∙ read_row.arc)
          refl
          (ap (λ (r : PriceRow). r.first) same_row)
          (omega (arith, ap (λ (r : PriceRow). r.count) same_row))

      terms_set : (priced_network after_set).terms ≡ set (priced_network s).terms a new
      terms_set = map-set (λ (r : PriceRow). r.term) s.layout.rows.items a set_row

      knees_set : (with_items s.layout.knees set_knees).items ≡ put_mid row.first (row.first + row.count - row.first) s.layout.knees.items new_part
      knees_set =
          ap (λ ks. (with_items s.layout.knees (put_mid row.first (row.first + row.count - row.first) ks new_part)).items) all
          ∙ with_items_is s.layout.knees (put_mid row.first (row.first + row.count - row.first) s.layout.knees.items new_part)
          (size s.layout.knees.items new_part row.first (row.first + row.count - row.first) (omega (arith, read_row.within)) long ∙ sym s.layout.knees.ok.0)

      -- they are those of a complete priced network again
      pub whole_after : IsWholeInside after_set
      whole_after = record {
        whole = record {
          in_range = inv.whole.in_range;
          sound = inv.whole.sound;
          terms = subst (AreTerms s.net.now) (sym terms_set) fit';
          limits = subst AreWithinLimits (sym terms_set) limits';
          pieces = subst (λ ts. ArePieces ts s.pieces.items) (sym terms_set) right';
          piece_limits = inv.whole.piece_limits;
          events = inv.whole.events;
          activities = inv.whole.activities;
        };
        laid =
            rw (terms_set, knees_set) (subst
            (λ n. AreLaid s.net.now.arcs (set (priced_network s).terms a new) s.pieces.items n (set s.layout.rows.items a set_row)
            (put_mid row.first (row.first + row.count - row.first) s.layout.knees.items new_part))
            (length-map s.layout.rows.items (λ (r : PriceRow). r.term) ∙ sym (length-set s.layout.rows.items a set_row)) set_laid);
        linked = inv.linked;
      }

      -- of the network before with that term
      pub view_after : priced_network after_set ≡ record net { terms = set net.terms a new }
      view_after = ap (λ ts. record (priced_network s) { terms = ts }) terms_set ∙ ap (λ (n : PricedNetwork). record n { terms = set n.terms a new }) view
