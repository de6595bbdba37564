-- The links at the two ends of the arrows, and what makes a network of them.
use Rattle.std.proofs.Common.{◌≡◌, ◌≢◌, ℕ, zero, suc, ◌+◌, ◌*◌, ◌<◌, ◌≤◌, ◌⊎◌, inl, inr, ⊎_elim, List, ◌++◌, length, map, slice_index_or, refl, sym, ◌∙◌, ap, arith}
use Rattle.std.specs.Prelude.{All, not}
use Rattle.std.specs.List.{range_with_len}
use Rattle.std.proofs.lemmas.Bool.{cases_lt}
use Rattle.std.proofs.lemmas.List.{get_or_append_left, get_or-append-add, get_or-map, length-append, length-map}
use Rattle.std.proofs.lemmas.List.Elements.{All-append, All-map, All-filter, All-from_get_or}
use Rattle.std.proofs.lemmas.List.FromFn.{get_or-range_with_len, length-range_with_len}
use Rattle.pc_model.specs.declared.Arc.{Arc}
use Rattle.pc_model.specs.Walk.{arc_at, from_of, to_of}
use Rattle.pc_model.specs.Network.{Network, IsInRange, IsEntered, IsLeft}
use Rattle.pc_net.specs.Firmness.{IsFirm}
use Rattle.pc_project.specs.declared.placed.AfterRow.{AfterRow}
use Rattle.pc_tasks.specs.network.Tasks.{AreAmong}
use Rattle.pc_tasks.specs.network.Arrows.{begin_event, end_event, last_event, task_arc, first_arc, last_arc, comes_after, comes_before, firsts, lasts, wide_arrows}
use Rattle.pc_tasks.proofs.lemmas.network.Kept.{Stands}
use Rattle.pc_tasks.proofs.lemmas.network.Joined as joined

-- a number below twice another and two is 0, begins or ends a task, or is the last
pub data IsEvent (n e : ℕ) : Type 0 where
  at_start : e ≡ 0 → IsEvent n e
  at_begin : (i : ℕ) → i < n → e ≡ begin_event i → IsEvent n e
  at_end : (i : ℕ) → i < n → e ≡ end_event i → IsEvent n e
  at_last : e ≡ last_event n → IsEvent n e

halves : (e : ℕ) → (i : ℕ) × ((e ≡ 2 * i) ⊎ (e ≡ 2 * i + 1))
halves zero = (0, inl refl)
halves (suc e) = let (i, is) = halves e in ⊎_elim (λ even. (i, inr (omega (arith, even)))) (λ odd. (suc i, inl (omega (arith, odd)))) is

pub event_of : (n e : ℕ) → e < 2 * n + 2 → IsEvent n e
event_of n zero inside = at_start refl
event_of n (suc e) inside =
    let (i, is) = halves e in
    elim (cases_last i) [
      | inl below ↦ ⊎_elim (λ even. at_begin i below (omega (arith, even))) (λ odd. at_end i below (omega (arith, odd))) is
      | inr past ↦ at_last (⊎_elim (λ even. omega (arith, even)) (λ odd. absurd (omega (arith, odd))) is)
    ]
  where
    cases_last : (i : ℕ) → (i < n) ⊎ (n ≤ i)
    cases_last i = cases_lt i n

in_range : (n : ℕ) → All (λ i. i < n) (range_with_len 0 n)
in_range n =
    All-from_get_or (λ i. i < n) (range_with_len 0 n) 0
    (λ i inside. omega (arith, length-range_with_len 0 n, get_or-range_with_len 0 n i 0 (omega (arith, length-range_with_len 0 n))))

pub stands_in_range : (n i : ℕ) → i < n → Stands (range_with_len 0 n) i
stands_in_range n i inside = (i, omega (arith, length-range_with_len 0 n), omega (arith, get_or-range_with_len 0 n i 0 inside))

module _ (n : ℕ) (xs ys : List ℕ) where
  abbrev pub ends : List Arc
  ends = map first_arc xs ++ map (last_arc n) ys

  abbrev no_arc : Arc
  no_arc = record { from = 0; to = 0 }

  -- links at the two ends, where they are those of tasks
  pub ends_are_outer : All (λ i. i < n) xs → All (λ i. i < n) ys → All (joined.IsOuter n) ends
  ends_are_outer xs_in ys_in =
      All-append (joined.IsOuter n) (map first_arc xs) (map (last_arc n) ys)
      (All-map (joined.IsOuter n) first_arc xs (λ k d inside. inl (refl, (slice_index_or xs k d, xs_in k d inside, refl))))
      (All-map (joined.IsOuter n) (last_arc n) ys (λ k d inside. inr (refl, (slice_index_or ys k d, ys_in k d inside, refl))))

  pub first_stands : (i : ℕ) → Stands xs i → (k : ℕ) × (k < length ends) × (slice_index_or ends k no_arc ≡ first_arc i)
  first_stands i (k, inside, is) = (
    k,
    omega (arith, length-append (map first_arc xs) (map (last_arc n) ys), length-map xs first_arc),
    get_or_append_left (map first_arc xs) (map (last_arc n) ys) no_arc k (omega (arith, length-map xs first_arc)) ∙ (get_or-map first_arc xs k 0 no_arc inside ∙ ap first_arc is),
  )

  pub last_stands : (i : ℕ) → Stands ys i → (k : ℕ) × (k < length ends) × (slice_index_or ends k no_arc ≡ last_arc n i)
  last_stands i (k, inside, is) = (
    length (map first_arc xs) + k,
    omega (arith, length-append (map first_arc xs) (map (last_arc n) ys), length-map ys (last_arc n)),
    get_or-append-add (map first_arc xs) (map (last_arc n) ys) k no_arc ∙ (get_or-map (last_arc n) ys k 0 no_arc inside ∙ ap (last_arc n) is),
  )

-- the links of both networks are such
pub narrow_outer : (n : ℕ) (afters : List AfterRow) → All (joined.IsOuter n) (ends n (firsts n afters) (lasts n afters))
narrow_outer n afters =
    ends_are_outer n (firsts n afters) (lasts n afters) (All-filter (λ i. not (comes_after afters i)) (λ i. i < n) (range_with_len 0 n) (in_range n))
    (All-filter (λ i. not (comes_before afters i)) (λ i. i < n) (range_with_len 0 n) (in_range n))

pub wide_outer : (n : ℕ) → All (joined.IsOuter n) (ends n (range_with_len 0 n) (range_with_len 0 n))
wide_outer n = ends_are_outer n (range_with_len 0 n) (range_with_len 0 n) (in_range n) (in_range n)

-- every activity leads from one event to another
module _ (n : ℕ) (afters : List AfterRow) (among : AreAmong n afters) (more : List Arc) (outer : All (joined.IsOuter n) more) where
  abbrev net : Network
  net = record { events = 2 * n + 2; start = 0; end = last_event n; arcs = joined.arcs n afters among more outer }

  pub joined_in_range : IsInRange net
  joined_in_range = record {
    start_in = omega arith;
    end_in = omega arith;
    apart = λ same. omega (arith, same);
    from_in = λ a inside. froms a (joined.one_of n afters among more outer a inside);
    to_in = λ a inside. tos a (joined.one_of n afters among more outer a inside);
    not_looped = λ a inside. loops a (joined.one_of n afters among more outer a inside);
  }
    where
      froms : (a : ℕ) → joined.IsOne n afters among more outer a → from_of net.arcs a < 2 * n + 2
      froms a (joined.task first is) = omega (arith, ap (λ arc. arc.from) is)
      froms a (joined.after j known at is) = omega (arith, ap (λ arc. arc.from) is, among.before j known)
      froms a (joined.other past (inl (zero_is, (i, known, to)))) = omega (arith, zero_is)
      froms a (joined.other past (inr (to, (i, known, from_is)))) = omega (arith, from_is, known)

      tos : (a : ℕ) → joined.IsOne n afters among more outer a → to_of net.arcs a < 2 * n + 2
      tos a (joined.task first is) = omega (arith, ap (λ arc. arc.to) is)
      tos a (joined.after j known at is) = omega (arith, ap (λ arc. arc.to) is, among.task j known)
      tos a (joined.other past (inl (zero_is, (i, known, to)))) = omega (arith, to, known)
      tos a (joined.other past (inr (to, (i, known, from_is)))) = omega (arith, to)

      loops : (a : ℕ) → joined.IsOne n afters among more outer a → from_of net.arcs a ≢ to_of net.arcs a
      loops a (joined.task first is) same = omega (arith, ap (λ arc. arc.from) is, ap (λ arc. arc.to) is, same)
      loops a (joined.after j known at is) same = omega (arith, ap (λ arc. arc.from) is, ap (λ arc. arc.to) is, same)
      loops a (joined.other past (inl (zero_is, (i, known, to)))) same = omega (arith, zero_is, to, same)
      loops a (joined.other past (inr (to, (i, known, from_is)))) same = omega (arith, to, from_is, same)

  pub nothing_enters : IsEntered net 0 → ⊥
  nothing_enters (a, inside, to) = joined.none_to_start n afters among more outer a inside to

  pub nothing_leaves : IsLeft net (last_event n) → ⊥
  nothing_leaves (a, inside, from) = joined.none_from_last n afters among more outer a inside from

-- the wide arrows of some tasks have no loose end
module _ (n : ℕ) (afters : List AfterRow) (among : AreAmong n afters) (some : 0 < n) where
  abbrev wide : List Arc
  wide = ends n (range_with_len 0 n) (range_with_len 0 n)

  first_enters : (i : ℕ) → i < n → (a : ℕ) × (a < length (wide_arrows n afters).arcs) × (arc_at (wide_arrows n afters).arcs a ≡ first_arc i)
  first_enters i inside =
      let (k, known, is) = first_stands n (range_with_len 0 n) (range_with_len 0 n) i (stands_in_range n i inside) in
      (n + (length afters + k), omega (arith, joined.length-joined n afters among wide (wide_outer n)), joined.at_more n afters among wide (wide_outer n) k known ∙ is)

  last_leaves : (i : ℕ) → i < n → (a : ℕ) × (a < length (wide_arrows n afters).arcs) × (arc_at (wide_arrows n afters).arcs a ≡ last_arc n i)
  last_leaves i inside =
      let (k, known, is) = last_stands n (range_with_len 0 n) (range_with_len 0 n) i (stands_in_range n i inside) in
      (n + (length afters + k), omega (arith, joined.length-joined n afters among wide (wide_outer n)), joined.at_more n afters among wide (wide_outer n) k known ∙ is)

  task_at : (i : ℕ) → i < n → (i < length (wide_arrows n afters).arcs) × (arc_at (wide_arrows n afters).arcs i ≡ task_arc i)
  task_at i inside = (omega (arith, joined.length-joined n afters among wide (wide_outer n)), joined.at_task n afters among wide (wide_outer n) i inside)

  entered : (e : ℕ) → IsEvent n e → e ≢ 0 → IsEntered (wide_arrows n afters) e
  entered e (at_start is) other = absurd (other is)
  entered e (at_begin i known is) other = let (a, inside, at) = first_enters i known in (a, inside, ap (λ arc. arc.to) at ∙ sym is)
  entered e (at_end i known is) other = let (inside, at) = task_at i known in (i, inside, ap (λ arc. arc.to) at ∙ sym is)
  entered e (at_last is) other = let (a, inside, at) = last_leaves 0 some in (a, inside, ap (λ arc. arc.to) at ∙ sym is)

  left : (e : ℕ) → IsEvent n e → e ≢ last_event n → IsLeft (wide_arrows n afters) e
  left e (at_start is) other = let (a, inside, at) = first_enters 0 some in (a, inside, ap (λ arc. arc.from) at ∙ sym is)
  left e (at_begin i known is) other = let (inside, at) = task_at i known in (i, inside, ap (λ arc. arc.from) at ∙ sym is)
  left e (at_end i known is) other = let (a, inside, at) = last_leaves i known in (a, inside, ap (λ arc. arc.from) at ∙ sym is)
  left e (at_last is) other = absurd (other is)

  pub wide_is_firm : IsFirm (wide_arrows n afters)
  wide_is_firm = record {
    not_entered = nothing_enters n afters among wide (wide_outer n);
    not_left = nothing_leaves n afters among wide (wide_outer n);
    none_dangles = λ e inside dangles. ⊎_elim (λ (other, none). none (entered e (event_of n e inside) other)) (λ (other, none). none (left e (event_of n e inside) other)) dangles;
  }
