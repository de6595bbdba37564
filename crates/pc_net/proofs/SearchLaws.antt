-- The search for a way back: how it begins, what an event found does to it, and what it says when it is done.
use Rattle.std.proofs.Common.{◌≡◌, ◌≢◌, ℕ, zero, suc, ◌+◌, ◌<◌, ◌≤◌, List, [], ◌∷◌, ◌++◌, length, slice_index, set, take, drop, map, refl, sym, ◌∙◌, ap, subst, ⊎_elim, arith}
use Rattle.std.proofs.lemmas.Bool.{cases_eq}
use Rattle.std.proofs.lemmas.List.{get_or-set_same, get_or-set_other, length-set, get_or_append_left, get_or_push, length_push, drop_more, get_or-map, length-map}
use Rattle.pc_model.specs.declared.Arc.{Arc}
use Rattle.pc_model.specs.Walk.{from_of, to_of, IsWalk, IsCycle}
use Rattle.pc_model.specs.Network.{Network}
use Rattle.pc_model.proofs.Walks.WalkLaws.{IsWalk-append, IsWalk-push, split_walk_at}
use Rattle.pc_model.proofs.Walks.OrderLaws.{room_below}
use Rattle.pc_net.specs.Cycles.{LiesOnCycle, MeetsOnce, IsFirstCycle}
use Rattle.pc_net.specs.inside.Cycles.{IsRound, IsSearchBack}

-- the events that were found are different, and so no more than there are
pub IsSearchBack-short : (net : Network) (a : ℕ) (steps ranks : List ℕ) (at : ℕ) → IsSearchBack net a steps ranks at → length steps ≤ net.events
IsSearchBack-short net a steps ranks at search =
    omega (arith, length-map steps (from_of net.arcs), room_below (map (from_of net.arcs) steps) net.events small once)
  where
    at_place : (k : ℕ) → k < length steps → slice_index (map (from_of net.arcs) steps) k ≡ from_of net.arcs (slice_index steps k)
    at_place k below = get_or-map (from_of net.arcs) steps k 0 0 below

    small : (k : ℕ) → k < length (map (from_of net.arcs) steps) → slice_index (map (from_of net.arcs) steps) k < net.events
    small k below =
        let inside : k < length steps = omega (arith, length-map steps (from_of net.arcs)) in
        omega (arith, at_place k inside, search.named k inside)

    once : (j k : ℕ) → j < k → k < length (map (from_of net.arcs) steps) → slice_index (map (from_of net.arcs) steps) j ≢ slice_index (map (from_of net.arcs) steps) k
    once j k before below same =
        let inside : k < length steps = omega (arith, length-map steps (from_of net.arcs)) in
        let in_front : j < length steps = omega arith in
        let events_same : from_of net.arcs (slice_index steps j) ≡ from_of net.arcs (slice_index steps k) = sym (at_place j in_front) ∙ same ∙ at_place k inside in
        omega (arith, search.ranked j in_front, search.ranked k inside, ap (slice_index ranks) events_same)

-- the event at a place of the search, of whose entering activities the first j were looked at
pub record IsVisit (net : Network) (a : ℕ) (steps ranks : List ℕ) (at event : ℕ) (entering : List ℕ) (j : ℕ) : Type 0 where
  pub search : IsSearchBack net a steps ranks at
  pub queued : at < length steps
  pub here : from_of net.arcs (slice_index steps at) ≡ event
  pub seen : (i : ℕ) → i < j → slice_index ranks (from_of net.arcs (slice_index entering i)) ≢ 0

-- the next of them begins at an event that was found before
pub IsVisit-skip : (net : Network) (a : ℕ) (steps ranks : List ℕ) (at event : ℕ) (entering : List ℕ) (j : ℕ) →
    IsVisit net a steps ranks at event entering j → slice_index ranks (from_of net.arcs (slice_index entering j)) ≢ 0 →
    IsVisit net a steps ranks at event entering (j + 1)
IsVisit-skip net a steps ranks at event entering j visit known = record {
  search = visit.search;
  queued = visit.queued;
  here = visit.here;
  seen = λ i below. ⊎_elim
      (λ same. subst (λ x. slice_index ranks (from_of net.arcs (slice_index entering x)) ≢ 0) (sym same) known)
      (λ other. visit.seen i (omega arith))
      (cases_eq i j);
}

module _ (net : Network) (a : ℕ) (steps ranks : List ℕ) (at event : ℕ) (entering : List ℕ) (j : ℕ)
    (visit : IsVisit net a steps ranks at event entering j) (b v : ℕ) (is : slice_index entering j ≡ b) (b_in : b < length net.arcs)
    (ends : to_of net.arcs b ≡ event) (begins : from_of net.arcs b ≡ v) (v_in : v < net.events) (fresh : slice_index ranks v ≡ 0) where
  in_front : (k : ℕ) → k < length steps → slice_index (steps ++ b ∷ []) k ≡ slice_index steps k
  in_front k below = get_or_append_left steps (b ∷ []) 0 k below

  at_end : (k : ℕ) → k ≡ length steps → slice_index (steps ++ b ∷ []) k ≡ b
  at_end k same = get_or_push steps b 0 k (sym same)

  from_front : (k : ℕ) → k < length steps → from_of net.arcs (slice_index (steps ++ b ∷ []) k) ≡ from_of net.arcs (slice_index steps k)
  from_front k below = ap (from_of net.arcs) (in_front k below)

  from_end : (k : ℕ) → k ≡ length steps → from_of net.arcs (slice_index (steps ++ b ∷ []) k) ≡ v
  from_end k same = ap (from_of net.arcs) (at_end k same) ∙ begins

  rank_here : slice_index (set ranks v (length steps + 1)) v ≡ length steps + 1
  rank_here = get_or-set_same ranks v _ 0 (omega (arith, visit.search.ranks_len))

  rank_other : (w : ℕ) → w ≢ v → slice_index (set ranks v (length steps + 1)) w ≡ slice_index ranks w
  rank_other w other = get_or-set_other ranks v w _ 0 other

  -- what was found stays found
  stays : (w : ℕ) → slice_index ranks w ≢ 0 → slice_index (set ranks v (length steps + 1)) w ≢ 0
  stays w some none = ⊎_elim
      (λ same. omega (arith, rank_here, ap (slice_index (set ranks v (length steps + 1))) same, none))
      (λ other. some (sym (rank_other w other) ∙ none))
      (cases_eq w v)

  is_new : (k : ℕ) → k < length steps → from_of net.arcs (slice_index steps k) ≢ v
  is_new k below same = omega (arith, visit.search.ranked k below, ap (slice_index ranks) same, fresh)

  -- the next of them begins at an event that is found now
  pub IsVisit-find : IsVisit net a (steps ++ b ∷ []) (set ranks v (length steps + 1)) at event entering (j + 1)
  IsVisit-find = record {
    search = record {
      ranks_len = length-set ranks v _ ∙ visit.search.ranks_len;
      some = omega (arith, length_push steps b);
      begins = in_front 0 visit.search.some ∙ visit.search.begins;
      known = λ k below. ⊎_elim
          (λ same. omega (arith, at_end k same))
          (λ other. let front : k < length steps = omega (arith, length_push steps b) in omega (arith, in_front k front, visit.search.known k front))
          (cases_eq k (length steps));
      named = λ k below. ⊎_elim
          (λ same. omega (arith, from_end k same))
          (λ other. let front : k < length steps = omega (arith, length_push steps b) in omega (arith, from_front k front, visit.search.named k front))
          (cases_eq k (length steps));
      ranked = λ k below. ⊎_elim
          (λ same. ap (slice_index (set ranks v (length steps + 1))) (from_end k same) ∙ rank_here ∙ ap (λ n. n + 1) (sym same))
          (λ other. let front : k < length steps = omega (arith, length_push steps b) in
          ap (slice_index (set ranks v (length steps + 1))) (from_front k front) ∙ rank_other (from_of net.arcs (slice_index steps k)) (is_new k front) ∙ visit.search.ranked k front)
          (cases_eq k (length steps));
      found = λ w some. ⊎_elim
          (λ same. (length steps, omega (arith, length_push steps b), from_end (length steps) refl ∙ sym same))
          (λ other. let old = visit.search.found w (λ none. some (rank_other w other ∙ none)) in
          (old.0, omega (arith, old.1, length_push steps b), from_front old.0 old.1 ∙ old.2))
          (cases_eq w v);
      leads = λ k after below. ⊎_elim
          (λ same. (at, omega (arith, visit.queued), from_front at visit.queued ∙ visit.here ∙ sym ends ∙ ap (to_of net.arcs) (sym (at_end k same))))
          (λ other. let front : k < length steps = omega (arith, length_push steps b) in
          let old = visit.search.leads k after front in
          (old.0, old.1, from_front old.0 (omega (arith, old.1)) ∙ old.2 ∙ ap (to_of net.arcs) (sym (in_front k front))))
          (cases_eq k (length steps));
      closed = λ k c below c_in c_ends. stays (from_of net.arcs c) (visit.search.closed k c below c_in (c_ends ∙ from_front k (omega (arith, visit.queued))));
    };
    queued = omega (arith, visit.queued, length_push steps b);
    here = from_front at visit.queued ∙ visit.here;
    seen = λ i below. ⊎_elim
        (λ same none. omega (arith, rank_here, ap (slice_index (set ranks v (length steps + 1))) (ap (λ x. from_of net.arcs (slice_index entering x)) same ∙ ap (from_of net.arcs) is ∙ begins), none))
        (λ other. stays (from_of net.arcs (slice_index entering i)) (visit.seen i (omega arith)))
        (cases_eq i j);
  }

-- every event from which a walk leads to where the activity begins is found
pub found_from_walk : (net : Network) (a : ℕ) (steps ranks : List ℕ) → IsSearchBack net a steps ranks (length steps) → (e : ℕ) (walk : List ℕ) →
    IsWalk net.arcs e walk (from_of net.arcs a) → slice_index ranks e ≢ 0
found_from_walk net a steps ranks search e [] walked none =
    omega (arith, search.ranked 0 search.some, ap (λ x. slice_index ranks (from_of net.arcs x)) search.begins, ap (slice_index ranks) walked, none)
found_from_walk net a steps ranks search e (b ∷ walk) walked none =
    let rest = search.found (to_of net.arcs b) (found_from_walk net a steps ranks search (to_of net.arcs b) walk walked.2) in
    search.closed rest.0 b rest.1 walked.0 (sym rest.2) (ap (slice_index ranks) walked.1 ∙ none)

-- an activity of a cycle leads round to where it begins
pub way_round : (arcs : List Arc) (a : ℕ) → LiesOnCycle arcs a → (a < length arcs) × ((rest : List ℕ) × IsWalk arcs (to_of arcs a) rest (from_of arcs a))
way_round arcs a (cycle, (some, (e, walked)), (i, below, is)) =
    let (m, front, back) = split_walk_at arcs e e i cycle walked in
    let split : drop i cycle ≡ a ∷ drop (i + 1) cycle = drop_more cycle i 0 below ∙ ap (λ x. x ∷ drop (i + 1) cycle) is in
    let (a_in, begins, behind) = subst (λ xs. IsWalk arcs m xs e) split back in (
      a_in,
      (
        drop (i + 1) cycle ++ take i cycle,
        subst (IsWalk arcs (to_of arcs a) (drop (i + 1) cycle ++ take i cycle)) (sym begins)
            (IsWalk-append arcs (to_of arcs a) e m (drop (i + 1) cycle) (take i cycle) behind front),
      ),
    )

-- if the end of an activity was not found, it is on no cycle
pub off_cycle : (net : Network) (a : ℕ) (steps ranks : List ℕ) → IsSearchBack net a steps ranks (length steps) → slice_index ranks (to_of net.arcs a) ≡ 0 → LiesOnCycle net.arcs a → ⊥
off_cycle net a steps ranks search none lies =
    let (rest, walked) = (way_round net.arcs a lies).1 in
    found_from_walk net a steps ranks search (to_of net.arcs a) rest walked none

-- the way back is followed up to an event of this rank
pub record IsWayBack (net : Network) (a : ℕ) (steps ranks cycle : List ℕ) (rank : ℕ) : Type 0 where
  pub some : 0 < length cycle
  pub begins : slice_index cycle 0 ≡ a
  pub place : ℕ
  pub rank_is : rank ≡ place + 1
  pub place_in : place < length steps
  pub walked : IsWalk net.arcs (from_of net.arcs a) cycle (from_of net.arcs (slice_index steps place))
  pub falls : (i : ℕ) → 0 < i → i < length cycle → rank < slice_index ranks (from_of net.arcs (slice_index cycle i))
  pub once : MeetsOnce net.arcs cycle

-- it continues by the step that leaves the event
pub IsWayBack-step : (net : Network) (a : ℕ) (steps ranks cycle : List ℕ) (rank step next : ℕ) → IsSearchBack net a steps ranks (length steps) →
    IsWayBack net a steps ranks cycle rank → 1 < rank → (k : ℕ) → k + 1 ≡ rank → step ≡ slice_index steps k →
    next ≡ slice_index ranks (to_of net.arcs step) → IsWayBack net a steps ranks (cycle ++ step ∷ []) next × (next < rank)
IsWayBack-step net a steps ranks cycle rank step next search way more k k_is step_is next_is =
    let (j, before, at) = search.leads k (omega arith) k_in in
    let to_at : from_of net.arcs (slice_index steps j) ≡ to_of net.arcs step = at ∙ ap (to_of net.arcs) (sym step_is) in
    let next_rank : next ≡ j + 1 = next_is ∙ ap (slice_index ranks) (sym to_at) ∙ search.ranked j (omega arith) in
    let longer : IsWalk net.arcs (from_of net.arcs a) (cycle ++ step ∷ []) (to_of net.arcs step) =
    IsWalk-push net.arcs (from_of net.arcs a) (from_of net.arcs (slice_index steps k)) cycle step walked_k step_in
    (ap (from_of net.arcs) step_is) in (
      record {
        some = omega (arith, length_push cycle step);
        begins = in_front 0 way.some ∙ way.begins;
        place = j;
        rank_is = next_rank;
        place_in = omega arith;
        walked = subst (IsWalk net.arcs (from_of net.arcs a) (cycle ++ step ∷ [])) (sym to_at) longer;
        falls = λ i after below. ⊎_elim
            (λ same. omega (arith, ap (λ x. slice_index ranks (from_of net.arcs x)) (at_end i same), rank_step))
            (λ other. let front : i < length cycle = omega (arith, length_push cycle step) in
            omega (arith, ap (λ x. slice_index ranks (from_of net.arcs x)) (in_front i front), way.falls i after front))
            (cases_eq i (length cycle));
        once = once_more;
      },
      omega arith,
    )
  where
    place_k : way.place ≡ k
    place_k = omega (arith, way.rank_is)

    k_in : k < length steps
    k_in = omega (arith, way.rank_is, way.place_in)

    step_in : step < length net.arcs
    step_in = omega (arith, step_is, search.known k k_in)

    walked_k : IsWalk net.arcs (from_of net.arcs a) cycle (from_of net.arcs (slice_index steps k))
    walked_k = subst (λ x. IsWalk net.arcs (from_of net.arcs a) cycle (from_of net.arcs (slice_index steps x))) place_k way.walked

    rank_step : slice_index ranks (from_of net.arcs step) ≡ rank
    rank_step = ap (λ x. slice_index ranks (from_of net.arcs x)) step_is ∙ search.ranked k k_in ∙ k_is

    in_front : (i : ℕ) → i < length cycle → slice_index (cycle ++ step ∷ []) i ≡ slice_index cycle i
    in_front i below = get_or_append_left cycle (step ∷ []) 0 i below

    at_end : (i : ℕ) → i ≡ length cycle → slice_index (cycle ++ step ∷ []) i ≡ step
    at_end i same = get_or_push cycle step 0 i (sym same)

    -- the step leaves none of the events that the way left before
    is_new : (i : ℕ) → i < length cycle → from_of net.arcs (slice_index cycle i) ≢ from_of net.arcs step
    is_new zero below same = omega (
      arith,
      rank_step,
      ap (slice_index ranks) same,
      ap (λ x. slice_index ranks (from_of net.arcs x)) way.begins,
      search.ranked 0 search.some,
      ap (λ x. slice_index ranks (from_of net.arcs x)) search.begins,
    )
    is_new (suc i) below same = omega (arith, rank_step, ap (slice_index ranks) same, way.falls (suc i) (omega arith) below)

    once_more : MeetsOnce net.arcs (cycle ++ step ∷ [])
    once_more i j before below same = ⊎_elim
        (λ last. let front : i < length cycle = omega arith in is_new i front (sym (ap (from_of net.arcs) (in_front i front)) ∙ same ∙ ap (from_of net.arcs) (at_end j last)))
        (λ other. let front : j < length cycle = omega (arith, length_push cycle step) in
        way.once i j before front (sym (ap (from_of net.arcs) (in_front i (omega arith))) ∙ same
        ∙ ap (from_of net.arcs) (in_front j front)))
        (cases_eq j (length cycle))

-- a list that is not empty has a first element
nonempty : (xs : List ℕ) → xs ≢ [] → 0 < length xs
nonempty [] some = absurd (some refl)
nonempty (x ∷ xs) some = omega arith

-- if no earlier activity is on a cycle, a cycle that begins with this one is the first
pub IsFirstCycle-from_round : (arcs : List Arc) (a : ℕ) (cycle : List ℕ) → IsRound arcs a cycle → ((b : ℕ) → b < a → LiesOnCycle arcs b → ⊥) → IsFirstCycle arcs cycle
IsFirstCycle-from_round arcs a cycle round none = record {
  cycle = round.cycle;
  once = round.once;
  first = record {
    holds = (cycle, round.cycle, (0, nonempty cycle round.cycle.0, refl));
    first = λ b before. none b (omega (arith, round.begins));
  };
}

-- some activity is on a cycle
pub LiesOnCycle-from_cycle : (arcs : List Arc) (cycle : List ℕ) → IsCycle arcs cycle → LiesOnCycle arcs (slice_index cycle 0)
LiesOnCycle-from_cycle arcs cycle is = (cycle, is, (0, nonempty cycle is.0, refl))
