-- The queue of events: how it begins, what crossing an activity does to it, and what holds when all are crossed.
use Rattle.std.proofs.Common.{◌≡◌, ◌≢◌, ℕ, ◌+◌, ◌-◌, ◌<◌, ◌≤◌, ◌==◌, List, [], ◌∷◌, ◌++◌, length, slice_index, set, cond, count_by, refl, sym, ◌∙◌, ap, subst, ◌⊎◌, inl, inr, ⊎_elim, arith}
use Rattle.std.proofs.lemmas.Bool.{cases_eq}
use Rattle.std.proofs.lemmas.List.{get_or-set_same, get_or-set_other, length-set, get_or_append_left, get_or_push, length_push}
use Rattle.pc_model.specs.Greatest.{StandsBelow}
use Rattle.pc_model.specs.inside.Greatest.{IsListed}
use Rattle.pc_model.specs.Walk.{from_of, to_of}
use Rattle.pc_model.specs.Network.{Network, IsPartOrder}
use Rattle.pc_model.proofs.Walks.ListedLaws.{StandsBelow-more, StandsBelow-push, StandsBelow-unpush, StandsBelow-last}
use Rattle.pc_net.specs.declared.graph.Side.TheVariants.{Ends}
use Rattle.pc_net.specs.inside.Sides.{events_of}
use Rattle.pc_net.specs.inside.Queue.{AreEntering, IsWaiting, IsQueue, IsBlocked}
use Rattle.pc_net.proofs.SideLaws.{events_of_at, length-events_of}
use Rattle.pc_net.proofs.CountLaws.{one_at_same, one_at_other, count-set, count_none, count_some}

-- the same activities are crossed, said in another way
pub IsWaiting-same : (net : Network) (order missing waits : List ℕ) (C D : ℕ → Type 0) → IsWaiting net order missing waits C →
    ((a : ℕ) → a < length net.arcs → C a → D a) → ((a : ℕ) → a < length net.arcs → D a → C a) → IsWaiting net order missing waits D
IsWaiting-same net order missing waits C D waiting there back = record {
  missing_len = waiting.missing_len;
  waits_len = waiting.waits_len;
  counted = waiting.counted;
  waits_for = λ a below. ⊎_elim (λ crossed. inl (there a below crossed.0, crossed.1)) (λ waits. inr ((λ d. waits.0 (back a below d)), waits.1)) (waiting.waits_for a below);
  part = waiting.part;
  free = waiting.free;
  placed = waiting.placed;
}

-- nothing is crossed yet, and the events that nothing enters are in the queue
pub IsQueue-start : (net : Network) (counts order : List ℕ) → AreEntering net counts → IsListed (λ v. slice_index counts v ≡ 0) (length counts) order → IsQueue net order counts 0
IsQueue-start net counts order entering listed = (
  omega arith,
  (
    events_of Ends net.arcs,
    record {
      missing_len = entering.counts_len;
      waits_len = length-events_of Ends net.arcs;
      counted = entering.count;
      waits_for = λ a below. inr ((λ stands. absurd (omega (arith, stands.1))), events_of_at Ends net.arcs a below);
      part = record {
        range = λ k below. omega (arith, entering.counts_len, (listed.each k below).0);
        once = λ j k before below same. omega (arith, listed.rising j k before below);
        before = λ k a below a_in ends. absurd
            (count_none (slice_index order k) (events_of Ends net.arcs)
            (sym (entering.count (slice_index order k) (omega (arith, entering.counts_len, (listed.each k below).0)))
            ∙ (listed.each k below).1) a (omega (arith, length-events_of Ends net.arcs)) (events_of_at Ends net.arcs a a_in ∙ ends));
      };
      free = λ k below. (listed.each k below).1;
      placed = λ v known none. listed.every v (omega (arith, entering.counts_len)) none;
    },
  ),
)

-- all events of the queue are crossed, and those that are left are entered from one another
pub IsBlocked-end : (net : Network) (order missing : List ℕ) (at : ℕ) → IsQueue net order missing at → length order ≤ at → IsBlocked net order
IsBlocked-end net order missing at queue past v known away =
    let waits = queue.1.0 in
    let waiting = queue.1.1 in
    let entered : slice_index missing v ≢ 0 = λ none. (let stands = waiting.placed v known none in away stands.0 stands.1 stands.2) in
    let stands = count_some v waits (λ none. entered (waiting.counted v known ∙ none)) in
    let a = stands.0 in
    let below : a < length net.arcs = omega (arith, stands.1, waiting.waits_len) in
    ⊎_elim (λ crossed. absurd (omega (arith, crossed.1, stands.2)))
    (λ waits_here. (a, below, sym waits_here.1 ∙ stands.2, λ k k_in is. waits_here.0 (k, omega arith, is)))
    (waiting.waits_for a below)

module _ (net : Network) (order missing waits : List ℕ) (C : ℕ → Type 0) (a w : ℕ) (waiting : IsWaiting net order missing waits C)
    (a_in : a < length net.arcs) (ends : to_of net.arcs a ≡ w) (w_in : w < net.events) (fresh : C a → ⊥) (inside : (k : ℕ) →
    k < length net.arcs → C k → StandsBelow order (length order) (from_of net.arcs k))
    (begins : StandsBelow order (length order) (from_of net.arcs a)) where
  -- the activity waits for its end
  waits_here : slice_index waits a ≡ w
  waits_here = ⊎_elim (λ crossed. absurd (fresh crossed.0)) (λ waits_on. waits_on.1 ∙ ends) (waiting.waits_for a a_in)

  -- crossing it takes 1 off the count at its end
  count_there : (v : ℕ) → v < net.events → count_by (λ u. u == v) (set waits a net.events) + cond (w == v) 1 0 ≡ slice_index missing v
  count_there v known =
      omega (
        arith,
        count-set v waits a net.events (omega (arith, waiting.waits_len)),
        one_at_other v net.events (λ same. omega arith),
        waiting.counted v known,
        ap (λ u. cond {A = ℕ} (u == v) 1 0) waits_here,
      )

  -- so something entered the event
  pub was_entered : 1 ≤ slice_index missing w
  was_entered = omega (arith, count_there w w_in, one_at_same w w refl)

  missing_same : slice_index (set missing w (slice_index missing w - 1)) w ≡ slice_index missing w - 1
  missing_same = get_or-set_same missing w _ 0 (omega (arith, waiting.missing_len))

  missing_other : (v : ℕ) → v ≢ w → slice_index (set missing w (slice_index missing w - 1)) v ≡ slice_index missing v
  missing_other v other = get_or-set_other missing w v _ 0 other

  counted_now : (v : ℕ) → v < net.events → slice_index (set missing w (slice_index missing w - 1)) v ≡ count_by (λ u. u == v) (set waits a net.events)
  counted_now v known = ⊎_elim
      (λ same. ap (slice_index (set missing w (slice_index missing w - 1))) same ∙ missing_same
      ∙ omega (arith, count_there w w_in, one_at_same w w refl, ap (λ x. count_by (λ u. u == x) (set waits a net.events)) same))
      (λ other. omega (arith, missing_other v other, count_there v known, one_at_other v w (λ e. other (sym e))))
      (cases_eq v w)

  waits_now : (k : ℕ) → k < length net.arcs → ((C k ⊎ (k ≡ a)) × (slice_index (set waits a net.events) k ≡ net.events))
      ⊎ (((C k ⊎ (k ≡ a)) → ⊥) × (slice_index (set waits a net.events) k ≡ to_of net.arcs k))
  waits_now k below = ⊎_elim
      (λ same. inl (inr same, ap (slice_index (set waits a net.events)) same ∙ get_or-set_same waits a _ 0 (omega (arith, waiting.waits_len))))
      (λ other. ⊎_elim
      (λ crossed. inl (inl crossed.0, get_or-set_other waits a k _ 0 other ∙ crossed.1))
      (λ waits_on. inr ((λ now. ⊎_elim waits_on.0 other now), get_or-set_other waits a k _ 0 other ∙ waits_on.1))
      (waiting.waits_for k below))
      (cases_eq k a)

  free_before : (k : ℕ) → k < length order → slice_index order k ≢ w
  free_before k below same = omega (arith, was_entered, ap (slice_index missing) same, waiting.free k below)

  -- another activity still enters the event where it ends
  pub IsWaiting-cross : slice_index missing w - 1 ≢ 0 → IsWaiting net order (set missing w (slice_index missing w - 1)) (set waits a net.events) (λ k. C k ⊎ (k ≡ a))
  IsWaiting-cross more = record {
    missing_len = length-set missing w _ ∙ waiting.missing_len;
    waits_len = length-set waits a _ ∙ waiting.waits_len;
    counted = counted_now;
    waits_for = waits_now;
    part = waiting.part;
    free = λ k below. missing_other (slice_index order k) (free_before k below) ∙ waiting.free k below;
    placed = λ v known none. ⊎_elim
        (λ same. absurd (more (sym missing_same ∙ ap (slice_index (set missing w (slice_index missing w - 1))) (sym same) ∙ none)))
        (λ other. waiting.placed v known (sym (missing_other v other) ∙ none))
        (cases_eq v w);
  }

  in_front : (k : ℕ) → k < length order → slice_index (order ++ w ∷ []) k ≡ slice_index order k
  in_front k below = get_or_append_left order (w ∷ []) 0 k below

  at_end : (k : ℕ) → k ≡ length order → slice_index (order ++ w ∷ []) k ≡ w
  at_end k same = get_or_push order w 0 k (sym same)

  -- each activity that enters the event is crossed, and so begins in the order
  all_crossed : slice_index missing w - 1 ≡ 0 → (k : ℕ) → k < length net.arcs → to_of net.arcs k ≡ w → StandsBelow order (length order) (from_of net.arcs k)
  all_crossed none k below is = ⊎_elim
      (λ crossed. ⊎_elim (λ before. inside k below before) (λ same. subst (λ x. StandsBelow order (length order) (from_of net.arcs x)) (sym same) begins) crossed.0)
      (λ waits_on. absurd (count_none w (set waits a net.events) (sym (counted_now w w_in) ∙ missing_same ∙ none) k
      (omega (arith, length-set waits a net.events, waiting.waits_len)) (waits_on.1 ∙ is)))
      (waits_now k below)

  part_now : slice_index missing w - 1 ≡ 0 → IsPartOrder net (order ++ w ∷ [])
  part_now none = record {
    range = λ k below. ⊎_elim
        (λ same. omega (arith, at_end k same))
        (λ other. let front : k < length order = omega (arith, length_push order w) in omega (arith, in_front k front, waiting.part.range k front))
        (cases_eq k (length order));
    once = λ j k before below same. ⊎_elim
        (λ last. let front : j < length order = omega arith in free_before j front (sym (in_front j front) ∙ same ∙ at_end k last))
        (λ other. let front : k < length order = omega (arith, length_push order w) in waiting.part.once j k before front (sym (in_front j (omega arith)) ∙ same ∙ in_front k front))
        (cases_eq k (length order));
    before = λ k b below b_in is. ⊎_elim
        (λ last. StandsBelow-push order w k (from_of net.arcs b) (subst (λ n. StandsBelow order n (from_of net.arcs b)) (sym last) (all_crossed none b b_in (is ∙ at_end k last))) (omega arith))
        (λ other. let front : k < length order = omega (arith, length_push order w) in
        StandsBelow-push order w k (from_of net.arcs b) (waiting.part.before k b front b_in (is ∙ in_front k front)) (omega arith))
        (cases_eq k (length order));
  }

  -- it was the last to enter the event where it ends, which is appended to the queue
  pub IsWaiting-push : slice_index missing w - 1 ≡ 0 → IsWaiting net (order ++ w ∷ []) (set missing w (slice_index missing w - 1)) (set waits a net.events) (λ k. C k ⊎ (k ≡ a))
  IsWaiting-push none = record {
    missing_len = length-set missing w _ ∙ waiting.missing_len;
    waits_len = length-set waits a _ ∙ waiting.waits_len;
    counted = counted_now;
    waits_for = waits_now;
    part = part_now none;
    free = λ k below. ⊎_elim
        (λ same. ap (slice_index (set missing w (slice_index missing w - 1))) (at_end k same) ∙ missing_same ∙ none)
        (λ other. let front : k < length order = omega (arith, length_push order w) in
        ap (slice_index (set missing w (slice_index missing w - 1))) (in_front k front) ∙ missing_other (slice_index order k) (free_before k front) ∙ waiting.free k front)
        (cases_eq k (length order));
    placed = λ v known gone. ⊎_elim
        (λ same. subst (StandsBelow (order ++ w ∷ []) (length (order ++ w ∷ []))) (sym same) (StandsBelow-last order w))
        (λ other. StandsBelow-more (order ++ w ∷ []) (length order) (length (order ++ w ∷ [])) v
        (StandsBelow-push order w (length order) v (waiting.placed v known (sym (missing_other v other) ∙ gone)) (omega arith))
        (omega (arith, length_push order w)))
        (cases_eq v w);
  }

-- the event at a place of the queue, of whose activities the first j are crossed
pub record IsCrossing (net : Network) (order missing : List ℕ) (at event : ℕ) (leaving : List ℕ) (j : ℕ) : Type 0 where
  pub queued : at < length order
  pub here : slice_index order at ≡ event
  pub waits : List ℕ
  pub waiting : IsWaiting net order missing waits (λ a. StandsBelow order at (from_of net.arcs a) ⊎ StandsBelow leaving j a)

-- all of them are crossed
pub IsQueue-next : (net : Network) (order missing : List ℕ) (at event : ℕ) (leaving : List ℕ) (j : ℕ) →
    IsListed (λ a. from_of net.arcs a ≡ event) (length net.arcs) leaving → IsCrossing net order missing at event leaving j →
    j ≡ length leaving → IsQueue net order missing (at + 1)
IsQueue-next net order missing at event leaving j listed crossing done =
    (omega (arith, crossing.queued), (crossing.waits, IsWaiting-same net order missing crossing.waits _ _ crossing.waiting there back))
  where
    there : (a : ℕ) → a < length net.arcs → StandsBelow order at (from_of net.arcs a) ⊎ StandsBelow leaving j a → StandsBelow order (at + 1) (from_of net.arcs a)
    there a below = ⊎_elim
        (λ before. StandsBelow-more order at (at + 1) _ before (omega arith))
        (λ out. (at, omega arith, crossing.here ∙ sym (leaves out)))
      where
        leaves : StandsBelow leaving j a → from_of net.arcs a ≡ event
        leaves out = subst (λ k. from_of net.arcs k ≡ event) out.2 (listed.each out.0 (omega (arith, out.1, done))).1

    back : (a : ℕ) → a < length net.arcs → StandsBelow order (at + 1) (from_of net.arcs a) → StandsBelow order at (from_of net.arcs a) ⊎ StandsBelow leaving j a
    back a below stands = ⊎_elim
        (λ same. inr (StandsBelow-more leaving (length leaving) j a (listed.every a below (sym stands.2 ∙ ap (slice_index order) same ∙ crossing.here)) (omega arith)))
        (λ other. inl (stands.0, omega (arith, stands.1), stands.2))
        (cases_eq stands.0 at)

module _ (net : Network) (order missing : List ℕ) (at event : ℕ) (leaving : List ℕ) (j : ℕ)
    (listed : IsListed (λ a. from_of net.arcs a ≡ event) (length net.arcs) leaving)
    (crossing : IsCrossing net order missing at event leaving j) (below : j < length leaving) (a w : ℕ) (is : slice_index leaving j ≡ a)
    (ends : to_of net.arcs a ≡ w) (w_in : w < net.events) where
  a_in : a < length net.arcs
  a_in = omega (arith, (listed.each j below).0, is)

  a_begins : from_of net.arcs a ≡ event
  a_begins = subst (λ k. from_of net.arcs k ≡ event) is (listed.each j below).1

  not_crossed : StandsBelow order at (from_of net.arcs a) ⊎ StandsBelow leaving j a → ⊥
  not_crossed = ⊎_elim
      (λ before. crossing.waiting.part.once before.0 at before.1 crossing.queued (before.2 ∙ a_begins ∙ sym crossing.here))
      (λ out. omega (arith, listed.rising out.0 j out.1 below, out.2, is))

  crossed_within : (k : ℕ) → k < length net.arcs → StandsBelow order at (from_of net.arcs k) ⊎ StandsBelow leaving j k → StandsBelow order (length order) (from_of net.arcs k)
  crossed_within k k_in = ⊎_elim
      (λ before. StandsBelow-more order at (length order) _ before (omega (arith, crossing.queued)))
      (λ out. (at, crossing.queued, crossing.here ∙ sym (subst (λ b. from_of net.arcs b ≡ event) out.2 (listed.each out.0 (omega (arith, out.1))).1)))

  begins_within : StandsBelow order (length order) (from_of net.arcs a)
  begins_within = (at, crossing.queued, crossing.here ∙ sym a_begins)

  out_more : (k : ℕ) → StandsBelow leaving j k ⊎ (k ≡ a) → StandsBelow leaving (j + 1) k
  out_more k = ⊎_elim (λ out. StandsBelow-more leaving j (j + 1) k out (omega arith)) (λ same. (j, omega arith, is ∙ sym same))

  out_less : (k : ℕ) → StandsBelow leaving (j + 1) k → StandsBelow leaving j k ⊎ (k ≡ a)
  out_less k out = ⊎_elim
      (λ last. inr (sym out.2 ∙ ap (slice_index leaving) last ∙ is))
      (λ other. inl (out.0, omega (arith, out.1), out.2))
      (cases_eq out.0 j)

  -- something entered the event where the next activity ends
  pub IsCrossing-entered : 1 ≤ slice_index missing w
  IsCrossing-entered = was_entered net order missing crossing.waits _ a w crossing.waiting a_in ends w_in not_crossed crossed_within begins_within

  -- the next activity is crossed, and another still enters the event where it ends
  pub IsCrossing-cross : slice_index missing w - 1 ≢ 0 → IsCrossing net order (set missing w (slice_index missing w - 1)) at event leaving (j + 1)
  IsCrossing-cross more = record {
    queued = crossing.queued;
    here = crossing.here;
    waits = set crossing.waits a net.events;
    waiting = IsWaiting-same net order _ _ _ _ (IsWaiting-cross net order missing crossing.waits _ a w crossing.waiting a_in ends w_in not_crossed crossed_within begins_within more)
        (λ k k_in. ⊎_elim (⊎_elim (λ before. inl before) (λ out. inr (out_more k (inl out)))) (λ same. inr (out_more k (inr same))))
        (λ k k_in. ⊎_elim (λ before. inl (inl before)) (λ out. ⊎_elim (λ old. inl (inr old)) (λ same. inr same) (out_less k out)));
  }

  -- the next activity is crossed, and the event where it ends is appended to the queue
  pub IsCrossing-push : slice_index missing w - 1 ≡ 0 → IsCrossing net (order ++ w ∷ []) (set missing w (slice_index missing w - 1)) at event leaving (j + 1)
  IsCrossing-push none = record {
    queued = omega (arith, crossing.queued, length_push order w);
    here = get_or_append_left order (w ∷ []) 0 at crossing.queued ∙ crossing.here;
    waits = set crossing.waits a net.events;
    waiting = IsWaiting-same net (order ++ w ∷ []) _ _ _ _ (IsWaiting-push net order missing crossing.waits _ a w crossing.waiting a_in ends w_in not_crossed crossed_within begins_within none)
        (λ k k_in. ⊎_elim (⊎_elim (λ before. inl (StandsBelow-push order w at _ before (omega (arith, crossing.queued)))) (λ out. inr (out_more k (inl out)))) (λ same. inr (out_more k (inr same))))
        (λ k k_in. ⊎_elim (λ before. inl (inl (StandsBelow-unpush order w at _ before (omega (arith, crossing.queued))))) (λ out. ⊎_elim (λ old. inl (inr old)) (λ same. inr same) (out_less k out)));
  }
