-- Labels that never fall along an activity: how they spread, and what they say of cycles.
use Rattle.std.proofs.Common.{◌≡◌, ◌≢◌, ℕ, ◌+◌, ◌<◌, ◌≤◌, ◌⊎◌, List, [], ◌∷◌, ◌++◌, length, replicate, slice_index, set, refl, sym, ◌∙◌, ap, subst, inl, inr, ⊎_elim, arith}
use Rattle.std.proofs.lemmas.Bool.{cases_eq, cases_lt}
use Rattle.std.proofs.lemmas.List.{get_or-replicate, get_or-set_same, get_or-set_other, get_or_past, length-replicate, length-set, get_or_append_left, get_or_push, length_push}
use Rattle.pc_model.specs.declared.Arc.{Arc}
use Rattle.pc_model.specs.inside.Greatest.{IsListed}
use Rattle.pc_model.specs.Walk.{from_of, to_of, IsWalk}
use Rattle.pc_model.specs.Network.{Network}
use Rattle.pc_model.proofs.Walks.OrderLaws.{room_below}
use Rattle.pc_net.specs.Cycles.{LiesOnCycle}
use Rattle.pc_net.specs.inside.Labels.{IsQueued, AreSpreadLabels, NeverFalls}
use Rattle.pc_net.proofs.SearchLaws.{way_round}

-- nor do they along a walk
never_fall_along : (arcs : List Arc) (labels : List ℕ) → NeverFalls arcs labels → (e f : ℕ) (walk : List ℕ) → IsWalk arcs e walk f → slice_index labels e ≤ slice_index labels f
never_fall_along arcs labels rising e f [] walked = omega (arith, ap (slice_index labels) walked)
never_fall_along arcs labels rising e f (a ∷ walk) walked =
    omega (arith, rising a walked.0, ap (slice_index labels) walked.1, never_fall_along arcs labels rising (to_of arcs a) f walk walked.2)

-- an activity between events of different labels is on no cycle
pub apart_off_cycle : (arcs : List Arc) (labels : List ℕ) (a : ℕ) → NeverFalls arcs labels → slice_index labels (from_of arcs a) ≢ slice_index labels (to_of arcs a) → LiesOnCycle arcs a → ⊥
apart_off_cycle arcs labels a rising apart lies =
    let (a_in, (rest, walked)) = way_round arcs a lies in
    apart (omega (arith, rising a a_in, never_fall_along arcs labels rising (to_of arcs a) (from_of arcs a) rest walked))

-- nothing is reached yet
pub AreSpreadLabels-start : (net : Network) (label : ℕ) (labels : List ℕ) → length labels ≡ net.events → ((v : ℕ) → slice_index labels v ≡ 0) → 0 < label → AreSpreadLabels net label [] labels 0
AreSpreadLabels-start net label labels sized cleared some = record {
  labels_len = sized;
  some = some;
  within = omega arith;
  range = λ k below. absurd (omega arith);
  once = λ j k before below. absurd (omega arith);
  labelled = λ k below. absurd (omega arith);
  last = λ k from below. absurd (omega arith);
  least = λ v labelled. absurd (labelled (cleared v));
  follows = λ a below. inl (omega (arith, cleared (from_of net.arcs a)));
}

-- nor where none has been reached, and each event has the label 0
pub AreSpreadLabels-fresh : (net : Network) (label : ℕ) (reached labels : List ℕ) → reached ≡ [] → labels ≡ replicate net.events 0 → 0 < label → AreSpreadLabels net label reached labels
    (length reached)
AreSpreadLabels-fresh net label reached labels none made some =
    rw (none, made) (AreSpreadLabels-start net label (replicate net.events 0) (length-replicate {A = ℕ} net.events 0) cleared some)
  where
    cleared : (v : ℕ) → slice_index (replicate net.events 0) v ≡ 0
    cleared v = ⊎_elim
        (λ below. get_or-replicate net.events v 0 0 below)
        (λ past. get_or_past (replicate net.events 0) v 0 (omega (arith, length-replicate {A = ℕ} net.events 0)))
        (cases_lt v net.events)

-- between two rounds the label may fall
pub AreSpreadLabels-lower : (net : Network) (label lower : ℕ) (reached labels : List ℕ) → AreSpreadLabels net label reached labels (length reached) →
    0 < lower → lower ≤ label → AreSpreadLabels net lower reached labels (length reached)
AreSpreadLabels-lower net label lower reached labels spread some below = record {
  labels_len = spread.labels_len;
  some = some;
  within = spread.within;
  range = spread.range;
  once = spread.once;
  labelled = λ k inside. omega (arith, spread.labelled k inside);
  last = λ k from inside. absurd (omega arith);
  least = λ v labelled. omega (arith, spread.least v labelled);
  follows = spread.follows;
}

-- where nothing is left to cross, the labels never fall
pub NeverFalls-from_spread : (net : Network) (label : ℕ) (reached labels : List ℕ) → AreSpreadLabels net label reached labels (length reached) → NeverFalls net.arcs labels
NeverFalls-from_spread net label reached labels spread a below =
    ⊎_elim (λ rises. rises) (λ queued. absurd (omega (arith, queued.1, queued.2))) (spread.follows a below)

-- the events reached are different, and so no more than there are
pub AreSpreadLabels-short : (net : Network) (label : ℕ) (reached labels : List ℕ) (at : ℕ) → AreSpreadLabels net label reached labels at → length reached ≤ net.events
AreSpreadLabels-short net label reached labels at spread =
    room_below reached net.events spread.range spread.once

module _ (net : Network) (label : ℕ) (reached labels : List ℕ) (at : ℕ) (spread : AreSpreadLabels net label reached labels at) (w : ℕ) (w_in : w < net.events) (fresh : slice_index labels w ≡ 0) where
  in_front : (k : ℕ) → k < length reached → slice_index (reached ++ w ∷ []) k ≡ slice_index reached k
  in_front k below = get_or_append_left reached (w ∷ []) 0 k below

  at_end : (k : ℕ) → k ≡ length reached → slice_index (reached ++ w ∷ []) k ≡ w
  at_end k same = get_or_push reached w 0 k (sym same)

  label_here : (v : ℕ) → v ≡ w → slice_index (set labels w label) v ≡ label
  label_here v same = ap (slice_index (set labels w label)) same ∙ get_or-set_same labels w label 0 (omega (arith, spread.labels_len))

  label_other : (v : ℕ) → v ≢ w → slice_index (set labels w label) v ≡ slice_index labels v
  label_other v other = get_or-set_other labels w v label 0 other

  is_new : (k : ℕ) → k < length reached → slice_index reached k ≢ w
  is_new k below same = omega (arith, spread.some, spread.labelled k below, ap (slice_index labels) same, fresh)

  label_front : (k : ℕ) → k < length reached → slice_index (set labels w label) (slice_index (reached ++ w ∷ []) k) ≡ slice_index labels (slice_index reached k)
  label_front k below = ap (slice_index (set labels w label)) (in_front k below) ∙ label_other (slice_index reached k) (is_new k below)

  -- no label falls
  pub label_more : (v : ℕ) → slice_index labels v ≤ slice_index (set labels w label) v
  label_more v = ⊎_elim
      (λ same. omega (arith, ap (slice_index labels) same, fresh))
      (λ other. omega (arith, label_other v other))
      (cases_eq v w)

  queued_still : (v : ℕ) → IsQueued reached at v → IsQueued (reached ++ w ∷ []) at v
  queued_still v (k, from, below, is) = (k, from, omega (arith, length_push reached w), in_front k below ∙ is)

  -- an event without a label gets this one, and is appended to those reached
  pub AreSpreadLabels-push : AreSpreadLabels net label (reached ++ w ∷ []) (set labels w label) at
  AreSpreadLabels-push = record {
    labels_len = length-set labels w label ∙ spread.labels_len;
    some = spread.some;
    within = omega (arith, spread.within, length_push reached w);
    range = λ k below. ⊎_elim
        (λ same. omega (arith, at_end k same))
        (λ other. let front : k < length reached = omega (arith, length_push reached w) in omega (arith, in_front k front, spread.range k front))
        (cases_eq k (length reached));
    once = λ j k before below same. ⊎_elim
        (λ last. let front : j < length reached = omega arith in is_new j front (sym (in_front j front) ∙ same ∙ at_end k last))
        (λ other. let front : k < length reached = omega (arith, length_push reached w) in spread.once j k before front (sym (in_front j (omega arith)) ∙ same ∙ in_front k front))
        (cases_eq k (length reached));
    labelled = λ k below. ⊎_elim
        (λ same. omega (arith, label_here _ (at_end k same)))
        (λ other. let front : k < length reached = omega (arith, length_push reached w) in omega (arith, label_front k front, spread.labelled k front))
        (cases_eq k (length reached));
    last = λ k from below. ⊎_elim
        (λ same. label_here _ (at_end k same))
        (λ other. let front : k < length reached = omega (arith, length_push reached w) in label_front k front ∙ spread.last k from front)
        (cases_eq k (length reached));
    least = λ v some. ⊎_elim
        (λ same. omega (arith, label_here v same))
        (λ other. omega (arith, label_other v other, spread.least v (λ none. some (label_other v other ∙ none))))
        (cases_eq v w);
    follows = λ a below. ⊎_elim
        (λ same. inr (length reached, spread.within, omega (arith, length_push reached w), at_end (length reached) refl ∙ sym same))
        (λ other. ⊎_elim
        (λ rises. inl (omega (arith, rises, label_other (from_of net.arcs a) other, label_more (to_of net.arcs a))))
        (λ queued. inr (queued_still (from_of net.arcs a) queued))
        (spread.follows a below))
        (cases_eq (from_of net.arcs a) w);
  }

-- the event at a place among those reached, of whose leaving activities the first j are crossed
pub record IsSpreading (net : Network) (label : ℕ) (reached labels : List ℕ) (at event : ℕ) (leaving : List ℕ) (j : ℕ) : Type 0 where
  pub spread : AreSpreadLabels net label reached labels at
  pub queued : at < length reached
  pub here : slice_index reached at ≡ event
  pub crossed : (i : ℕ) → i < j → label ≤ slice_index labels (to_of net.arcs (slice_index leaving i))

-- the next of them ends at an event that has a label
pub IsSpreading-skip : (net : Network) (label : ℕ) (reached labels : List ℕ) (at event : ℕ) (leaving : List ℕ) (j : ℕ) →
    IsSpreading net label reached labels at event leaving j → slice_index labels (to_of net.arcs (slice_index leaving j)) ≢ 0 →
    IsSpreading net label reached labels at event leaving (j + 1)
IsSpreading-skip net label reached labels at event leaving j spreading some = record {
  spread = spreading.spread;
  queued = spreading.queued;
  here = spreading.here;
  crossed = λ i below. ⊎_elim
      (λ same. subst (λ x. label ≤ slice_index labels (to_of net.arcs (slice_index leaving x))) (sym same) (spreading.spread.least _ some))
      (λ other. spreading.crossed i (omega arith))
      (cases_eq i j);
}

-- the next of them ends at an event that gets the label now
pub IsSpreading-push : (net : Network) (label : ℕ) (reached labels : List ℕ) (at event : ℕ) (leaving : List ℕ) (j w : ℕ) →
    IsSpreading net label reached labels at event leaving j → to_of net.arcs (slice_index leaving j) ≡ w → w < net.events →
    slice_index labels w ≡ 0 → IsSpreading net label (reached ++ w ∷ []) (set labels w label) at event leaving (j + 1)
IsSpreading-push net label reached labels at event leaving j w spreading ends w_in fresh = record {
  spread = AreSpreadLabels-push net label reached labels at spreading.spread w w_in fresh;
  queued = omega (arith, spreading.queued, length_push reached w);
  here = get_or_append_left reached (w ∷ []) 0 at spreading.queued ∙ spreading.here;
  crossed = λ i below. ⊎_elim
      (λ same. omega (arith, label_here net label reached labels at spreading.spread w w_in fresh _ (ap (λ x. to_of net.arcs (slice_index leaving x)) same ∙ ends)))
      (λ other. omega (arith, spreading.crossed i (omega arith), label_more net label reached labels at spreading.spread w w_in fresh (to_of net.arcs (slice_index leaving i))))
      (cases_eq i j);
}

-- all of them are crossed
pub IsSpreading-end : (net : Network) (label : ℕ) (reached labels : List ℕ) (at event : ℕ) (leaving : List ℕ) (j : ℕ) →
    IsListed (λ a. from_of net.arcs a ≡ event) (length net.arcs) leaving → IsSpreading net label reached labels at event leaving j →
    j ≡ length leaving → AreSpreadLabels net label reached labels (at + 1)
IsSpreading-end net label reached labels at event leaving j listed spreading done = record {
  labels_len = spreading.spread.labels_len;
  some = spreading.spread.some;
  within = omega (arith, spreading.queued);
  range = spreading.spread.range;
  once = spreading.spread.once;
  labelled = spreading.spread.labelled;
  last = λ k from below. spreading.spread.last k (omega arith) below;
  least = spreading.spread.least;
  follows = λ a below. ⊎_elim (λ rises. inl rises) (behind a below) (spreading.spread.follows a below);
}
  where
    behind : (a : ℕ) → a < length net.arcs → IsQueued reached at (from_of net.arcs a) →
        (slice_index labels (from_of net.arcs a) ≤ slice_index labels (to_of net.arcs a)) ⊎ IsQueued reached (at + 1) (from_of net.arcs a)
    behind a a_in (k, from, below, is) = ⊎_elim
        (λ same.
        let begins : from_of net.arcs a ≡ event = sym is ∙ ap (slice_index reached) same ∙ spreading.here in
        let stands = listed.every a a_in begins in
        inl (omega (
          arith,
          ap (slice_index labels) (sym is),
          spreading.spread.last k from below,
          spreading.crossed stands.0 (omega (arith, stands.1)),
          ap (λ x. slice_index labels (to_of net.arcs x)) stands.2,
        )))
        (λ other. inr (k, omega arith, below, is))
        (cases_eq k at)
