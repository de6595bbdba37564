-- What calls read of the fields of edits, and what they make of them.
use Rattle.std.proofs.Common.{◌≡◌, ℕ, ◌-◌, ◌<◌, List, [], ◌∷◌, ◌++◌, length, take, set, Option, Some, None, refl, sym, ◌∙◌, ap, subst, arith}
use Rattle.std.specs.List.{All}
use Rattle.std.specs.Option.{ForSome, option_map_or}
use Rattle.std.specs.Vec.{with_items}
use Rattle.std.proofs.lemmas.List.{get_or-set_same, length-drop, length-set, length-take, with_items_is}
use Rattle.std.proofs.lemmas.Bool.{ne_eqb}
use Rattle.std.proofs.lemmas.List.Elements.{All-drop, All-push, All-take}
use Rattle.std.proofs.lemmas.Option.{get_or_from_slice_get}
use Rattle.circular_buffer.specs.Buffer.{Buffer, buffer, keep_last, last_item}
use Rattle.pc_model.specs.declared.Term.{Term}
use Rattle.pc_model.specs.Schedule.{term_at}
use Rattle.pc_crash.specs.Priced.{PricedNetwork}
use Rattle.pc_project.specs.declared.activity.Estimates.{Estimates}
use Rattle.pc_whatif.specs.declared.edits.ask.Change.{Change}
use Rattle.pc_whatif.specs.declared.edits.ask.Edit.{Edit}
use Rattle.pc_whatif.specs.declared.edits.KeptEdit.{KeptEdit}
use Rattle.pc_whatif.specs.declared.edits.ActTerm.{ActTerm}
use Rattle.pc_whatif.specs.declared.edits.Edits.TheInside.{Inside}
use Rattle.pc_whatif.specs.declared.edits.TheConstants.{MAX_KEPT}
use Rattle.pc_whatif.specs.edits.Plans.{Plan, plan_with, term_with, estimates_with, nth_estimates}
use Rattle.pc_whatif.specs.inside.edits.Plans.{IsFitPlan}
use Rattle.pc_whatif.specs.edits.Editing.{Editing, activity_named, edited, editing_with, net_trying, edited_plan, undone}
use Rattle.pc_whatif.specs.inside.edits.Editing.{ChangesOnly, Edits, IsEditing, at_rest, net_in}
use Rattle.pc_whatif.specs.inside.edits.Inside.{edits_from, editing_in, plans_back, replaced, trial_in, IsSoundEdits}
use Rattle.pc_whatif.specs.edits.Refusal.{undo_refusal}
use Rattle.pc_whatif.proofs.lemmas.edits.ListLaws.{length-push, keep_last-push, last_item-push, last_item-some, front-push}
use Rattle.pc_whatif.proofs.lemmas.edits.KeptLaws.{length-plans_back, plans_back-keep_last, plans_back-push}
use Rattle.pc_whatif.proofs.lemmas.edits.PlanLaws.{no_term, no_estimates, plan-back, set-back}

-- ---- values

-- the project as edited by its parts, with nothing on trial
abbrev pub editing_at : PricedNetwork → List Estimates → ℕ → List KeptEdit → Editing
editing_at net estimates unit_days kept = record {
  net = net;
  estimates = estimates;
  unit_days = unit_days;
  kept = plans_back kept (record { terms = net.terms; estimates = estimates });
}

-- the network with a change in place, and the estimates
abbrev pub net_with : Change → ℕ → PricedNetwork → PricedNetwork
net_with change a net = record net { terms = set net.terms a (term_with change (term_at net.terms a)) }

abbrev pub list_with : Change → ℕ → List Estimates → List Estimates
list_with change a list = set list a (estimates_with change (nth_estimates list a))

-- what holds of all holds of the last
All-last : {X : Type 0} (P : X → Type 0) (xs : List X) (x : X) → All P xs → last_item xs ≡ Some x → P x
All-last P [] x all e = absurd cc
All-last P (y ∷ ys) x all e =
    subst P (get_or_from_slice_get (y ∷ ys) (length (y ∷ ys) - 1) x y e) (all (length (y ∷ ys) - 1) y (omega arith))

module _ (net : PricedNetwork) (estimates : List Estimates) (unit_days : ℕ) (kept : List KeptEdit) (whole : IsEditing (editing_at net estimates unit_days kept)) where
  abbrev before : Editing
  before = editing_at net estimates unit_days kept

  abbrev plan : Plan
  plan = record { terms = net.terms; estimates = estimates }

  -- a change of one activity differs there alone
  changes : (change : Change) (a : ℕ) (rest : List Plan) → a < length net.network.arcs →
      ChangesOnly before (record { net = net_with change a net; estimates = list_with change a estimates; unit_days = unit_days; kept = rest }) a
  changes change a rest known = record {
    activity = known;
    net = ap (λ t. record net { terms = set net.terms a t }) (sym (get_or-set_same net.terms a (term_with change (term_at net.terms a)) no_term (omega (arith, known, whole.fit.terms.one_each))));
    estimates = ap (set estimates a) (sym (get_or-set_same estimates a (estimates_with change (nth_estimates estimates a)) no_estimates (omega (arith, known, whole.fit.estimates_each))));
    unit_days = refl;
  }

  -- an accepted edit
  module _ (edit : Edit) (a : ℕ) (named : activity_named net edit.act ≡ Some a) (known : a < length net.network.arcs)
      (fits : IsFitPlan net.network net.pieces (plan_with edit.change a plan)) where
    abbrev pub kept_now : KeptEdit
    kept_now = record { activity = a; was = replaced edit.change (term_at net.terms a) (nth_estimates estimates a) }

    abbrev after : Editing
    after = editing_at (net_with edit.change a net) (list_with edit.change a estimates) unit_days (keep_last MAX_KEPT (kept ++ kept_now ∷ []))

    kept_after : plans_back (keep_last MAX_KEPT (kept ++ kept_now ∷ [])) (plan_with edit.change a plan) ≡ keep_last MAX_KEPT (plans_back kept plan ++ plan ∷ [])
    kept_after =
        plans_back-keep_last MAX_KEPT (kept ++ kept_now ∷ []) (plan_with edit.change a plan)
        ∙ ap (keep_last MAX_KEPT) (plans_back-push kept_now plan (plan_with edit.change a plan) (plan-back net.network net.pieces plan edit.change a whole.fit known) kept)

    pub edited_at : after ≡ edited before edit
    edited_at =
        ap (editing_with before (plan_with edit.change a plan)) kept_after
        ∙ ap (λ found. option_map_or (λ b. editing_with before (plan_with edit.change b plan) (keep_last MAX_KEPT (plans_back kept plan ++ plan ∷ []))) found before) (sym named)

    abbrev later : List Plan
    later = keep_last (MAX_KEPT - 1) (plans_back kept plan) ++ plan ∷ []

    -- an UNDO would bring back the plan before
    pub undone_edited : edited_plan (undone (edited before edit)) ≡ plan
    undone_edited =
        ap (λ e. edited_plan (undone e)) (sym edited_at)
        ∙ ap (λ ps. edited_plan (option_map_or (λ p. editing_with (record after { kept = ps }) p (take (length ps - 1) ps)) (last_item ps)
        (record after { kept = ps }))) (kept_after ∙ keep_last-push (MAX_KEPT - 1) (plans_back kept plan) plan)
        ∙ ap (λ found. edited_plan (option_map_or (λ p. editing_with (record after { kept = later }) p (take (length later - 1) later)) found
        (record after { kept = later }))) (last_item-push (keep_last (MAX_KEPT - 1) (plans_back kept plan)) plan)

    pub whole_edited : IsEditing after
    whole_edited = record {
      fit = fits;
      kept_fit = subst (All (IsFitPlan net.network net.pieces)) (sym kept_after)
          (All-drop (IsFitPlan net.network net.pieces) (length (plans_back kept plan ++ plan ∷ []) - MAX_KEPT) (plans_back kept plan ++ plan ∷ [])
          (All-push (IsFitPlan net.network net.pieces) (plans_back kept plan) plan whole.kept_fit whole.fit));
      few = omega (arith, ap (λ (ps : List Plan). length ps) kept_after, length-drop (length (plans_back kept plan ++ plan ∷ []) - MAX_KEPT) (plans_back kept plan ++ plan ∷ []));
      unit_days = whole.unit_days;
    }

    pub changes_edited : ChangesOnly before after a
    changes_edited = changes edit.change a after.kept known

    pub known_after : All (λ (k : KeptEdit). k.activity < length net.network.arcs) kept → All (λ (k : KeptEdit). k.activity < length net.network.arcs) (keep_last MAX_KEPT (kept ++ kept_now ∷ []))
    known_after all =
        All-drop (λ (k : KeptEdit). k.activity < length net.network.arcs) (length (kept ++ kept_now ∷ []) - MAX_KEPT) (kept ++ kept_now ∷ [])
        (All-push (λ (k : KeptEdit). k.activity < length net.network.arcs) kept kept_now all known)

  -- an edit that is taken back
  module _ (k : KeptEdit) (last : last_item kept ≡ Some k) (known : k.activity < length net.network.arcs) where
    abbrev rest : List KeptEdit
    rest = take (length kept - 1) kept

    abbrev plan_then : Plan
    plan_then = plan_with k.was k.activity plan

    abbrev back : Editing
    back = editing_at (net_with k.was k.activity net) (list_with k.was k.activity estimates) unit_days rest

    plans_are : plans_back kept plan ≡ plans_back rest plan_then ++ plan_then ∷ []
    plans_are = ap (λ ks. plans_back ks plan) (last_item-some kept k last) ∙ plans_back-push k plan_then plan refl rest

    last_plan : last_item (plans_back kept plan) ≡ Some plan_then
    last_plan = ap last_item plans_are ∙ last_item-push (plans_back rest plan_then) plan_then

    front_plans : take (length (plans_back kept plan) - 1) (plans_back kept plan) ≡ plans_back rest plan_then
    front_plans = ap (λ (ps : List Plan). take (length ps - 1) ps) plans_are ∙ front-push (plans_back rest plan_then) plan_then

    pub fits_then : IsFitPlan net.network net.pieces plan_then
    fits_then = All-last (IsFitPlan net.network net.pieces) (plans_back kept plan) plan_then whole.kept_fit last_plan

    pub undone_at : back ≡ undone before
    undone_at =
        ap (editing_with before plan_then) (sym front_plans)
        ∙ ap (λ found. option_map_or (λ p. editing_with before p (take (length (plans_back kept plan) - 1) (plans_back kept plan))) found before) (sym last_plan)

    pub changes_undone : ChangesOnly before back k.activity
    changes_undone = changes k.was k.activity back.kept known

    pub whole_undone : IsEditing back
    whole_undone = record {
      fit = fits_then;
      kept_fit = subst (All (IsFitPlan net.network net.pieces)) front_plans
          (All-take (IsFitPlan net.network net.pieces) (length (plans_back kept plan) - 1) (plans_back kept plan) whole.kept_fit);
      few = omega (arith, whole.few, ap (λ (ps : List Plan). length ps) front_plans, length-take (length (plans_back kept plan) - 1) (plans_back kept plan));
      unit_days = whole.unit_days;
    }

-- ---- fields

-- whether something gave way to a trial says whether there is one
no_trial : (aside : Option ActTerm) (terms : List Term) → trial_in aside terms ≡ None → aside ≡ None
no_trial None terms e = refl
no_trial (Some aside) terms e = absurd cc

-- fields with nothing on trial
module _ (s : Inside) (v : Edits) (view : edits_from s ≡ v) (inv : IsSoundEdits s) (rest : v.trial ≡ None) where
  pub no_aside : s.aside ≡ None
  no_aside = no_trial s.aside s.net.terms (ap (λ (e : Edits). e.trial) view ∙ rest)

  abbrev at : Editing
  at = editing_at s.net s.estimates.items s.unit_days s.kept.items

  pub view_at : at_rest at ≡ v
  view_at = ap (λ aside. edits_from (record s { aside = aside })) (sym no_aside) ∙ view

  pub whole_at : IsEditing at
  whole_at = subst (λ aside. IsEditing (editing_in (record s { aside = aside }))) no_aside inv.editing

-- other fields with nothing on trial
module _ (s : Inside) (aside : s.aside ≡ None) (net : PricedNetwork) (estimates : List Estimates) (kept : List KeptEdit)
    (net_is : s.net ≡ net) (estimates_are : s.estimates.items ≡ estimates) (kept_are : s.kept.items ≡ kept) where
  edits_from-at : edits_from s ≡ at_rest (editing_at net estimates s.unit_days kept)
  edits_from-at =
      ap (λ aside. edits_from (record s { aside = aside })) aside
      ∙ (λ i. at_rest (editing_at (net_is i) (estimates_are i) s.unit_days (kept_are i)))

-- the network that the fields have
pub net_in-is : (s : Inside) → s.net ≡ net_in (edits_from s)
net_in-is s = case s.aside
  where
    case : (aside : Option ActTerm) → s.net ≡ net_in (edits_from (record s { aside = aside }))
    case None = refl
    case (Some aside) = ap (λ ts. record s.net { terms = ts }) (sym (set-back s.net.terms aside.activity aside.term no_term))

-- what holds of kept edits and of the term that was set aside, if the network is the same except for its terms
module _ (s : Inside) (inv : IsSoundEdits s) (terms : List Term) (net : PricedNetwork) (net_is : net ≡ record s.net { terms = terms }) where
  known_kept : (kept : List KeptEdit) → All (λ (k : KeptEdit). k.activity < length s.net.network.arcs) kept → All (λ (k : KeptEdit). k.activity < length net.network.arcs) kept
  known_kept kept = subst (λ (n : PricedNetwork). All (λ (k : KeptEdit). k.activity < length s.net.network.arcs) kept →
      All (λ (k : KeptEdit). k.activity < length n.network.arcs) kept) (sym net_is) (λ all. all)

  aside_kept : ForSome s.aside (λ (t : ActTerm). t.activity < length net.network.arcs)
  aside_kept = subst (λ (n : PricedNetwork). ForSome s.aside (λ (t : ActTerm). t.activity < length n.network.arcs)) (sym net_is) inv.aside_known

-- what an accepted edit of activity a makes of the fields
pub record IsEdited (v : Edits) (edit : Edit) (a : ℕ) (new : Inside) : Type 0 where
  pub whole : IsSoundEdits new
  pub view : edits_from new ≡ at_rest (edited v.editing edit)
  pub touched : ChangesOnly v.editing (editing_in new) a
  pub back : edited_plan (undone (edited v.editing edit)) ≡ edited_plan v.editing

module _ (s : Inside) (v : Edits) (view : edits_from s ≡ v) (inv : IsSoundEdits s) (rest : v.trial ≡ None)
    (edit : Edit) (a : ℕ) (named : activity_named s.net edit.act ≡ Some a) (known : a < length s.net.network.arcs)
    (list : List Estimates) (list_is : list ≡ s.estimates.items)
    (fits : IsFitPlan s.net.network s.net.pieces (plan_with edit.change a (record { terms = s.net.terms; estimates = list })))
    (was : Change) (was_is : was ≡ replaced edit.change (term_at s.net.terms a) (nth_estimates s.estimates.items a))
    (net : PricedNetwork) (net_is : net ≡ net_with edit.change a s.net) (lent : List Estimates) (lent_is : lent ≡ s.estimates.items)
    (new : List Estimates) (new_is : new ≡ list_with edit.change a lent)
    (kept : Buffer KeptEdit) (kept_is : kept ≡ buffer (keep_last s.kept.capacity (s.kept.items ++ record { activity = a; was = was } ∷ [])) s.kept.capacity) where
  whole_now : IsEditing (editing_at s.net s.estimates.items s.unit_days s.kept.items)
  whole_now = whole_at s v view inv rest

  fits_now : IsFitPlan s.net.network s.net.pieces (plan_with edit.change a (record { terms = s.net.terms; estimates = s.estimates.items }))
  fits_now = subst (λ es. IsFitPlan s.net.network s.net.pieces (plan_with edit.change a (record { terms = s.net.terms; estimates = es }))) list_is fits

  abbrev after_edit : Inside
  after_edit = record s { net = net; estimates = with_items s.estimates new; kept = kept }

  now_is : new ≡ list_with edit.change a s.estimates.items
  now_is = new_is ∙ ap (list_with edit.change a) lent_is

  items_are : (with_items s.estimates new).items ≡ list_with edit.change a s.estimates.items
  items_are =
      with_items_is s.estimates new (ap (λ (xs : List Estimates). length xs) now_is
      ∙ length-set s.estimates.items a (estimates_with edit.change (nth_estimates s.estimates.items a)) ∙ sym s.estimates.ok.0)
      ∙ now_is

  abbrev kept_then : List KeptEdit
  kept_then = keep_last MAX_KEPT (s.kept.items ++ record { activity = a; was = replaced edit.change (term_at s.net.terms a) (nth_estimates s.estimates.items a) } ∷ [])

  pushed_are : kept.items ≡ kept_then
  pushed_are =
      ap (λ (b : Buffer KeptEdit). b.items) kept_is
      ∙ ap (λ n. keep_last n (s.kept.items ++ record { activity = a; was = was } ∷ [])) inv.room
      ∙ ap (λ (w : Change). keep_last MAX_KEPT (s.kept.items ++ record { activity = a; was = w } ∷ [])) was_is

  at_now : at_rest (editing_at s.net s.estimates.items s.unit_days s.kept.items) ≡ v
  at_now = view_at s v view inv rest

  edit_is : edits_from after_edit ≡ at_rest (editing_at (net_with edit.change a s.net) (list_with edit.change a s.estimates.items) s.unit_days kept_then)
  edit_is = edits_from-at after_edit (no_aside s v view inv rest) (net_with edit.change a s.net) (list_with edit.change a s.estimates.items) kept_then net_is items_are pushed_are

  pub edited_fields : IsEdited v edit a after_edit
  edited_fields = record {
    whole = record {
      editing = subst (λ (e : Edits). IsEditing e.editing) (sym edit_is) (whole_edited s.net s.estimates.items s.unit_days s.kept.items whole_now edit a named known fits_now);
      room = ap (λ (b : Buffer KeptEdit). b.capacity) kept_is ∙ inv.room;
      known = known_kept s inv (net_with edit.change a s.net).terms net net_is kept.items
          (subst (All (λ (k : KeptEdit). k.activity < length s.net.network.arcs)) (sym pushed_are)
          (known_after s.net s.estimates.items s.unit_days s.kept.items whole_now edit a named known fits_now inv.known));
      aside_known = aside_kept s inv (net_with edit.change a s.net).terms net net_is;
    };
    view = edit_is
        ∙ ap at_rest (edited_at s.net s.estimates.items s.unit_days s.kept.items whole_now edit a named known fits_now)
        ∙ ap (λ (e : Edits). at_rest (edited e.editing edit)) at_now;
    touched = subst (λ (e : Edits). ChangesOnly e.editing (editing_in after_edit) a) at_now
        (subst (λ (e : Edits). ChangesOnly (editing_at s.net s.estimates.items s.unit_days s.kept.items) e.editing a) (sym edit_is)
        (changes_edited s.net s.estimates.items s.unit_days s.kept.items whole_now edit a named known fits_now));
    back = subst (λ (e : Edits). edited_plan (undone (edited e.editing edit)) ≡ edited_plan e.editing) at_now
        (undone_edited s.net s.estimates.items s.unit_days s.kept.items whole_now edit a named known fits_now);
  }

-- what taking back an edit of activity a makes of the fields
pub record IsUndone (v : Edits) (a : ℕ) (new : Inside) : Type 0 where
  pub whole : IsSoundEdits new
  pub view : edits_from new ≡ at_rest (undone v.editing)
  pub touched : ChangesOnly v.editing (editing_in new) a

-- the fields when an edit is to be taken back
module _ (s : Inside) (v : Edits) (view : edits_from s ≡ v) (inv : IsSoundEdits s) (rest : v.trial ≡ None)
    (k : KeptEdit) (last : last_item s.kept.items ≡ Some k) where
  pub undo_known : k.activity < length s.net.network.arcs
  undo_known = All-last (λ (k : KeptEdit). k.activity < length s.net.network.arcs) s.kept.items k inv.known last

  pub undo_fits : (lent : List Estimates) → lent ≡ s.estimates.items → IsFitPlan s.net.network s.net.pieces (plan_with k.was k.activity (record { terms = s.net.terms; estimates = lent }))
  undo_fits lent is =
      subst (λ es. IsFitPlan s.net.network s.net.pieces (plan_with k.was k.activity (record { terms = s.net.terms; estimates = es }))) (sym is)
      (fits_then s.net s.estimates.items s.unit_days s.kept.items (whole_at s v view inv rest) k last undo_known)

  pub undo_some : 0 < length v.editing.kept
  undo_some = omega (
    arith,
    ap (λ (e : Edits). length e.editing.kept) (view_at s v view inv rest),
    length-plans_back s.kept.items (record { terms = s.net.terms; estimates = s.estimates.items }),
    ap (λ (ks : List KeptEdit). length ks) (last_item-some s.kept.items k last),
    length-push (take (length s.kept.items - 1) s.kept.items) k,
  )

  pub undo_accepted : undo_refusal v.editing ≡ None
  undo_accepted = rw (ne_eqb (length v.editing.kept) 0 (λ e. absurd (omega (arith, e, undo_some)))) refl

  -- and after it is
  module _ (net : PricedNetwork) (net_is : net ≡ net_with k.was k.activity s.net) (lent : List Estimates)
      (lent_is : lent ≡ s.estimates.items) (new : List Estimates) (new_is : new ≡ list_with k.was k.activity lent)
      (kept : Buffer KeptEdit) (kept_is : kept ≡ buffer (take (length s.kept.items - 1) s.kept.items) s.kept.capacity) where
    abbrev after_undo : Inside
    after_undo = record s { net = net; estimates = with_items s.estimates new; kept = kept }

    back_is : new ≡ list_with k.was k.activity s.estimates.items
    back_is = new_is ∙ ap (list_with k.was k.activity) lent_is

    items_back : (with_items s.estimates new).items ≡ list_with k.was k.activity s.estimates.items
    items_back =
        with_items_is s.estimates new (ap (λ (xs : List Estimates). length xs) back_is
        ∙ length-set s.estimates.items k.activity (estimates_with k.was (nth_estimates s.estimates.items k.activity))
        ∙ sym s.estimates.ok.0)
        ∙ back_is

    abbrev kept_front : List KeptEdit
    kept_front = take (length s.kept.items - 1) s.kept.items

    popped_are : kept.items ≡ kept_front
    popped_are = ap (λ (b : Buffer KeptEdit). b.items) kept_is

    undo_is : edits_from after_undo ≡ at_rest (editing_at (net_with k.was k.activity s.net) (list_with k.was k.activity s.estimates.items) s.unit_days kept_front)
    undo_is =
        edits_from-at after_undo (no_aside s v view inv rest) (net_with k.was k.activity s.net) (list_with k.was k.activity s.estimates.items) kept_front
        net_is items_back popped_are

    pub undone_fields : IsUndone v k.activity after_undo
    undone_fields = record {
      whole = record {
        editing = subst (λ (e : Edits). IsEditing e.editing) (sym undo_is)
            (whole_undone s.net s.estimates.items s.unit_days s.kept.items (whole_at s v view inv rest) k last undo_known);
        room = ap (λ (b : Buffer KeptEdit). b.capacity) kept_is ∙ inv.room;
        known = known_kept s inv (net_with k.was k.activity s.net).terms net net_is kept.items
            (subst (All (λ (j : KeptEdit). j.activity < length s.net.network.arcs)) (sym popped_are)
            (All-take (λ (j : KeptEdit). j.activity < length s.net.network.arcs) (length s.kept.items - 1) s.kept.items inv.known));
        aside_known = aside_kept s inv (net_with k.was k.activity s.net).terms net net_is;
      };
      view = undo_is
          ∙ ap at_rest (undone_at s.net s.estimates.items s.unit_days s.kept.items (whole_at s v view inv rest) k last undo_known)
          ∙ ap (λ (e : Edits). at_rest (undone e.editing)) (view_at s v view inv rest);
      touched = subst (λ (e : Edits). ChangesOnly e.editing (editing_in after_undo) k.activity) (view_at s v view inv rest)
          (subst (λ (e : Edits). ChangesOnly (editing_at s.net s.estimates.items s.unit_days s.kept.items) e.editing k.activity) (sym undo_is)
          (changes_undone s.net s.estimates.items s.unit_days s.kept.items (whole_at s v view inv rest) k last undo_known));
    }

-- fields with a term on trial
module _ (s : Inside) (v : Edits) (view : edits_from s ≡ v) (inv : IsSoundEdits s) (rest : v.trial ≡ None)
    (tried : ActTerm) (known : tried.activity < length s.net.network.arcs) (own : Term) (own_is : own ≡ term_at s.net.terms tried.activity)
    (net : PricedNetwork) (net_is : net ≡ net_trying s.net tried) where
  abbrev pub in_trial : Inside
  in_trial = record s { net = net; aside = Some (record { activity = tried.activity; term = own }) }

  own_back : set net.terms tried.activity own ≡ s.net.terms
  own_back = (λ i. set (net_is i).terms tried.activity (own_is i)) ∙ set-back s.net.terms tried.activity tried.term no_term

  net_back : record net { terms = set net.terms tried.activity own } ≡ s.net
  net_back = λ i. record (net_is i) { terms = own_back i }

  on_trial : term_at net.terms tried.activity ≡ tried.term
  on_trial =
      ap (λ (n : PricedNetwork). term_at n.terms tried.activity) net_is
      ∙ get_or-set_same s.net.terms tried.activity tried.term no_term (omega (arith, known, (whole_at s v view inv rest).fit.terms.one_each))

  editing_same : editing_in in_trial ≡ editing_at s.net s.estimates.items s.unit_days s.kept.items
  editing_same = ap (λ n. editing_at n s.estimates.items s.unit_days s.kept.items) net_back

  pub trial_view : edits_from in_trial ≡ record v { trial = Some tried }
  trial_view =
      (λ i. record { editing = editing_same i; trial = Some (record { activity = tried.activity; term = on_trial i }) })
      ∙ ap (λ (e : Edits). record e { trial = Some tried }) (view_at s v view inv rest)

  pub trial_whole : IsSoundEdits in_trial
  trial_whole = record {
    editing = subst IsEditing (sym editing_same) (whole_at s v view inv rest);
    room = inv.room;
    known = known_kept s inv (net_trying s.net tried).terms net net_is s.kept.items inv.known;
    aside_known = λ t is. subst (λ (n : PricedNetwork). t.activity < length n.network.arcs) (sym net_is)
        (let same : record { activity = tried.activity; term = own } ≡ t = cc in subst (λ (u : ActTerm). u.activity < length s.net.network.arcs) same known);
  }
