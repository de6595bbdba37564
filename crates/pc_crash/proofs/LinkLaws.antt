-- The activities at each event linked, one event further.
use Rattle.std.proofs.Common.{
  ◌≡◌,
  ℕ,
  suc,
  ◌+◌,
  ◌-◌,
  ◌^◌,
  ◌<◌,
  ◌≤◌,
  Bool,
  true,
  false,
  List,
  [],
  ◌∷◌,
  ◌++◌,
  length,
  take,
  drop,
  slice_index,
  slice_range,
  cond,
  eqb,
  refl,
  sym,
  ◌∙◌,
  ap,
  subst,
  ⊎_elim,
  arith,
  length-append,
  length-drop,
}
use Rattle.std.proofs.lemmas.Bool.{cases_eq}
use Rattle.std.proofs.lemmas.List.{get_or_append_left, get_or_push, get_or-map, length-map, length_push, take_more, drop_at, drop-append-le, take-append-le, map-append, take_all, append_assoc}
use Rattle.pc_model.specs.declared.Arc.{Arc}
use Rattle.pc_model.specs.declared.limits.TheConstants.{MAX_ACTIVITIES, MAX_EVENTS}
use Rattle.pc_model.specs.Greatest.{places}
use Rattle.pc_model.specs.Walk.{from_of, to_of}
use Rattle.pc_model.specs.inside.Greatest.{IsListed}
use Rattle.pc_model.proofs.Walks.ListedLaws.{IsListed-places, IsListed-same}
use Rattle.pc_net.specs.Networks.{events_from, events_to}
use Rattle.pc_crash.specs.declared.link_table.Link.{Link}
use Rattle.pc_crash.specs.declared.link_table.LinkRow.{LinkRow}
use Rattle.pc_crash.specs.inside.Links.{AreLinked, IsLinkRowOf, activities_of, link_at, link_of, link_row_at, links_of}

-- a part of a list is the same after more is appended
range-append : (items more : List Link) (a b : ℕ) → a ≤ b → b ≤ length items → slice_range (items ++ more) a b ≡ slice_range items a b
range-append items more a b order within =
    ap (take (b - a)) (drop-append-le a items more (omega arith)) ∙ take-append-le (b - a) (drop a items) more (omega (arith, length-drop a items))

-- what is appended to a list is its last part
range_last : (items more : List Link) (a b : ℕ) → a ≡ length items → b ≡ length (items ++ more) → slice_range (items ++ more) a b ≡ more
range_last items more a b begins ends =
    ap (take (b - a)) (drop_at items more a (sym begins)) ∙ take_all (b - a) more (omega (arith, length-append items more))

-- a row stays that of its event when more links are appended
IsLinkRowOf-append : (arcs : List Arc) (links more : List Link) (e : ℕ) (row : LinkRow) →
    IsLinkRowOf arcs links e row → IsLinkRowOf arcs (links ++ more) e row
IsLinkRowOf-append arcs links more e row is = record {
  is_row = record {
    begun = is.is_row.begun;
    ended = is.is_row.ended;
    within = omega (arith, is.is_row.within, length-append links more);
  };
  begins = range-append links more row.begun row.ended is.is_row.begun (omega (arith, is.is_row.ended, is.is_row.within)) ∙ is.begins;
  ends = range-append links more row.ended row.end is.is_row.ended is.is_row.within ∙ is.ends;
}

-- a list has no more places of a number than elements
pub places-few : (x i : ℕ) (ys : List ℕ) → length (places x i ys) ≤ length ys
places-few x i [] = omega arith
places-few x i (y ∷ ys) = few (eqb y x) (places-few x (i + 1) ys)
  where
    few : (b : Bool) → length (places x (i + 1) ys) ≤ length ys → length (cond b (i ∷ places x (i + 1) ys) (places x (i + 1) ys)) ≤ suc (length ys)
    few true le = omega (arith, le)
    few false le = omega (arith, le)

-- the links of an event that begin there are no more than all activities
begun-few : (arcs : List Arc) (n : ℕ) (links links' : List Link) → links' ≡ links ++ links_of (to_of arcs) (places n 0 (events_from arcs)) →
    length links' ≤ length links + length arcs
begun-few arcs n links links' outs =
    omega (
      arith,
      ap (λ (xs : List Link). length xs) outs,
      length-append links (links_of (to_of arcs) (places n 0 (events_from arcs))),
      length-map (places n 0 (events_from arcs)) (link_of (to_of arcs)),
      places-few n 0 (events_from arcs),
      length-map arcs (λ (arc : Arc). arc.from),
    )

-- nor are those that end there
ended-few : (arcs : List Arc) (n : ℕ) (links links' : List Link) → links' ≡ links ++ links_of (from_of arcs) (places n 0 (events_to arcs)) →
    length links' ≤ length links + length arcs
ended-few arcs n links links' ins =
    omega (
      arith,
      ap (λ (xs : List Link). length xs) ins,
      length-append links (links_of (from_of arcs) (places n 0 (events_to arcs))),
      length-map (places n 0 (events_to arcs)) (link_of (from_of arcs)),
      places-few n 0 (events_to arcs),
      length-map arcs (λ (arc : Arc). arc.to),
    )

-- all of them can be counted
pub begun-fits : (arcs : List Arc) (n : ℕ) (rows : List LinkRow) (links links' : List Link) → AreLinked arcs n rows links → n < MAX_EVENTS →
    length arcs ≤ MAX_ACTIVITIES → links' ≡ links ++ links_of (to_of arcs) (places n 0 (events_from arcs)) → length links' < 2 ^ 31
begun-fits arcs n rows links links' linked known few outs = omega (arith, linked.small, begun-few arcs n links links' outs)

pub ended-fits : (arcs : List Arc) (n : ℕ) (rows : List LinkRow) (links links' links'' : List Link) → AreLinked arcs n rows links → n < MAX_EVENTS →
    length arcs ≤ MAX_ACTIVITIES → links' ≡ links ++ links_of (to_of arcs) (places n 0 (events_from arcs)) →
    links'' ≡ links' ++ links_of (from_of arcs) (places n 0 (events_to arcs)) → length links'' < 2 ^ 31
ended-fits arcs n rows links links' links'' linked known few outs ins =
    omega (arith, linked.small, begun-few arcs n links links' outs, ended-few arcs n links' links'' ins)

-- one more event is linked
pub AreLinked-push : (arcs : List Arc) (n : ℕ) (rows : List LinkRow) (links links' links'' : List Link) (row : LinkRow) →
    AreLinked arcs n rows links → length arcs ≤ MAX_ACTIVITIES →
    links' ≡ links ++ links_of (to_of arcs) (places n 0 (events_from arcs)) →
    links'' ≡ links' ++ links_of (from_of arcs) (places n 0 (events_to arcs)) →
    row.begun ≡ length links → row.ended ≡ length links' → row.end ≡ length links'' →
    AreLinked arcs (n + 1) (rows ++ row ∷ []) links''
AreLinked-push arcs n rows links links' links'' row linked few outs ins begins middle ends = record {
  one_each = length_push rows row ∙ ap (λ k. k + 1) linked.one_each;
  small = omega (arith, linked.small, few, begun-few arcs n links links' outs, ended-few arcs n links' links'' ins);
  each = λ e below. ⊎_elim
      (λ same. subst (λ d. IsLinkRowOf arcs links'' d (link_row_at (rows ++ row ∷ []) d)) (sym same)
      (subst (IsLinkRowOf arcs links'' n) (sym (get_or_push rows row none n linked.one_each)) new))
      (λ other. subst (IsLinkRowOf arcs links'' e) (sym (get_or_append_left rows (row ∷ []) none e (omega (arith, linked.one_each)))) (kept e (omega arith)))
      (cases_eq e n);
}
  where
    none : LinkRow
    none = record { begun = 0; ended = 0; end = 0 }

    out_links : List Link
    out_links = links_of (to_of arcs) (places n 0 (events_from arcs))

    in_links : List Link
    in_links = links_of (from_of arcs) (places n 0 (events_to arcs))

    size' : length links' ≡ length links + length out_links
    size' = ap (λ (xs : List Link). length xs) outs ∙ length-append links out_links

    size'' : length links'' ≡ length links' + length in_links
    size'' = ap (λ (xs : List Link). length xs) ins ∙ length-append links' in_links

    kept : (e : ℕ) → e < n → IsLinkRowOf arcs links'' e (link_row_at rows e)
    kept e below =
        subst (λ xs. IsLinkRowOf arcs xs e (link_row_at rows e)) (sym ins) (IsLinkRowOf-append arcs links' in_links e _
        (subst (λ xs. IsLinkRowOf arcs xs e (link_row_at rows e)) (sym outs) (IsLinkRowOf-append arcs links out_links e _ (linked.each e below))))

    new : IsLinkRowOf arcs links'' n row
    new = record {
      is_row = record { begun = omega (arith, begins, middle, size'); ended = omega (arith, middle, ends, size''); within = omega (arith, ends) };
      begins = ap (λ xs. slice_range xs row.begun row.ended) ins
          ∙ range-append links' in_links row.begun row.ended (omega (arith, begins, middle, size')) (omega (arith, middle))
          ∙ ap (λ xs. slice_range xs row.begun row.ended) outs
          ∙ range_last links out_links row.begun row.ended begins (middle ∙ ap (λ (xs : List Link). length xs) outs);
      ends = ap (λ xs. slice_range xs row.ended row.end) ins
          ∙ range_last links' in_links row.ended row.end middle (ends ∙ ap (λ (xs : List Link). length xs) ins);
    }

-- an activity with the event at its other end
abbrev pub link_to : ℕ → ℕ → Link
link_to a other = record { activity = a; other = other }

-- one more activity is linked after some links
pub links_of-push : (other : ℕ → ℕ) (before links : List Link) (activities : List ℕ) (k : ℕ) (link : Link) →
    links ≡ before ++ links_of other (take k activities) → k < length activities → link ≡ link_of other (slice_index activities k) →
    links ++ link ∷ [] ≡ before ++ links_of other (take (k + 1) activities)
links_of-push other before links activities k link is below one =
    ap (λ (xs : List Link). xs ++ link ∷ []) is ∙ append_assoc before (links_of other (take k activities)) (link ∷ [])
    ∙ ap (λ (xs : List Link). before ++ xs) (ap (λ (l : Link). links_of other (take k activities) ++ l ∷ []) one
    ∙ sym (map-append (link_of other) (take k activities) (slice_index activities k ∷ [])) ∙ ap (links_of other) (sym (take_more activities k 0 below)))

-- the activities of links are those that were linked
pub activities_of-links : (other : ℕ → ℕ) (activities : List ℕ) → activities_of (links_of other activities) ≡ activities
activities_of-links other [] = refl
activities_of-links other (a ∷ activities) = ap (λ xs. a ∷ xs) (activities_of-links other activities)

-- and each has the event at its other end
pub link_at-links : (other : ℕ → ℕ) (activities : List ℕ) (k : ℕ) → k < length (links_of other activities) →
    link_at (links_of other activities) k ≡ link_of other (slice_index activities k)
link_at-links other activities k below =
    get_or-map (link_of other) activities k 0 (record { activity = 0; other = 0 }) (omega (arith, length-map activities (link_of other)))

pub other-links : (other : ℕ → ℕ) (activities : List ℕ) (k : ℕ) → k < length (links_of other activities) →
    (link_at (links_of other activities) k).other ≡ other (link_at (links_of other activities) k).activity
other-links other activities k below =
    let is = link_at-links other activities k below in
    ap (λ (l : Link). l.other) is ∙ sym (ap (λ (l : Link). other l.activity) is)

-- those that begin at an event are listed
pub begun_listed : (arcs : List Arc) (e : ℕ) → IsListed (λ a. from_of arcs a ≡ e) (length arcs) (places e 0 (events_from arcs))
begun_listed arcs e =
    IsListed-same _ _ (length arcs) _ here (λ a a_in is. sym (at a a_in) ∙ is) (λ a a_in is. at a a_in ∙ is)
  where
    at : (a : ℕ) → a < length arcs → slice_index (events_from arcs) a ≡ from_of arcs a
    at a a_in = get_or-map (λ (arc : Arc). arc.from) arcs a (record { from = 0; to = 0 }) 0 a_in

    here : IsListed (λ a. slice_index (events_from arcs) a ≡ e) (length arcs) (places e 0 (events_from arcs))
    here = subst (λ n. IsListed (λ a. slice_index (events_from arcs) a ≡ e) n (places e 0 (events_from arcs)))
        (length-map arcs (λ (arc : Arc). arc.from)) (IsListed-places e (events_from arcs))

-- and those that end there
pub ended_listed : (arcs : List Arc) (e : ℕ) → IsListed (λ a. to_of arcs a ≡ e) (length arcs) (places e 0 (events_to arcs))
ended_listed arcs e =
    IsListed-same _ _ (length arcs) _ here (λ a a_in is. sym (at a a_in) ∙ is) (λ a a_in is. at a a_in ∙ is)
  where
    at : (a : ℕ) → a < length arcs → slice_index (events_to arcs) a ≡ to_of arcs a
    at a a_in = get_or-map (λ (arc : Arc). arc.to) arcs a (record { from = 0; to = 0 }) 0 a_in

    here : IsListed (λ a. slice_index (events_to arcs) a ≡ e) (length arcs) (places e 0 (events_to arcs))
    here = subst (λ n. IsListed (λ a. slice_index (events_to arcs) a ≡ e) n (places e 0 (events_to arcs)))
        (length-map arcs (λ (arc : Arc). arc.to)) (IsListed-places e (events_to arcs))
