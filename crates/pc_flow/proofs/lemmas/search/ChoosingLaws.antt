-- The list as it is gone through, and the least stop so far.
use Rattle.std.proofs.Common.{◌≡◌, ◌≢◌, ℕ, ◌+◌, ◌-◌, ◌^◌, ◌<◌, ◌≤◌, ◌⊎◌, min, length, refl, sym, ◌∙◌, ap, subst, inl, inr, arith}
use Rattle.std.proofs.lemmas.Bool.{cases_eq, cases_lt}
use Rattle.pc_crash.specs.Priced.{PricedNetwork}
use Rattle.pc_flow.specs.board.Sheets.{Sheet}
use Rattle.pc_flow.specs.inside.board.Sheets.{waiting_of, slot_of, due_of}
use Rattle.pc_flow.specs.inside.board.Moves.{WaitsAt, GoesAt}
use Rattle.pc_flow.specs.declared.search.way.Way.{Way}
use Rattle.pc_flow.specs.inside.search.Searches.{lesser_at, greater_at, IsWaitingList, IsPricedBoard, IsSearch, MayCross, IsQuiet}
use Rattle.pc_flow.specs.inside.search.Choosing.{StopsAt}
use Rattle.pc_flow.proofs.lemmas.search.KeptLaws.{board-relisted}
use Rattle.pc_flow.proofs.lemmas.search.WayLaws.{one-way}

-- activity a, which labels may cross, stops no sooner than this
abbrev pub StopsNotBefore : PricedNetwork → Sheet → ℕ → ℕ → Type 0
StopsNotBefore net s a least = (way : Way) → MayCross net s way a → lesser_at net s way a + least ≤ greater_at net s way a

-- activity a, which labels may cross, stops no sooner than when the falls have reached the sum `due`
abbrev pub StopsNotUntil : PricedNetwork → Sheet → ℕ → ℕ → Type 0
StopsNotUntil net s a due = (way : Way) → MayCross net s way a → due + lesser_at net s way a ≤ s.fallen + greater_at net s way a

-- activity a still waits, at one of the first `kept` places, and stops no sooner than `least`
pub record StillWaits (net : PricedNetwork) (s t : Sheet) (kept least a : ℕ) : Type 0 where
  pub some : 0 < slot_of t a
  pub within : slot_of t a ≤ kept
  pub listed : waiting_of t (slot_of t a - 1) ≡ a
  pub stops : StopsNotBefore net s a least
  pub until : StopsNotUntil net s a (due_of t a)

-- activity a has left the list, since labels may not cross it
pub record HasGone (net : PricedNetwork) (s t : Sheet) (a : ℕ) : Type 0 where
  pub none : slot_of t a ≡ 0
  pub quiet : IsQuiet net s a

-- some activity that labels may cross stops after this many units
abbrev pub SomeStopsAt : PricedNetwork → Sheet → ℕ → Type 0
SomeStopsAt net s n = (a : ℕ) × (a < length net.network.arcs) × StopsAt net s a n

-- the first i places of the list were gone through
pub record IsChoosing (net : PricedNetwork) (s t : Sheet) (i kept least : ℕ) : Type 0 where
  pub rest : t ≡ record s { waiting = t.waiting; slot = t.slot; due = t.due }
  pub few : kept ≤ i
  pub later : (k : ℕ) → i ≤ k → waiting_of t k ≡ waiting_of s k
  pub later_slot : (a : ℕ) → a < s.activities → i < slot_of s a → slot_of t a ≡ slot_of s a
  pub none : (a : ℕ) → a < s.activities → slot_of s a ≡ 0 → slot_of t a ≡ 0
  pub range : (k : ℕ) → k < kept → waiting_of t k < s.activities
  pub placed : (k : ℕ) → k < kept → slot_of t (waiting_of t k) ≡ k + 1
  pub fates : (a : ℕ) → a < s.activities → 0 < slot_of s a → slot_of s a ≤ i → StillWaits net s t kept least a ⊎ HasGone net s t a
  pub met : (least ≡ 2 ^ 64 - 1) ⊎ SomeStopsAt net s least

pub choosing-begins : (net : PricedNetwork) (s : Sheet) → IsChoosing net s s 0 0 (2 ^ 64 - 1)
choosing-begins net s = record {
  rest = refl;
  few = omega arith;
  later = λ k from. refl;
  later_slot = λ a known late. refl;
  none = λ a known is. is;
  range = λ k below. absurd (omega (arith, below));
  placed = λ k below. absurd (omega (arith, below));
  fates = λ a known some early. absurd (omega (arith, some, early));
  met = inl refl;
}

-- Boards that differ in their lists alone

abbrev pub relisted : Sheet → Sheet → Sheet
relisted s t = record s { waiting = t.waiting; slot = t.slot; due = t.due }

module _ (net : PricedNetwork) (s t : Sheet) (rest : t ≡ relisted s t) where
  pub quiet-relisted : (a : ℕ) → IsQuiet net t a → IsQuiet net s a
  quiet-relisted a quiet =
      let q : IsQuiet net (relisted s t) a = subst (λ v. IsQuiet net v a) rest quiet in
      λ way may. q way (record { near = may.near; far = may.far; flows = may.flows })

  pub priced-relisted : IsSearch net s → IsPricedBoard net t
  priced-relisted search = subst (λ v. IsPricedBoard net v) (sym rest) (board-relisted net s (relisted s t) search)

  stops-back : (a n : ℕ) → StopsAt net (relisted s t) a n → StopsAt net s a n
  stops-back a n (way, may, stops) = (way, record { near = may.near; far = may.far; flows = may.flows }, stops)

  pub stops-relisted : (a n : ℕ) → StopsAt net t a n → StopsAt net s a n
  stops-relisted a n stops = stops-back a n (subst (λ v. StopsAt net v a n) rest stops)

module _ (net : PricedNetwork) (s t u : Sheet) (i kept least a : ℕ) (waiting : IsWaitingList s) (within : i < s.len) (on : IsChoosing net s t i kept least)
    (at : a ≡ waiting_of t i) where
  at-first : a ≡ waiting_of s i
  at-first = at ∙ on.later i (omega arith)

  known : a < s.activities
  known = omega (arith, at-first, waiting.range i within)

  place : slot_of s a ≡ i + 1
  place = ap (slot_of s) at-first ∙ waiting.placed i within

  place-now : slot_of t a ≡ i + 1
  place-now = on.later_slot a known (omega (arith, place)) ∙ place

  -- the others up to here were there before
  before : (b : ℕ) → b < s.activities → b ≢ a → 0 < slot_of s b → slot_of s b ≤ i + 1 → slot_of s b ≤ i
  before b kb apart some early =
      elim (cases_lt i (slot_of s b)) [
        | inl late ↦
            let same : slot_of s b - 1 ≡ i = omega arith in
            absurd (apart (sym (waiting.listed b kb some) ∙ ap (waiting_of s) same ∙ sym at-first))
        | inr is ↦ is
      ]

  -- and fare as before, if their slots and the kept places are the same
  fates-apart : (first now : ℕ) → kept ≤ first → now ≤ least → (b : ℕ) → b < s.activities → b ≢ a → 0 < slot_of s b → slot_of s b ≤ i + 1
      → slot_of u b ≡ slot_of t b → due_of u b ≡ due_of t b → ((k : ℕ) → k < kept → waiting_of u k ≡ waiting_of t k) → StillWaits net s u first now b ⊎ HasGone net s u b
  fates-apart first now more fewer b kb apart some early slot due places =
      elim (on.fates b kb some (before b kb apart some early)) [
        | inl still ↦ inl (record {
          some = omega (arith, slot, still.some);
          within = omega (arith, slot, still.within, more);
          listed = ap (λ x. waiting_of u (x - 1)) slot ∙ places (slot_of t b - 1) (omega (arith, still.some, still.within)) ∙ still.listed;
          stops = λ way may. omega (arith, still.stops way may, fewer);
          until = λ way may. omega (arith, due, still.until way may);
        })
        | inr gone ↦ inr (record { none = slot ∙ gone.none; quiet = gone.quiet })
      ]

  -- it waits on
  module _ (n : ℕ) (stops : StopsAt net s a n) (moved : WaitsAt t u a kept n) where
    fewer : min least n ≤ least
    fewer = omega arith

    -- labels may cross it this way alone
    same-lesser : (way : Way) → MayCross net s way a → lesser_at net s way a ≡ lesser_at net s stops.0 a
    same-lesser way may = ap (λ w. lesser_at net s w a) (one-way net s a way stops.0 may stops.1)

    same-greater : (way : Way) → MayCross net s way a → greater_at net s way a ≡ greater_at net s stops.0 a
    same-greater way may = ap (λ w. greater_at net s w a) (one-way net s a way stops.0 may stops.1)

    not-before : StopsNotBefore net s a (min least n)
    not-before way may = omega (arith, stops.2, same-lesser way may, same-greater way may)

    fallen-is : t.fallen ≡ s.fallen
    fallen-is = ap (λ (v : Sheet). v.fallen) on.rest

    not-until : StopsNotUntil net s a (due_of u a)
    not-until way may = omega (arith, stops.2, same-lesser way may, same-greater way may, moved.due_at, fallen-is)

    other-slot : (k : ℕ) → k < kept → waiting_of t k ≢ a
    other-slot k below same = omega (arith, on.placed k below, ap (slot_of t) same, place-now, on.few)

    kept-place : (k : ℕ) → k < kept → waiting_of u k ≡ waiting_of t k
    kept-place k below = moved.waiting_off k (λ (is : k ≡ kept). omega arith)

    fates-kept : (b : ℕ) → b < s.activities → 0 < slot_of s b → slot_of s b ≤ i + 1 → StillWaits net s u (kept + 1) (min least n) b ⊎ HasGone net s u b
    fates-kept b kb some early =
        elim (cases_eq b a) [
          | inl same ↦ inl (record {
            some = omega (arith, ap (slot_of u) same, moved.slot_at);
            within = omega (arith, ap (slot_of u) same, moved.slot_at);
            listed =
                (let here : slot_of u b - 1 ≡ kept = omega (arith, ap (slot_of u) same, moved.slot_at) in
                ap (waiting_of u) here ∙ moved.waiting_at ∙ sym same);
            stops = subst (λ x. StopsNotBefore net s x (min least n)) (sym same) not-before;
            until = subst (λ x. StopsNotUntil net s x (due_of u x)) (sym same) not-until;
          })
          | inr apart ↦ fates-apart (kept + 1) (min least n) (omega arith) fewer b kb apart some early (moved.slot_off b apart) (moved.due_off b apart)
              kept-place
        ]

    met-kept : a < length net.network.arcs → (min least n ≡ 2 ^ 64 - 1) ⊎ SomeStopsAt net s (min least n)
    met-kept ka =
        elim (cases_lt n least) [
          | inl less ↦ let is : n ≡ min least n = omega arith in inr (subst (λ x. SomeStopsAt net s x) is (a, ka, stops))
          | inr more ↦ let is : least ≡ min least n = omega arith in subst (λ x. (x ≡ 2 ^ 64 - 1) ⊎ SomeStopsAt net s x) is on.met
        ]

    pub choosing-keeps : a < length net.network.arcs → IsChoosing net s u (i + 1) (kept + 1) (min least n)
    choosing-keeps ka = record {
      rest = moved.rest ∙ ap (λ (v : Sheet). record v { waiting = u.waiting; slot = u.slot; due = u.due }) on.rest;
      few = omega (arith, on.few);
      later = λ k from. moved.waiting_off k (λ (is : k ≡ kept). omega (arith, on.few)) ∙ on.later k (omega arith);
      later_slot = λ b kb late.
          moved.slot_off b (λ (same : b ≡ a). omega (arith, late, ap (slot_of s) same, place)) ∙ on.later_slot b kb (omega arith);
      none = λ b kb is. moved.slot_off b (λ (same : b ≡ a). omega (arith, is, ap (slot_of s) same, place)) ∙ on.none b kb is;
      range = λ k below. elim (cases_lt k kept) [
        | inl early ↦ omega (arith, kept-place k early, on.range k early)
        | inr last ↦ let is : k ≡ kept = omega arith in omega (arith, ap (waiting_of u) is, moved.waiting_at, known)
      ];
      placed = λ k below. elim (cases_lt k kept) [
        | inl early ↦
            ap (slot_of u) (kept-place k early) ∙ moved.slot_off (waiting_of t k) (other-slot k early) ∙ on.placed k early
        | inr last ↦
            let is : k ≡ kept = omega arith in
            ap (λ j. slot_of u (waiting_of u j)) is ∙ ap (slot_of u) moved.waiting_at ∙ moved.slot_at ∙ ap (λ j. j + 1) (sym is)
      ];
      fates = fates-kept;
      met = met-kept ka;
    }

  -- it leaves the list
  module _ (quiet : IsQuiet net s a) (moved : GoesAt t u a) where
    same-place : (k : ℕ) → waiting_of u k ≡ waiting_of t k
    same-place k = ap (λ (v : Sheet). waiting_of v k) moved.rest

    fates-gone : (b : ℕ) → b < s.activities → 0 < slot_of s b → slot_of s b ≤ i + 1 → StillWaits net s u kept least b ⊎ HasGone net s u b
    fates-gone b kb some early =
        elim (cases_eq b a) [
          | inl same ↦ inr (record {
            none = ap (slot_of u) same ∙ moved.slot_at;
            quiet = subst (λ x. IsQuiet net s x) (sym same) quiet;
          })
          | inr apart ↦
              fates-apart kept least (omega arith) (omega arith) b kb apart some early (moved.slot_off b apart)
              (ap (λ (v : Sheet). due_of v b) moved.rest) (λ k below. same-place k)
        ]

    pub choosing-goes : IsChoosing net s u (i + 1) kept least
    choosing-goes = record {
      rest =
          moved.rest ∙ ap (λ (v : Sheet). record v { slot = u.slot }) on.rest
          ∙ ap (λ (v : Sheet). record s { waiting = v.waiting; slot = u.slot; due = v.due }) (sym moved.rest);
      few = omega (arith, on.few);
      later = λ k from. same-place k ∙ on.later k (omega arith);
      later_slot = λ b kb late.
          moved.slot_off b (λ (same : b ≡ a). omega (arith, late, ap (slot_of s) same, place)) ∙ on.later_slot b kb (omega arith);
      none = λ b kb is. moved.slot_off b (λ (same : b ≡ a). omega (arith, is, ap (slot_of s) same, place)) ∙ on.none b kb is;
      range = λ k below. omega (arith, same-place k, on.range k below);
      placed = λ k below.
          ap (slot_of u) (same-place k)
          ∙ moved.slot_off (waiting_of t k) (λ (same : waiting_of t k ≡ a). omega (arith, on.placed k below, ap (slot_of t) same, place-now, on.few, below))
          ∙ on.placed k below;
      fates = fates-gone;
      met = on.met;
    }
