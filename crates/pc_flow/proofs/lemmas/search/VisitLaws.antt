-- What a visit leaves: nothing changed, an activity more that waits, or an event more with a label.
use Rattle.std.proofs.Common.{◌≡◌, ◌≢◌, ℕ, ◌+◌, ◌-◌, ◌<◌, refl, sym, ◌∙◌, ap, subst, inl, inr, arith}
use Rattle.std.proofs.lemmas.Bool.{cases_eq, cases_lt}
use Rattle.pc_crash.specs.Priced.{PricedNetwork}
use Rattle.pc_flow.specs.board.Sheets.{Sheet}
use Rattle.pc_flow.specs.inside.board.Sheets.{waiting_of, slot_of}
use Rattle.pc_flow.specs.inside.board.Moves.{WaitsOnce}
use Rattle.pc_flow.specs.inside.board.Labelling.{HaveRoom}
use Rattle.pc_flow.proofs.lemmas.board.RoomLaws.{room-left}
use Rattle.pc_flow.specs.inside.search.Searches.{IsWaitingList, IsSearch, IsQuiet, StopsLater, IsSettledActivity, Grows, IsVisited}
use Rattle.pc_flow.proofs.lemmas.search.KeptLaws.{search-relisted}

pub grows-none : (s : Sheet) → Grows s s
grows-none s = record {
  rest = refl;
  labelled = λ e had. refl;
  time = λ e known. refl;
  waits = λ a had. refl;
  queue = λ k below. refl;
  waiting = λ k below. refl;
  count = omega arith;
  len = omega arith;
}

-- a quiet activity, or one that waits already
pub visited-still : (net : PricedNetwork) (s : Sheet) (a : ℕ) → IsSearch net s → HaveRoom s → IsSettledActivity net s a → IsVisited net s s a
visited-still net s a search room settled = record { grows = grows-none s; search = search; room = room; settled = settled }

pub settled-quiet : (net : PricedNetwork) (s : Sheet) (a : ℕ) → IsQuiet net s a → IsSettledActivity net s a
settled-quiet net s a quiet = λ way may. absurd (quiet way may)

-- the list has capacity for an activity that does not wait
pub waiting-room : (s : Sheet) (a : ℕ) → IsWaitingList s → a < s.activities → slot_of s a ≡ 0 → s.len < s.activities
waiting-room s a waiting known none =
    room-left (waiting_of s) s.len s.activities a waiting.range once known
    (λ k below same. omega (arith, waiting.placed k below, ap (slot_of s) same, none))
  where
    once : (j k : ℕ) → j < k → k < s.len → waiting_of s j ≢ waiting_of s k
    once j k before below same = omega (arith, waiting.placed j (omega arith), waiting.placed k below, ap (slot_of s) same)

-- one more waits
module _ (net : PricedNetwork) (s t : Sheet) (a : ℕ) (search : IsSearch net s) (known : a < s.activities) (none : slot_of s a ≡ 0) (moved : WaitsOnce s t a) where
  abbrev there : Sheet
  there = record s { waiting = t.waiting; slot = t.slot; len = s.len + 1 }

  other : (b : ℕ) → 0 < slot_of s b → b ≢ a
  other b had same = omega (arith, had, ap (slot_of s) same, none)

  waiting-more : IsWaitingList there
  waiting-more = record {
    few = omega (arith, waiting-room s a search.waiting known none);
    range = λ k below. elim (cases_lt k s.len) [
      | inl early ↦ omega (arith, moved.waiting_off k (λ (at : k ≡ s.len). omega arith), search.waiting.range k early)
      | inr last ↦ let at : k ≡ s.len = omega arith in omega (arith, ap (waiting_of t) at, moved.waiting_at, known)
    ];
    placed = λ k below. elim (cases_lt k s.len) [
      | inl early ↦
          ap (slot_of t) (moved.waiting_off k (λ (at : k ≡ s.len). omega arith))
          ∙ moved.slot_off (waiting_of s k) (other (waiting_of s k) (omega (arith, search.waiting.placed k early)))
          ∙ search.waiting.placed k early
      | inr last ↦
          let at : k ≡ s.len = omega arith in
          ap (λ j. slot_of t (waiting_of t j)) at ∙ ap (slot_of t) moved.waiting_at ∙ moved.slot_at ∙ ap (λ j. j + 1) (sym at)
    ];
    within = λ b kb. elim (cases_eq b a) [
      | inl same ↦ omega (arith, ap (slot_of t) same, moved.slot_at)
      | inr apart ↦ omega (arith, moved.slot_off b apart, search.waiting.within b kb)
    ];
    listed = λ b kb had. elim (cases_eq b a) [
      | inl same ↦
          let place : slot_of t b - 1 ≡ s.len = omega (arith, ap (slot_of t) same, moved.slot_at) in
          ap (waiting_of t) place ∙ moved.waiting_at ∙ sym same
      | inr apart ↦
          let was : slot_of t b ≡ slot_of s b = moved.slot_off b apart in
          ap (λ n. waiting_of t (n - 1)) was
          ∙ moved.waiting_off (slot_of s b - 1) (λ (at : slot_of s b - 1 ≡ s.len). omega (arith, at, search.waiting.within b kb, had, was))
          ∙ search.waiting.listed b kb (omega (arith, had, was))
    ];
  }

  pub visited-waits : HaveRoom s → StopsLater net s a → IsVisited net s t a
  visited-waits room later = subst (λ u. IsVisited net s u a) (sym moved.rest) (record {
    grows = record {
      rest = refl;
      labelled = λ e had. refl;
      time = λ e ke. refl;
      waits = λ b had. moved.slot_off b (other b had);
      queue = λ k below. refl;
      waiting = λ k below. moved.waiting_off k (λ (at : k ≡ s.len). omega arith);
      count = omega arith;
      len = omega arith;
    };
    search = search-relisted net s there search search.ranked.scanned waiting-more;
    room = record { some = room.some };
    settled = λ way may. (omega (arith, moved.slot_at), later way (record { near = may.near; far = may.far; flows = may.flows }));
  })
