-- Labels that cannot grow, and the least stop from there.
use Rattle.std.proofs.Common.{◌≡◌, ℕ, ◌<◌, ◌⊎◌, true, false, length, refl, sym, ◌∙◌, ap, subst, inl, inr, arith}
use Rattle.std.specs.Prelude.{not, ◌&&◌, ◌==◌}
use Rattle.std.proofs.lemmas.Bool.{cases_eq, cases_lt, eq-eqb, ne_eqb}
use Rattle.pc_model.specs.Walk.{from_of, to_of}
use Rattle.pc_laws.specs.Segment.{is_forward, is_backward}
use Rattle.pc_laws.specs.Steps.{IsStairStuck, HasStop, HasNoStopBefore}
use Rattle.pc_crash.specs.Priced.{PricedNetwork, knees_in}
use Rattle.pc_flow.specs.board.Sheets.{Sheet, time_of, rank_of, flow_of}
use Rattle.pc_flow.specs.inside.board.Sheets.{slot_of}
use Rattle.pc_flow.specs.inside.board.Labelling.{HaveRoom}
use Rattle.pc_flow.specs.declared.search.way.Way.{Way}
use Rattle.pc_flow.specs.declared.search.way.Way.TheVariants.{Along, Against}
use Rattle.pc_flow.specs.inside.search.Searches.{lesser_at, greater_at, IsSearch, IsWaitingList, MayCross}
use Rattle.pc_flow.specs.inside.search.Growing.{IsMet, AreSettled}
use Rattle.pc_flow.specs.inside.search.Choosing.{moving, HasChosen}
use Rattle.pc_flow.proofs.lemmas.search.KeptLaws.{search-relisted}
use Rattle.pc_flow.proofs.lemmas.search.ChoosingLaws.{IsChoosing, StillWaits, HasGone, SomeStopsAt}

-- labels may cross an activity along it where it leads from a resting to a moving event, and against it where it leads back
module _ (net : PricedNetwork) (s : Sheet) (a : ℕ) where
  abbrev from : ℕ
  from = rank_of s (from_of net.network.arcs a)

  abbrev to : ℕ
  to = rank_of s (to_of net.network.arcs a)

  pub forward-along : MayCross net s Along a → is_forward net.network.arcs (moving s) a ≡ true
  forward-along may =
      ap (λ x. not x && (to == 0)) (ne_eqb from 0 (λ (is : from ≡ 0). omega (arith, is, may.near)))
      ∙ eq-eqb to 0 may.far

  pub backward-against : MayCross net s Against a → is_backward net.network.arcs (moving s) a ≡ true
  backward-against may =
      ap (λ x. x && not (to == 0)) (eq-eqb from 0 may.far)
      ∙ ap not (ne_eqb to 0 (λ (is : to ≡ 0). omega (arith, is, may.near)))

  pub along-forward : is_forward net.network.arcs (moving s) a ≡ true → MayCross net s Along a
  along-forward is =
      elim (cases_eq from 0) [
        | inl none ↦
            let no : is_forward net.network.arcs (moving s) a ≡ false = ap (λ x. not x && (to == 0)) (eq-eqb from 0 none) in
            absurd (cc_false (sym is ∙ no))
        | inr some ↦ elim (cases_eq to 0) [
          | inl none ↦ record { near = omega (arith, some); far = none; flows = λ way. cc }
          | inr labelled ↦
              let no : is_forward net.network.arcs (moving s) a ≡ false =
              ap (λ x. not x && (to == 0)) (ne_eqb from 0 some) ∙ ne_eqb to 0 labelled in
              absurd (cc_false (sym is ∙ no))
        ]
      ]
    where
      cc_false : true ≡ false → ⊥
      cc_false same = cc

  pub against-backward : is_backward net.network.arcs (moving s) a ≡ true → 0 < flow_of s a → MayCross net s Against a
  against-backward is flows =
      elim (cases_eq from 0) [
        | inl none ↦ elim (cases_eq to 0) [
          | inl both ↦
              let no : is_backward net.network.arcs (moving s) a ≡ false =
              ap (λ x. x && not (to == 0)) (eq-eqb from 0 none) ∙ ap not (eq-eqb to 0 both) in
              absurd (cc_false (sym is ∙ no))
          | inr some ↦ record { near = omega (arith, some); far = none; flows = λ way. flows }
        ]
        | inr labelled ↦
            let no : is_backward net.network.arcs (moving s) a ≡ false = ap (λ x. x && not (to == 0)) (ne_eqb from 0 labelled) in
            absurd (cc_false (sym is ∙ no))
      ]
    where
      cc_false : true ≡ false → ⊥
      cc_false same = cc

module _ (net : PricedNetwork) (s t : Sheet) (kept least : ℕ) (search : IsSearch net s) (room : HaveRoom s) (settled : AreSettled net s)
    (scanned : s.head ≡ s.count) (stuck : rank_of s net.network.end ≡ 0) (on : IsChoosing net s t s.len kept least) where
  abbrev there : Sheet
  there = record s { waiting = t.waiting; slot = t.slot; due = t.due; len = kept }

  activity : (a : ℕ) → a < length net.network.arcs → a < s.activities
  activity a known = omega (arith, known, search.fits.activities)

  from-event : (a : ℕ) → a < length net.network.arcs → from_of net.network.arcs a < s.events
  from-event a known = omega (arith, search.in_range.from_in a known, search.fits.events)

  to-event : (a : ℕ) → a < length net.network.arcs → to_of net.network.arcs a < s.events
  to-event a known = omega (arith, search.in_range.to_in a known, search.fits.events)

  -- all events with a label were scanned, so each activity that labels may cross is settled
  may-settled : (a : ℕ) → a < length net.network.arcs → (way : Way) → MayCross net s way a
      → (0 < slot_of s a) × (lesser_at net s way a < greater_at net s way a)
  may-settled a known way may = settled a known (met way may) way may where
    met : (w : Way) → MayCross net s w a → IsMet net s a
    met Along may = inl (record {
      labelled = may.near;
      within = omega (arith, search.ranked.within (from_of net.network.arcs a) (from-event a known), scanned);
    })
    met Against may = inr (record {
      labelled = may.near;
      within = omega (arith, search.ranked.within (to_of net.network.arcs a) (to-event a known), scanned);
    })

  fate : (a : ℕ) → a < s.activities → 0 < slot_of s a → StillWaits net s t kept least a ⊎ HasGone net s t a
  fate a ka some = on.fates a ka some (search.waiting.within a ka)

  may-waits : (a : ℕ) → a < length net.network.arcs → (way : Way) → MayCross net s way a → StillWaits net s t kept least a
  may-waits a known way may =
      elim (fate a (activity a known) (may-settled a known way may).0) [ inl still ↦ still | inr gone ↦ absurd (gone.quiet way may) ]

  waiting-there : IsWaitingList there
  waiting-there = record {
    few = omega (arith, on.few, search.waiting.few);
    range = on.range;
    placed = on.placed;
    within = λ a ka. elim (cases_lt 0 (slot_of s a)) [
      | inl some ↦ elim (fate a ka some) [ inl still ↦ still.within | inr gone ↦ omega (arith, gone.none) ]
      | inr never ↦ omega (arith, on.none a ka (omega arith))
    ];
    listed = λ a ka waits. elim (cases_lt 0 (slot_of s a)) [
      | inl some ↦ elim (fate a ka some) [ inl still ↦ still.listed | inr gone ↦ absurd (omega (arith, waits, gone.none)) ]
      | inr never ↦ absurd (omega (arith, waits, on.none a ka (omega arith)))
    ];
  }

  start-labelled : rank_of s net.network.start ≡ 1
  start-labelled = ap (rank_of s) (sym search.start) ∙ search.ranked.placed 0 search.ranked.some

  stuck-there : IsStairStuck net.network net.terms (knees_in net) (time_of there) (flow_of there) (moving there)
  stuck-there = record {
    start_rests = ne_eqb (rank_of s net.network.start) 0 (λ (is : rank_of s net.network.start ≡ 0). omega (arith, is, start-labelled));
    end_moves = eq-eqb (rank_of s net.network.end) 0 stuck;
    forward = λ a known is. (may-settled a known Along (along-forward net s a is)).1;
    backward = λ a known is flows. (may-settled a known Against (against-backward net s a is flows)).1;
  }

  before-there : HasNoStopBefore net.network net.terms (knees_in net) (time_of there) (flow_of there) (moving there) least
  before-there = record {
    forward = λ a known is. let may = along-forward net s a is in (may-waits a known Along may).stops Along may;
    backward = λ a known is flows. let may = against-backward net s a is flows in (may-waits a known Against may).stops Against may;
  }

  stop-there : SomeStopsAt net s least → HasStop net.network net.terms (knees_in net) (time_of there) (flow_of there) (moving there) least
  stop-there (a, known, (Along, may, meets)) = (a, known, inl (record { forward = forward-along net s a may; meets = meets }))
  stop-there (a, known, (Against, may, meets)) =
      (a, known, inr (record { backward = backward-against net s a may; some = may.flows refl; meets = meets }))

  chosen-there : HasChosen net s there least
  chosen-there = record {
    rest = refl;
    search = search-relisted net s there search search.ranked.scanned waiting-there;
    room = record { some = room.some };
    listed = λ a known met way may.
        let was : MayCross net s way a = record { near = may.near; far = may.far; flows = may.flows } in
        let still = may-waits a known way was in
        record { listed = still.some; due = still.until way was };
    stuck = stuck-there;
    before = before-there;
    stop = elim on.met [ inl never ↦ inl never | inr some ↦ inr (stop-there some) ];
  }

  pub choosing-ends : (u : Sheet) → u ≡ record t { len = kept } → HasChosen net s u least
  choosing-ends u cut = subst (λ v. HasChosen net s v least) (sym (cut ∙ ap (λ (v : Sheet). record v { len = kept }) on.rest)) chosen-there
