-- The columns of a board, taken one after another.
use Rattle.std.proofs.Common.{◌≡◌, ℕ, ◌+◌, List, [], ◌∷◌, ◌++◌, length, replicate, refl, sym, ◌∙◌, ap, subst, append_assoc}
use Rattle.std.proofs.lemmas.List.{length-append, append-nil}
use Rattle.pc_cells.specs.declared.region.Span.{Span}
use Rattle.pc_cells.specs.Spans.{Cells}
use Rattle.pc_cells.specs.inside.Spans.{IsSpan, IsTaken}
use Rattle.pc_cells.proofs.LiveLaws.{live-append}
use Rattle.pc_flow.specs.declared.board.board.Column.{Column}
use Rattle.pc_flow.specs.declared.board.board.Column.TheVariants.{Time, Rank, Queue, Step, Against, Near, Room, Lost, Flow, Waiting, Slot, Due, Up, Down}
use Rattle.pc_flow.specs.inside.board.Taken.{AreColumnsTaken}
use Rattle.pc_flow.specs.inside.board.Places.{place_of, span_of}

-- the region with more spans
abbrev with_more : Cells → List (List ℕ) → Cells
with_more region more = record { capacity = region.capacity; spans = region.spans ++ more }

abbrev made : ℕ → List (List ℕ) → Cells
made capacity spans = record { capacity = capacity; spans = spans }

-- one more span after some that were taken
taken-after : (home was now : Cells) (before : List (List ℕ)) (len : ℕ) (s : Span) → was ≡ with_more home before → IsTaken was now len s
    → now ≡ with_more home (before ++ replicate len 0 ∷ [])
taken-after home was now before len s at taken =
    taken.region
    ∙ ap (λ (r : Cells). with_more r (replicate len 0 ∷ [])) at
    ∙ ap (λ ys. made home.capacity ys) (append_assoc home.spans before (replicate len 0 ∷ []))

-- it is live when all are taken
span-after : (home was now end : Cells) (before rest : List (List ℕ)) (len k : ℕ) (s : Span) → was ≡ with_more home before → length before ≡ k
    → IsTaken was now len s → end ≡ with_more home (before ++ replicate len 0 ∷ rest) → IsSpan end.spans (length home.spans + k) s
span-after home was now end before rest len k s at size taken all =
    subst (λ n. IsSpan end.spans n s) count (subst (λ ys. IsSpan ys (length was.spans) s) spans (live-append now.spans rest (length was.spans) s taken.span))
  where
    count : length was.spans ≡ length home.spans + k
    count = ap (λ (r : Cells). length r.spans) at ∙ length-append home.spans before ∙ ap (λ n. length home.spans + n) size

    spans : now.spans ++ rest ≡ end.spans
    spans =
        ap (λ (r : Cells). r.spans ++ rest) (taken-after home was now before len s at taken)
        ∙ append_assoc home.spans (before ++ replicate len 0 ∷ []) rest
        ∙ ap (λ ys. home.spans ++ ys) (append_assoc before (replicate len 0 ∷ []) rest)
        ∙ sym (ap (λ (r : Cells). r.spans) all)

module _ (events activities : ℕ) (r0 r1 r2 r3 r4 r5 r6 r7 r8 r9 r10 r11 r12 r13 r14 : Cells) (time rank queue step against near room lost flow waiting slot due up down : Span)
    (taken_time : IsTaken r0 r1 events time)
    (taken_rank : IsTaken r1 r2 events rank)
    (taken_queue : IsTaken r2 r3 events queue)
    (taken_step : IsTaken r3 r4 events step)
    (taken_against : IsTaken r4 r5 events against)
    (taken_near : IsTaken r5 r6 events near)
    (taken_room : IsTaken r6 r7 events room)
    (taken_lost : IsTaken r7 r8 events lost)
    (taken_flow : IsTaken r8 r9 activities flow)
    (taken_waiting : IsTaken r9 r10 activities waiting)
    (taken_slot : IsTaken r10 r11 activities slot)
    (taken_due : IsTaken r11 r12 activities due)
    (taken_up : IsTaken r12 r13 activities up)
    (taken_down : IsTaken r13 r14 activities down) where
  abbrev ev : List ℕ
  ev = replicate events 0

  abbrev act : List ℕ
  act = replicate activities 0

  at_0 : r0 ≡ with_more r0 []
  at_0 = ap (λ ys. made r0.capacity ys) (sym (append-nil r0.spans))

  at_1 : r1 ≡ with_more r0 (ev ∷ [])
  at_1 = taken-after r0 r0 r1 [] events time at_0 taken_time

  at_2 : r2 ≡ with_more r0 (ev ∷ ev ∷ [])
  at_2 = taken-after r0 r1 r2 (ev ∷ []) events rank at_1 taken_rank

  at_3 : r3 ≡ with_more r0 (ev ∷ ev ∷ ev ∷ [])
  at_3 = taken-after r0 r2 r3 (ev ∷ ev ∷ []) events queue at_2 taken_queue

  at_4 : r4 ≡ with_more r0 (ev ∷ ev ∷ ev ∷ ev ∷ [])
  at_4 = taken-after r0 r3 r4 (ev ∷ ev ∷ ev ∷ []) events step at_3 taken_step

  at_5 : r5 ≡ with_more r0 (ev ∷ ev ∷ ev ∷ ev ∷ ev ∷ [])
  at_5 = taken-after r0 r4 r5 (ev ∷ ev ∷ ev ∷ ev ∷ []) events against at_4 taken_against

  at_6 : r6 ≡ with_more r0 (ev ∷ ev ∷ ev ∷ ev ∷ ev ∷ ev ∷ [])
  at_6 = taken-after r0 r5 r6 (ev ∷ ev ∷ ev ∷ ev ∷ ev ∷ []) events near at_5 taken_near

  at_7 : r7 ≡ with_more r0 (ev ∷ ev ∷ ev ∷ ev ∷ ev ∷ ev ∷ ev ∷ [])
  at_7 = taken-after r0 r6 r7 (ev ∷ ev ∷ ev ∷ ev ∷ ev ∷ ev ∷ []) events room at_6 taken_room

  at_8 : r8 ≡ with_more r0 (ev ∷ ev ∷ ev ∷ ev ∷ ev ∷ ev ∷ ev ∷ ev ∷ [])
  at_8 = taken-after r0 r7 r8 (ev ∷ ev ∷ ev ∷ ev ∷ ev ∷ ev ∷ ev ∷ []) events lost at_7 taken_lost

  at_9 : r9 ≡ with_more r0 (ev ∷ ev ∷ ev ∷ ev ∷ ev ∷ ev ∷ ev ∷ ev ∷ act ∷ [])
  at_9 = taken-after r0 r8 r9 (ev ∷ ev ∷ ev ∷ ev ∷ ev ∷ ev ∷ ev ∷ ev ∷ []) activities flow at_8 taken_flow

  at_10 : r10 ≡ with_more r0 (ev ∷ ev ∷ ev ∷ ev ∷ ev ∷ ev ∷ ev ∷ ev ∷ act ∷ act ∷ [])
  at_10 = taken-after r0 r9 r10 (ev ∷ ev ∷ ev ∷ ev ∷ ev ∷ ev ∷ ev ∷ ev ∷ act ∷ []) activities waiting at_9 taken_waiting

  at_11 : r11 ≡ with_more r0 (ev ∷ ev ∷ ev ∷ ev ∷ ev ∷ ev ∷ ev ∷ ev ∷ act ∷ act ∷ act ∷ [])
  at_11 = taken-after r0 r10 r11 (ev ∷ ev ∷ ev ∷ ev ∷ ev ∷ ev ∷ ev ∷ ev ∷ act ∷ act ∷ []) activities slot at_10 taken_slot

  at_12 : r12 ≡ with_more r0 (ev ∷ ev ∷ ev ∷ ev ∷ ev ∷ ev ∷ ev ∷ ev ∷ act ∷ act ∷ act ∷ act ∷ [])
  at_12 = taken-after r0 r11 r12 (ev ∷ ev ∷ ev ∷ ev ∷ ev ∷ ev ∷ ev ∷ ev ∷ act ∷ act ∷ act ∷ []) activities due at_11 taken_due

  at_13 : r13 ≡ with_more r0 (ev ∷ ev ∷ ev ∷ ev ∷ ev ∷ ev ∷ ev ∷ ev ∷ act ∷ act ∷ act ∷ act ∷ act ∷ [])
  at_13 = taken-after r0 r12 r13 (ev ∷ ev ∷ ev ∷ ev ∷ ev ∷ ev ∷ ev ∷ ev ∷ act ∷ act ∷ act ∷ act ∷ []) activities up at_12 taken_up

  at_14 : r14 ≡ with_more r0 (ev ∷ ev ∷ ev ∷ ev ∷ ev ∷ ev ∷ ev ∷ ev ∷ act ∷ act ∷ act ∷ act ∷ act ∷ act ∷ [])
  at_14 = taken-after r0 r13 r14 (ev ∷ ev ∷ ev ∷ ev ∷ ev ∷ ev ∷ ev ∷ ev ∷ act ∷ act ∷ act ∷ act ∷ act ∷ []) activities down at_13 taken_down

  pub columns-taken : AreColumnsTaken r0 r14 events activities (record {
    time = time;
    rank = rank;
    queue = queue;
    step = step;
    against = against;
    near = near;
    room = room;
    lost = lost;
    flow = flow;
    waiting = waiting;
    slot = slot;
    due = due;
    up = up;
    down = down;
  })
  columns-taken = record { region = at_14; spans = spans } where
    spans : (column : Column) → IsSpan r14.spans (length r0.spans + place_of column) (span_of
        (record {
          time = time;
          rank = rank;
          queue = queue;
          step = step;
          against = against;
          near = near;
          room = room;
          lost = lost;
          flow = flow;
          waiting = waiting;
          slot = slot;
          due = due;
          up = up;
          down = down;
        }) column)
    spans Time = span-after r0 r0 r1 r14 [] (ev ∷ ev ∷ ev ∷ ev ∷ ev ∷ ev ∷ ev ∷ act ∷ act ∷ act ∷ act ∷ act ∷ act ∷ []) events 0 time at_0 refl taken_time at_14
    spans Rank = span-after r0 r1 r2 r14 (ev ∷ []) (ev ∷ ev ∷ ev ∷ ev ∷ ev ∷ ev ∷ act ∷ act ∷ act ∷ act ∷ act ∷ act ∷ []) events 1 rank at_1 refl taken_rank at_14
    spans Queue = span-after r0 r2 r3 r14 (ev ∷ ev ∷ []) (ev ∷ ev ∷ ev ∷ ev ∷ ev ∷ act ∷ act ∷ act ∷ act ∷ act ∷ act ∷ []) events 2 queue at_2 refl taken_queue at_14
    spans Step = span-after r0 r3 r4 r14 (ev ∷ ev ∷ ev ∷ []) (ev ∷ ev ∷ ev ∷ ev ∷ act ∷ act ∷ act ∷ act ∷ act ∷ act ∷ []) events 3 step at_3 refl taken_step at_14
    spans Against = span-after r0 r4 r5 r14 (ev ∷ ev ∷ ev ∷ ev ∷ []) (ev ∷ ev ∷ ev ∷ act ∷ act ∷ act ∷ act ∷ act ∷ act ∷ []) events 4 against at_4 refl taken_against at_14
    spans Near = span-after r0 r5 r6 r14 (ev ∷ ev ∷ ev ∷ ev ∷ ev ∷ []) (ev ∷ ev ∷ act ∷ act ∷ act ∷ act ∷ act ∷ act ∷ []) events 5 near at_5 refl taken_near at_14
    spans Room = span-after r0 r6 r7 r14 (ev ∷ ev ∷ ev ∷ ev ∷ ev ∷ ev ∷ []) (ev ∷ act ∷ act ∷ act ∷ act ∷ act ∷ act ∷ []) events 6 room at_6 refl taken_room at_14
    spans Lost = span-after r0 r7 r8 r14 (ev ∷ ev ∷ ev ∷ ev ∷ ev ∷ ev ∷ ev ∷ []) (act ∷ act ∷ act ∷ act ∷ act ∷ act ∷ []) events 7 lost at_7 refl taken_lost at_14
    spans Flow = span-after r0 r8 r9 r14 (ev ∷ ev ∷ ev ∷ ev ∷ ev ∷ ev ∷ ev ∷ ev ∷ []) (act ∷ act ∷ act ∷ act ∷ act ∷ []) activities 8 flow at_8 refl taken_flow at_14
    spans Waiting = span-after r0 r9 r10 r14 (ev ∷ ev ∷ ev ∷ ev ∷ ev ∷ ev ∷ ev ∷ ev ∷ act ∷ []) (act ∷ act ∷ act ∷ act ∷ []) activities 9 waiting at_9 refl taken_waiting at_14
    spans Slot = span-after r0 r10 r11 r14 (ev ∷ ev ∷ ev ∷ ev ∷ ev ∷ ev ∷ ev ∷ ev ∷ act ∷ act ∷ []) (act ∷ act ∷ act ∷ []) activities 10 slot at_10 refl taken_slot at_14
    spans Due = span-after r0 r11 r12 r14 (ev ∷ ev ∷ ev ∷ ev ∷ ev ∷ ev ∷ ev ∷ ev ∷ act ∷ act ∷ act ∷ []) (act ∷ act ∷ []) activities 11 due at_11 refl taken_due at_14
    spans Up = span-after r0 r12 r13 r14 (ev ∷ ev ∷ ev ∷ ev ∷ ev ∷ ev ∷ ev ∷ ev ∷ act ∷ act ∷ act ∷ act ∷ []) (act ∷ []) activities 12 up at_12 refl taken_up at_14
    spans Down = span-after r0 r13 r14 r14 (ev ∷ ev ∷ ev ∷ ev ∷ ev ∷ ev ∷ ev ∷ ev ∷ act ∷ act ∷ act ∷ act ∷ act ∷ []) [] activities 13 down at_13 refl taken_down at_14
