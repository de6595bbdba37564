-- An event that enters the queue: its time, its place and its step, one after the other.
use Rattle.std.proofs.Common.{◌≡◌, ℕ, ◌+◌, Bool, sym, ◌∙◌, ap}
use Rattle.pc_flow.specs.board.Sheets.{Sheet, kept_time, rank_of}
use Rattle.pc_flow.specs.inside.board.Sheets.{queue_of, step_of, against_of, near_of, room_of}
use Rattle.pc_flow.specs.inside.board.Moves.{SetsTime, QueuesLast, SetsStep, with_labels, EntersAt}

pub event-enters : (s p q t : Sheet) (e a : ℕ) (against : Bool) (near room time : ℕ) → SetsTime s p e time → QueuesLast p q e
    → SetsStep q t e a against near room → time + s.fallen ≡ kept_time s e → EntersAt s t e a against near room
event-enters s p q t e a against near room time first second third falls = record {
  rest = whole ∙ ap (λ (v : Sheet). with_labels s v) (sym whole);
  count = ap (λ (v : Sheet). v.count) whole;
  time_at = ap (λ n. n + s.fallen) (times e ∙ first.time_at) ∙ falls;
  time_off = λ f apart. times f ∙ first.time_off f apart;
  queue_at = ap (λ (v : Sheet). queue_of v s.count) third.rest ∙ (ap (queue_of q) (sym counts) ∙ second.queue_at);
  queue_off = λ k apart.
      ap (λ (v : Sheet). queue_of v k) third.rest
      ∙ (second.queue_off k (λ same. apart (same ∙ counts)) ∙ ap (λ (v : Sheet). queue_of v k) first.rest);
  rank_at = ap (λ (v : Sheet). rank_of v e) third.rest ∙ (second.rank_at ∙ ap (λ n. n + 1) counts);
  rank_off = λ f apart.
      ap (λ (v : Sheet). rank_of v f) third.rest ∙ (second.rank_off f apart ∙ ap (λ (v : Sheet). rank_of v f) first.rest);
  step = record {
    step_at = third.step.step_at;
    step_off = λ f apart. third.step.step_off f apart ∙ ap (λ (v : Sheet). step_of v f) before;
    against_at = third.step.against_at;
    against_off = λ f apart. third.step.against_off f apart ∙ ap (λ (v : Sheet). against_of v f) before;
    near_at = third.step.near_at;
    near_off = λ f apart. third.step.near_off f apart ∙ ap (λ (v : Sheet). near_of v f) before;
    room_at = third.step.room_at;
    room_off = λ f apart. third.step.room_off f apart ∙ ap (λ (v : Sheet). room_of v f) before;
  };
} where
  counts : p.count ≡ s.count
  counts = ap (λ (v : Sheet). v.count) first.rest

  before : q ≡ record s { time = p.time; rank = q.rank; queue = q.queue; count = s.count + 1 }
  before =
      second.rest
      ∙ ap (λ (v : Sheet). record v { rank = q.rank; queue = q.queue; count = v.count + 1 }) first.rest

  whole : t ≡ record s {
    time = p.time;
    rank = q.rank;
    queue = q.queue;
    count = s.count + 1;
    step = t.step;
    against = t.against;
    near = t.near;
    room = t.room;
  }
  whole = third.rest ∙ ap (λ (v : Sheet). record v { step = t.step; against = t.against; near = t.near; room = t.room }) before

  times : (f : ℕ) → kept_time t f ≡ kept_time p f
  times f = ap (λ (v : Sheet). kept_time v f) third.rest ∙ ap (λ (v : Sheet). kept_time v f) second.rest
