use Rattle.std.proofs.Common.{◌≡◌, ◌<◌, ◌⊎◌, ℕ, inl, inr, subst, sym, arith, true, false}
use Rattle.std.proofs.lemmas.Bool.{cases_lt}
use Rattle.pc_flow.specs.board.Sheets.{rank_of}
use Rattle.pc_flow.specs.inside.board.Sheets.{near_of, room_of}
use Rattle.pc_flow.specs.inside.board.Pruning.{IsPruned}
use Rattle.pc_flow.proofs.lemmas.board.PruningLaws.{IsPruning, pruning-begins, pruning-keeps_at, pruning-loses_at, pruning-ends}
use Rattle.pc_flow.proofs.board.board.Board.prune.Goals as goal
use Rattle.pc_flow.proofs.board.board.Board.prune.Goals.{then-is_held, else-is_held}

-- an event that is not held has no room or comes from one without a label
not_held : (room rank : ℕ) → ((0 < room) × (0 < rank) → ⊥) → (room ≡ 0) ⊎ (rank ≡ 0)
not_held room rank never =
    elim (cases_lt 0 room) [
      | inl some ↦ elim (cases_lt 0 rank) [ inl labelled ↦ absurd (never (some, labelled)) | inr none ↦ inr (omega arith) ]
      | inr none ↦ inl (omega arith)
    ]

pub loop-i-init : goal.loop-i-init
loop-i-init c = rw c.head-seen.ensures (pruning-begins c.args.self.now c.args.standing c.requires.ranked c.requires.back c.requires.stand)

pub loop-i-preserved : goal.loop-i-preserved
loop-i-preserved c =
    let s = c.args.self.now in
    let t = c.loop-i.self in
    let below : c.loop-i.i < s.count = omega (arith, c.loop-i-test.true, c.count-i-end.ensures) in
    let some_place : 0 < c.loop-i.i = omega (arith, c.loop-i.auto.i, c.requires.stand.some) in
    elim c.if-is_held.branch [
      | then-is_held w ↦
          let held : (0 < room_of t c.queued-e.result) × (0 < rank_of t (near_of t c.queued-e.result)) = c.is_held.ensures.0 w.if-is_held.true in
          rw (w.self-is, w.kept-is, w.gone-is, w.seen-is) (
          pruning-keeps_at s t w.keep_at.new.self c.loop-i.i c.loop-i.kept c.loop-i.gone c.loop-i.seen c.queued-e.result c.requires.ranked c.requires.back
          below some_place c.loop-i.invariant c.queued-e.ensures held.0 held.1 w.keep_at.ensures
          )
      | else-is_held w ↦
          let why : (room_of t c.queued-e.result ≡ 0) ⊎ (rank_of t (near_of t c.queued-e.result) ≡ 0) =
          not_held (room_of t c.queued-e.result) (rank_of t (near_of t c.queued-e.result))
          (λ both. let yes : c.is_held.result ≡ true = c.is_held.ensures.1 both in
          let no : c.is_held.result ≡ false = w.if-is_held.false in cc) in
          rw (w.self-is, w.kept-is, w.gone-is, w.seen-is) (
          pruning-loses_at s t w.lose_at.new.self c.loop-i.i c.loop-i.kept c.loop-i.gone c.loop-i.seen c.queued-e.result c.requires.ranked c.requires.back
          below some_place c.loop-i.invariant c.queued-e.ensures why w.lose_at.ensures w.less_one_below-seen.result
          (λ scanned. w.less_one_below-seen.ensures.below (omega (arith, scanned, w.head.ensures)))
          (λ over. w.less_one_below-seen.ensures.beyond (omega (arith, over, w.head.ensures)))
          )
    ]

pub returns : goal.returns
returns c =
    let s = c.args.self.now in
    let all : c.loop-i.i ≡ s.count = omega (arith, c.loop-i-test.false, c.loop-i.auto.i-end (omega (arith, c.requires.stand.within, c.count-i-end.ensures)), c.count-i-end.ensures) in
    let whole : IsPruning s c.loop-i.self s.count c.loop-i.kept c.loop-i.gone c.loop-i.seen =
    subst (λ n. IsPruning s c.loop-i.self n c.loop-i.kept c.loop-i.gone c.loop-i.seen) all c.loop-i.invariant in
    subst (λ v. IsPruned s v c.loop-i.gone) (sym c.cut_queue.ensures) (pruning-ends s c.loop-i.self c.loop-i.kept c.loop-i.gone c.loop-i.seen whole)
