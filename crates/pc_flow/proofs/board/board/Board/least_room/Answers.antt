use Rattle.std.proofs.Common.{◌≡◌, ◌-◌, ◌^◌, suc, min, ap, subst, arith}
use Rattle.pc_flow.specs.board.Sheets.{rank_of}
use Rattle.pc_flow.specs.inside.board.Sheets.{near_of}
use Rattle.pc_flow.specs.inside.board.Labelling.{HasStep}
use Rattle.pc_flow.specs.inside.board.Raising.{AreClear}
use Rattle.pc_flow.proofs.lemmas.board.RaisingLaws.{IsLeasting, way-known, leasting-begins, leasting-goes_on, leasting-ends, clear-begins, clear-below, clear-above}
use Rattle.pc_flow.proofs.board.board.Board.least_room.Goals as goal
use Rattle.pc_flow.proofs.board.board.Board.least_room.Goals.{then-room-by, else-room-by}

pub loop-room-init : goal.loop-room-init
loop-room-init c = (0, leasting-begins c.args.self.now c.args.end c.requires.known, clear-begins c.args.self.now c.args.end (2 ^ 64 - 1))

pub rank-requires : goal.rank-requires
rank-requires c = way-known c.args.self.now c.args.end c.loop-room.invariant.0 c.loop-room.e c.loop-room.invariant.1.way

pub loop-room-preserved : goal.loop-room-preserved
loop-room-preserved c =
    let s = c.args.self.now in
    let e = c.loop-room.e in
    let k = c.loop-room.invariant.0 in
    let on = c.loop-room.invariant.1 in
    let has : HasStep s e = omega (arith, c.loop-room-test.true, c.rank.ensures) in
    let more : IsLeasting s c.args.end (min c.loop-room.by c.room-room.result) (suc k) (near_of s e) =
    leasting-goes_on s c.args.end c.loop-room.by k e c.room-room.result c.requires.back has c.room-room.ensures c.room-room.type_inv on in
    elim c.if-room-by.branch [
      | then-room-by w ↦
          let least : min c.loop-room.by c.room-room.result ≡ c.room-room.result = omega (arith, w.if-room-by.true) in
          let standing : rank_of s e - 1 ≡ w.rank-standing.result - 1 = omega (arith, w.rank-standing.ensures) in
          rw (w.by-is, w.standing-is, c.near-e.ensures) (
            suc k,
            subst (λ n. IsLeasting s c.args.end n (suc k) (near_of s e)) least more,
            subst (λ n. AreClear s c.args.end c.room-room.result n (suc k)) standing
                (clear-below s c.args.end k e c.room-room.result c.requires.ranked c.requires.back has on.way),
          )
      | else-room-by w ↦
          let least : min c.loop-room.by c.room-room.result ≡ c.loop-room.by = omega (arith, w.if-room-by.false) in
          rw (w.by-is, w.standing-is, c.near-e.ensures) (
            suc k,
            subst (λ n. IsLeasting s c.args.end n (suc k) (near_of s e)) least more,
            clear-above s c.args.end c.loop-room.by c.loop-room.standing k e (omega (arith, c.room-room.ensures, c.room-room.type_inv))
                (omega (arith, c.room-room.ensures, w.if-room-by.false))
                on
                c.loop-room.invariant.2,
          )
    ]

pub loop-room-smaller : goal.loop-room-smaller
loop-room-smaller c =
    omega (
      arith,
      ap (rank_of c.args.self.now) c.near-e.ensures,
      c.requires.back.before c.loop-room.e
          (way-known c.args.self.now c.args.end c.loop-room.invariant.0 c.loop-room.e c.loop-room.invariant.1.way)
          (omega (arith, c.loop-room-test.true, c.rank.ensures)),
    )

pub returns : goal.returns
returns c = (
  c.loop-room.invariant.0,
  record {
    least = leasting-ends c.args.self.now c.args.end c.loop-room.by c.loop-room.invariant.0 c.loop-room.e c.requires.ranked c.requires.back c.requires.led
        (omega (arith, c.loop-room-test.false, c.rank.ensures))
        c.loop-room.invariant.1;
    clear = c.loop-room.invariant.2;
  },
)
