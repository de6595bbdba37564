use Rattle.std.proofs.Common.{◌≡◌, ap, ◌∙◌, arith}
use Rattle.pc_flow.specs.board.Sheets.{Sheet, rank_of}
use Rattle.pc_flow.specs.inside.board.Sheets.{near_of}
use Rattle.pc_flow.specs.inside.board.Labelling.{HasStep}
use Rattle.pc_flow.proofs.lemmas.search.MeasureLaws.{measuring-begins, measuring-goes_on, search-measured, have_room-measured}
use Rattle.pc_flow.proofs.board.board.Board.measure_back.Goals as goal

pub loop-self-init : goal.loop-self-init
loop-self-init c = record {
  known = c.requires.known;
  measured = measuring-begins c.args.net.now c.args.self.now c.requires.search c.requires.room;
}

pub rank-requires : goal.rank-requires
rank-requires c = omega (arith, c.loop-self.invariant.known, ap (λ (v : Sheet). v.events) c.loop-self.invariant.measured.rest)

pub room_of_step-room-requires-clause-known : goal.room_of_step-room-requires-clause-known
room_of_step-room-requires-clause-known c =
    omega (arith, c.loop-self.invariant.known, ap (λ (v : Sheet). v.events) c.loop-self.invariant.measured.rest)

pub room_of_step-room-requires-clause-has : goal.room_of_step-room-requires-clause-has
room_of_step-room-requires-clause-has c = omega (arith, c.loop-self-test.true, c.rank.ensures)

pub room_of_step-room-requires-clause-search : goal.room_of_step-room-requires-clause-search
room_of_step-room-requires-clause-search c =
    search-measured c.args.net.now c.args.self.now c.loop-self.self c.loop-self.invariant.measured c.requires.search

pub room_of_step-room-requires-clause-room : goal.room_of_step-room-requires-clause-room
room_of_step-room-requires-clause-room c =
    have_room-measured c.args.net.now c.args.self.now c.loop-self.self c.loop-self.invariant.measured

pub loop-self-preserved : goal.loop-self-preserved
loop-self-preserved c =
    let on = c.loop-self.invariant in
    let net = c.args.net.now in
    let s = c.args.self.now in
    let t = c.loop-self.self in
    let u = c.set_room.new.self in
    let has : HasStep s c.loop-self.e = omega (arith, c.loop-self-test.true, c.rank.ensures, ap (λ (v : Sheet). rank_of v c.loop-self.e) on.measured.rest) in
    let near : c.near-e.result ≡ near_of s c.loop-self.e =
    c.near-e.ensures ∙ (ap (λ (v : Sheet). near_of v c.loop-self.e) c.set_room.ensures.rest ∙ ap (λ (v : Sheet). near_of v c.loop-self.e) on.measured.rest) in
    record {
      known = omega (arith, near, c.requires.search.back.known c.loop-self.e on.known has);
      measured = measuring-goes_on net s t u c.loop-self.e c.room_of_step-room.result on.measured c.set_room.ensures c.room_of_step-room.ensures;
    }

pub loop-self-smaller : goal.loop-self-smaller
loop-self-smaller c =
    let on = c.loop-self.invariant in
    let s = c.args.self.now in
    let u = c.set_room.new.self in
    let has : HasStep s c.loop-self.e = omega (arith, c.loop-self-test.true, c.rank.ensures, ap (λ (v : Sheet). rank_of v c.loop-self.e) on.measured.rest) in
    let near : c.near-e.result ≡ near_of s c.loop-self.e =
    c.near-e.ensures ∙ (ap (λ (v : Sheet). near_of v c.loop-self.e) c.set_room.ensures.rest ∙ ap (λ (v : Sheet). near_of v c.loop-self.e) on.measured.rest) in
    omega (
      arith,
      c.requires.search.back.before c.loop-self.e on.known has,
      ap (rank_of s) near,
      ap (λ (v : Sheet). rank_of v c.near-e.result) c.set_room.ensures.rest,
      ap (λ (v : Sheet). rank_of v c.near-e.result) on.measured.rest,
      ap (λ (v : Sheet). rank_of v c.loop-self.e) on.measured.rest,
    )
