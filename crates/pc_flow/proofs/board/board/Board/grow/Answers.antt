use Rattle.std.proofs.Common.{◌≡◌, ◌<◌, ◌≤◌, ◌+◌, refl, ◌∙◌, subst, ap, inl, inr, arith}
use Rattle.pc_model.specs.Network.{Network}
use Rattle.pc_flow.specs.board.Sheets.{Sheet, rank_of}
use Rattle.pc_flow.specs.inside.search.Growing.{GoesOn, IsAt, degree}
use Rattle.pc_flow.proofs.lemmas.search.GrowLaws.{headed, growing-begins, growing-goes_on, growing-few, growing-ends, search-headed, room-headed}
use Rattle.pc_flow.proofs.board.board.Board.grow.Goals as goal
use Rattle.pc_flow.proofs.board.board.Board.grow.Goals.{then-loop-self-test+else-rank-eq0, else-loop-self-test}

pub loop-self-init : goal.loop-self-init
loop-self-init g c =
    (0, omega arith, growing-begins c.args.net.now c.args.self.now c.requires.search c.requires.room c.requires.settled)

pub scan-requires-clause-search : goal.scan-requires-clause-search
scan-requires-clause-search g c =
    let t = c.loop-self.self in
    let more : t.head + 1 ≤ t.count = omega (arith, c.loop-self-test.true, c.head.ensures, c.count.ensures) in
    rw c.next_to_scan-e.ensures.scanned (search-headed c.args.net.now t (t.head + 1) more c.loop-self.invariant.2.search)

pub scan-requires-clause-room : goal.scan-requires-clause-room
scan-requires-clause-room g c =
    let t = c.loop-self.self in
    rw c.next_to_scan-e.ensures.scanned (room-headed t (t.head + 1) c.loop-self.invariant.2.room)

pub scan-requires-clause-labelled : goal.scan-requires-clause-labelled
scan-requires-clause-labelled g c =
    let t = c.loop-self.self in
    let open_ : t.head < t.count = omega (arith, c.loop-self-test.true, c.head.ensures, c.count.ensures) in
    rw c.next_to_scan-e.ensures.scanned
    (omega (arith, ap (rank_of t) c.next_to_scan-e.ensures.next, c.loop-self.invariant.2.search.ranked.placed t.head open_))

pub loop-self-preserved : goal.loop-self-preserved
loop-self-preserved g c =
    let net = c.args.net.now in
    let t = c.loop-self.self in
    let u = c.scan.new.self in
    let e = c.next_to_scan-e.result in
    let on = c.loop-self.invariant in
    let open_ : t.head < t.count = omega (arith, c.loop-self-test.true, c.head.ensures, c.count.ensures) in
    let scanned : GoesOn net (IsAt net e) (headed t (t.head + 1)) u = subst (λ v. GoesOn net (IsAt net e) v u) c.next_to_scan-e.ensures.scanned c.scan.ensures.goes_on in (
      on.0 + degree net e,
      omega (arith, c.scan.ensures.counted, on.1),
      growing-goes_on net c.args.self.now t u e on.0 (on.0 + degree net e) on.2 open_ c.next_to_scan-e.ensures.next scanned refl,
    )

pub loop-self-smaller : goal.loop-self-smaller
loop-self-smaller g c =
    let t = c.loop-self.self in
    let u = c.scan.new.self in
    let open_ : t.head < t.count = omega (arith, c.loop-self-test.true, c.head.ensures, c.count.ensures) in
    let head : u.head ≡ t.head + 1 = ap (λ (v : Sheet). v.head) c.scan.ensures.goes_on.grows.rest ∙ ap (λ (v : Sheet). v.head) c.next_to_scan-e.ensures.scanned in
    let events : u.events ≡ t.events = ap (λ (v : Sheet). v.events) c.scan.ensures.goes_on.grows.rest ∙ ap (λ (v : Sheet). v.events) c.next_to_scan-e.ensures.scanned in
    omega (arith, open_, head, events, c.loop-self.invariant.2.search.ranked.few)

pub returns-clause-counted : goal.returns-clause-counted
returns-clause-counted g c =
    let on = c.loop-self.invariant in
    omega (
      arith,
      on.1,
      growing-few c.args.net.now c.args.self.now c.loop-self.self on.0 on.2
          (c.each_activity_stands_once.ensures.begin_at_most c.args.net.now.network)
          (c.each_activity_stands_once.ensures.end_at_most c.args.net.now.network),
    )

pub returns-clause-grown : goal.returns-clause-grown
returns-clause-grown g c =
    let net = c.args.net.now in
    let t = c.loop-self.self in
    let on = c.loop-self.invariant in
    growing-ends net c.args.self.now t on.0 on.2 (elim c.loop-self-test.branch [
      | then-loop-self-test+else-rank-eq0 w ↦
          let end : c.end-end.result ≡ net.network.end = c.end-end.ensures.end ∙ ap (λ (n : Network). n.end) c.net.ensures.network in
          inl (omega (arith, w.if-rank-eq0.false, w.rank.ensures, ap (rank_of t) end))
      | else-loop-self-test w ↦ inr (omega (arith, w.loop-self-test.false, c.head.ensures, c.count.ensures, on.2.search.ranked.scanned))
    ])
