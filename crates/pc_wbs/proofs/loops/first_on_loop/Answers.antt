use Rattle.std.proofs.Common.{arith, ◌≡◌, ◌^◌, ◌+◌, add-one}
use Rattle.std.proofs.Math.Nat.{two-pow-succ}
use Rattle.pc_wbs.proofs.BuildLaws.{StayInside-ends, AreEnds-twice, IsFirstLooped-ends}
use Rattle.pc_wbs.proofs.loops.first_on_loop.Goals as goal

pub doubled-requires : goal.doubled-requires
doubled-requires c =
    rw c.deref.ensures.value (StayInside-ends c.args.rows.now _ c.loop-round.ends.items c.requires.in_range c.loop-round.invariant)

pub loop-round-preserved : goal.loop-round-preserved
loop-round-preserved c =
    let steps : 2 ^ (c.loop-round._round + 1) ≡ 2 ^ c.loop-round._round + 2 ^ c.loop-round._round = rw add-one (two-pow-succ c.loop-round._round) in
    AreEnds-twice c.args.rows.now _ _ c.loop-round.ends.items c.in_ok-ends-2.ends.items c.requires.in_range steps c.loop-round.invariant (rw c.deref.ensures.value at c.in_ok-ends-2.ensures)

pub returns : goal.returns
returns c =
    let all : c.loop-round._round ≡ 14 = omega arith in
    let ends = rw all at c.loop-round.invariant in
    let least = rw c.deref-2.ensures.value at c.least.ensures in
    IsFirstLooped-ends c.args.rows.now (2 ^ 14) c.loop-round.ends.items c.least.result c.requires.in_range (omega arith) ends least
