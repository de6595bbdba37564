use Rattle.std.proofs.Common.{false, refl, replicate, arith}
use Rattle.std.proofs.lemmas.List.{length-replicate, get_or-replicate}
use Rattle.pc_rollup.proofs.lemmas.figures.OutlookLaws.{marks_none, marks_more}
use Rattle.pc_rollup.proofs.figures.outlook.marked.Goals as goal

pub loop-a-init : goal.loop-a-init
loop-a-init c =
    rw (c.in_ok-marks.ensures.items_if_clones_equal (λ y e. e))
    (marks_none c.args.items c.args.places.now (replicate c.args.items false) (length-replicate c.args.items false)
    (λ x below. get_or-replicate c.args.items x false false below))

pub index_mut-requires : goal.index_mut-requires
index_mut-requires c = omega (arith, c.requires c.loop-a.a c.loop-a-test.true, c.loop-a.invariant.one_each, c.loop-a.marks.ok.0)

pub loop-a-preserved : goal.loop-a-preserved
loop-a-preserved c =
    marks_more c.args.items c.args.places.now c.loop-a.a _ c.loop-a.marks.items c.loop-a.invariant refl (c.requires c.loop-a.a c.loop-a-test.true)
