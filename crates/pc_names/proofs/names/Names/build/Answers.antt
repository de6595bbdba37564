use Rattle.pc_names.proofs.OnceLaws.{one_more_added}
use Rattle.pc_names.proofs.names.Names.build.Goals as goal

pub loop-code-preserved : goal.loop-code-preserved
loop-code-preserved c =
    one_more_added c.args.codes.now c.loop-code.names c.add.new.self c.loop-code.code-index c.code-item.result c.in_ok-add.field-0 c.requires c.loop-code.invariant
    c.loop-code-test.true c.code-item.is c.in_ok-add.ensures.added c.in_ok-add.ensures.new
