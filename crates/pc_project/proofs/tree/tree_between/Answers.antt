use Rattle.pc_project.proofs.RangeLaws.{refusal-about}
use Rattle.pc_project.proofs.tree.tree_between.Goals as goal

pub fault_of-requires : goal.fault_of-requires
fault_of-requires g c = refusal-about c.args.rows.now _ c.in-Err.error c.requires.in_range c.requires.each c.in-Err.ensures.refusal
