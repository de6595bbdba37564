use Rattle.std.proofs.Common.{take, sym, ◌∙◌, length-take-le}
use Rattle.std.proofs.lemmas.List.{get_or-take}
use Rattle.pc_cert.proofs.FrontLaws.{lanes_tell}
use Rattle.pc_cert.proofs.fast.front.same_lanes.Goals as goal

pub returns : goal.returns
returns c k l set =
    sym (get_or-take 32 c.args.bytes.now k 0 l)
    ∙ lanes_tell (take 32 c.args.bytes.now) (take 32 c.args.others.now) k (length-take-le 32 c.args.bytes.now c.requires.bytes) (length-take-le 32 c.args.others.now c.requires.others) l set
    ∙ get_or-take 32 c.args.others.now k 0 l
