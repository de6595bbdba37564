use Rattle.std.proofs.Common.{take, sym, ◌∙◌, subst}
use Rattle.pc_times.specs.Picked.{IsPickedWalk}
use Rattle.pc_times.specs.Times.{AreLengths, AreEarly}
use Rattle.pc_times.specs.inside.Times.{AreTails}
use Rattle.pc_whatif.proofs.lemmas.trials.RenewLaws.{HasEarly, HasTails, has-early, has-tails, renewed}
use Rattle.pc_whatif.proofs.trials.renew_times.Goals.{After-write, After-write-2}
use Rattle.pc_whatif.proofs.trials.renew_times.Goals as goal

early_there : (c : After-write) → HasEarly c.args.spans.now c.args.region.now c.write.new.self
early_there c =
    has-early c.args.net.now c.args.spans.now c.args.region.now c.write.new.self c.early_into.new.times c.requires.laid c.requires.early
    c.early_into.ensures.times.one_each (c.write.ensures 2 c.requires.laid.live.early)

tails_there : (c : After-write-2) → HasEarly c.args.spans.now c.args.region.now c.write.new.self →
    HasTails c.args.spans.now c.args.region.now c.write-2.new.self c.early_into.new.times c.tails_into.new.tails
tails_there c here =
    has-tails c.args.net.now c.args.spans.now c.args.region.now c.write.new.self c.early_into.new.times c.requires.laid c.requires.early
    c.early_into.ensures.times.one_each (c.write.ensures 2 c.requires.laid.live.early)
    c.write-2.new.self c.tails_into.new.tails c.requires.tails c.tails_into.ensures.tails.one_each (c.write-2.ensures 3 here.laid.live.tails)

pub tails_into-requires-clause-lengths : goal.tails_into-requires-clause-lengths
tails_into-requires-clause-lengths c =
    let here = early_there (goal.at.tails_into-requires-clause-lengths c).After-write in
    subst (AreLengths c.args.net.now) (sym (c.list-2.ensures 0 here.laid.live.expected ∙ here.expected)) c.requires.lengths

pub write-requires-2-clause-live : goal.write-requires-2-clause-live
write-requires-2-clause-live c =
    let here = early_there (goal.at.write-requires-2-clause-live c).After-write in
    (3, here.laid.live.tails)

pub list-expected-requires : goal.list-expected-requires
list-expected-requires c =
    let at = goal.at.list-expected-requires c in
    let there = tails_there at.After-write-2 (early_there at.After-write) in
    (0, there.laid.live.expected)

pub list-early-requires : goal.list-early-requires
list-early-requires c =
    let at = goal.at.list-early-requires c in
    let there = tails_there at.After-write-2 (early_there at.After-write) in
    (2, there.laid.live.early)

pub list-tails-requires : goal.list-tails-requires
list-tails-requires c =
    let at = goal.at.list-tails-requires c in
    let there = tails_there at.After-write-2 (early_there at.After-write) in
    (3, there.laid.live.tails)

pub critical_path_into-path_len-requires-clause-lengths : goal.critical_path_into-path_len-requires-clause-lengths
critical_path_into-path_len-requires-clause-lengths c =
    let at = goal.at.critical_path_into-path_len-requires-clause-lengths c in
    let there = tails_there at.After-write-2 (early_there at.After-write) in
    subst (AreLengths c.args.net.now) (sym (c.list-expected.ensures 0 there.laid.live.expected ∙ there.expected)) c.requires.lengths

pub critical_path_into-path_len-requires-clause-times : goal.critical_path_into-path_len-requires-clause-times
critical_path_into-path_len-requires-clause-times c =
    let net = c.args.net.now in
    let at = goal.at.critical_path_into-path_len-requires-clause-times c in
    let there = tails_there at.After-write-2 (early_there at.After-write) in
    subst (λ xs. AreEarly net xs c.list-early.result.now)
    (c.list.ensures 0 c.requires.laid.live.expected ∙ sym (c.list-expected.ensures 0 there.laid.live.expected ∙ there.expected))
    (subst (AreEarly net c.list.result.now) (sym (c.list-early.ensures 2 there.laid.live.early ∙ there.early)) c.early_into.ensures.times)

pub critical_path_into-path_len-requires-clause-tails : goal.critical_path_into-path_len-requires-clause-tails
critical_path_into-path_len-requires-clause-tails c =
    let net = c.args.net.now in
    let at = goal.at.critical_path_into-path_len-requires-clause-tails c in
    let here = early_there at.After-write in
    let there = tails_there at.After-write-2 here in
    subst (λ xs. AreTails net xs c.list-tails.result.now)
    (c.list-2.ensures 0 here.laid.live.expected ∙ here.expected ∙ sym (c.list-expected.ensures 0 there.laid.live.expected ∙ there.expected))
    (subst (AreTails net c.list-2.result.now) (sym (c.list-tails.ensures 3 there.laid.live.tails ∙ there.tails)) c.tails_into.ensures.tails)

pub write-requires-3-clause-live : goal.write-requires-3-clause-live
write-requires-3-clause-live c =
    let at = goal.at.write-requires-3-clause-live c in
    let there = tails_there at.After-write-2 (early_there at.After-write) in
    (4, there.laid.live.path_cells)

pub returns-clause-renewed : goal.returns-clause-renewed
returns-clause-renewed c =
    let net = c.args.net.now in
    let early = c.early_into.new.times in
    let tails = c.tails_into.new.tails in
    let one_tail = c.tails_into.ensures.tails.one_each in
    let at = goal.at.returns-clause-renewed c in
    let here = early_there at.After-write in
    let there = tails_there at.After-write-2 here in
    renewed net c.args.spans.now c.args.region.now c.write.new.self early c.requires.laid c.requires.early
    c.early_into.ensures.times.one_each (c.write.ensures 2 c.requires.laid.live.early)
    c.write-2.new.self tails c.requires.tails one_tail (c.write-2.ensures 3 here.laid.live.tails)
    c.write-3.new.self c.critical_path_into-path_len.new.path c.requires.path_cells (c.critical_path_into-path_len.auto.path ∙ one_tail) (c.write-3.ensures 4 there.laid.live.path_cells)
    c.critical_path_into-path_len.result
    (subst (λ xs. AreEarly net xs early) (c.list.ensures 0 c.requires.laid.live.expected) c.early_into.ensures.times)
    (subst (λ xs. AreTails net xs tails) (c.list-2.ensures 0 here.laid.live.expected ∙ here.expected) c.tails_into.ensures.tails)
    (subst (λ xs. IsPickedWalk net xs (take c.critical_path_into-path_len.result c.critical_path_into-path_len.new.path)) (c.list-expected.ensures 0 there.laid.live.expected ∙ there.expected)
    c.critical_path_into-path_len.ensures.picked)
    c.critical_path_into-path_len.ensures.short
    (λ i below. c.early_into.ensures.limit i 0 below)
    (λ i below. c.tails_into.ensures.limit i 0 below)
