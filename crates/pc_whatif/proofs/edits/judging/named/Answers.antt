use Rattle.std.proofs.Common.{length}
use Rattle.pc_whatif.proofs.lemmas.edits.NamedLaws.{named_is}
use Rattle.pc_whatif.proofs.edits.judging.named.Goals as goal

pub returns-clause-value : goal.returns-clause-value
returns-clause-value c =
    named_is c.args.net.now.activities c.args.code.now
    (length c.args.net.now.network.arcs) c.activity_named.result c.facts.ensures.activity_names.once c.facts.ensures.activity_names.one_each c.activity_named.ensures.known
    c.activity_named.ensures.named c.activity_named.ensures.unknown
