use Rattle.std.proofs.Common.{◌<◌, ◌∙◌, ap, arith}
use Rattle.pc_model.specs.Greatest.{places}
use Rattle.pc_model.specs.Walk.{to_of}
use Rattle.pc_net.specs.Networks.{events_from}
use Rattle.pc_crash.specs.Priced.{PricedNetwork}
use Rattle.pc_crash.proofs.LinkLaws.{activities_of-links, begun_listed, other-links}
use Rattle.pc_crash.proofs.crash_net.CrashNet.out_links.Goals as goal

pub returns-clause-listed : goal.returns-clause-listed
returns-clause-listed c =
    let s = c.self.inside in
    let e = c.args.e in
    let arcs = s.net.now.arcs in
    let known : e < s.net.now.events = omega (arith, c.requires, ap (λ (n : PricedNetwork). n.network.events) c.self.view_is) in
    rw (← c.self.view_is, c.begun.ensures ∙ (c.self.invariant.linked.each e known).begins, activities_of-links (to_of arcs) (places e 0 (events_from arcs))) (begun_listed arcs e)

pub returns-clause-places : goal.returns-clause-places
returns-clause-places c =
    let s = c.self.inside in
    let e = c.args.e in
    let arcs = s.net.now.arcs in
    let known : e < s.net.now.events = omega (arith, c.requires, ap (λ (n : PricedNetwork). n.network.events) c.self.view_is) in
    rw (← c.self.view_is, c.begun.ensures ∙ (c.self.invariant.linked.each e known).begins) (activities_of-links (to_of arcs) (places e 0 (events_from arcs)))

pub returns-clause-others : goal.returns-clause-others
returns-clause-others c =
    let s = c.self.inside in
    let e = c.args.e in
    let arcs = s.net.now.arcs in
    let known : e < s.net.now.events = omega (arith, c.requires, ap (λ (n : PricedNetwork). n.network.events) c.self.view_is) in
    rw (← c.self.view_is, c.begun.ensures ∙ (c.self.invariant.linked.each e known).begins) (other-links (to_of arcs) (places e 0 (events_from arcs)))
