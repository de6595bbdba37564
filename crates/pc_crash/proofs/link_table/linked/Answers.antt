use Rattle.std.proofs.Common.{◌≡◌, ◌<◌, ◌≤◌, length, arith}
use Rattle.pc_model.specs.declared.limits.TheConstants.{MAX_ACTIVITIES, MAX_EVENTS}
use Rattle.pc_crash.proofs.LinkLaws.{AreLinked-push, begun-fits, ended-fits}
use Rattle.pc_crash.proofs.link_table.linked.Goals as goal

pub overflow_cast-ended : goal.overflow_cast-ended
overflow_cast-ended c =
    let known : c.loop-e.e < MAX_EVENTS = omega (arith, c.loop-e-test.true, c.events-e-end.ensures.limit) in
    let few : length c.args.net.now.arcs ≤ MAX_ACTIVITIES = omega (arith, c.activities.ensures.activities, c.activities.ensures.limit) in
    omega (
      arith,
      c.len-ended.ensures,
      c.push_begun.new.links.ok.0,
      begun-fits c.args.net.now.arcs c.loop-e.e c.loop-e.rows.items c.loop-e.links.items c.push_begun.new.links.items c.loop-e.invariant known few c.in_ok-push_begun.ensures,
    )

pub overflow_cast-len : goal.overflow_cast-len
overflow_cast-len c =
    let known : c.loop-e.e < MAX_EVENTS = omega (arith, c.loop-e-test.true, c.events-e-end.ensures.limit) in
    let few : length c.args.net.now.arcs ≤ MAX_ACTIVITIES = omega (arith, c.activities.ensures.activities, c.activities.ensures.limit) in
    omega (
      arith,
      c.len.ensures,
      c.push_ended.new.links.ok.0,
      ended-fits c.args.net.now.arcs c.loop-e.e c.loop-e.rows.items c.loop-e.links.items c.push_begun.new.links.items c.push_ended.new.links.items
          c.loop-e.invariant known few c.in_ok-push_begun.ensures c.in_ok-push_ended.ensures,
    )

pub loop-e-preserved : goal.loop-e-preserved
loop-e-preserved c =
    let few : length c.args.net.now.arcs ≤ MAX_ACTIVITIES = omega (arith, c.activities.ensures.activities, c.activities.ensures.limit) in
    let begins : c.len-begun.result ≡ length c.loop-e.links.items = omega (arith, c.len-begun.ensures, c.loop-e.links.ok.0) in
    let middle : c.len-ended.result ≡ length c.push_begun.new.links.items = omega (arith, c.len-ended.ensures, c.push_begun.new.links.ok.0) in
    let ends : c.len.result ≡ length c.push_ended.new.links.items = omega (arith, c.len.ensures, c.push_ended.new.links.ok.0) in
    rw c.in_ok-push.ensures.items
    (AreLinked-push c.args.net.now.arcs c.loop-e.e c.loop-e.rows.items c.loop-e.links.items c.push_begun.new.links.items c.push_ended.new.links.items
    (record { begun = c.len-begun.result; ended = c.len-ended.result; end = c.len.result })
    c.loop-e.invariant few c.in_ok-push_begun.ensures c.in_ok-push_ended.ensures begins middle ends)
