use Rattle.pc_certify.proofs.WalkLaws.{normals-lengths, crashes-lengths}
use Rattle.pc_certify.proofs.walks.Walks.build.Goals as goal

pub longest-requires : goal.longest-requires
longest-requires c =
    let net = c.args.net.now in
    rw (c.net.ensures.network, c.deref.ensures.value, c.in_ok-normal.ensures) (normals-lengths net.network net.terms c.facts.ensures.priced.terms_fit c.facts.ensures.limits)

pub longest-requires-2 : goal.longest-requires-2
longest-requires-2 c =
    let net = c.args.net.now in
    rw (c.net-2.ensures.network, c.deref-2.ensures.value, c.in_ok-crash.ensures) (crashes-lengths net.network net.terms c.facts.ensures.priced.terms_fit c.facts.ensures.limits)

pub returns : goal.returns
returns c =
    let normal = c.in_ok-longest.ensures in
    let crash = c.in_ok-longest-2.ensures in
    record {
      at_normal = rw (← c.net.ensures.network, ← c.in_ok-normal.ensures, ← c.deref.ensures.value)
          (record { picked = normal.picked; through = record { leads = normal.through; adds = normal.sum }; longest = normal.length });
      at_crash = rw (← c.net-2.ensures.network, ← c.in_ok-crash.ensures, ← c.deref-2.ensures.value)
          (record { picked = crash.picked; through = record { leads = crash.through; adds = crash.sum }; longest = crash.length });
    }
