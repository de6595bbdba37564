use Rattle.std.proofs.Common.{length, refl, ap, subst, arith}
use Rattle.std.specs.Vec.{with_items}
use Rattle.pc_whatif.specs.inside.trials.Laid.{IsSoundRegion, kept_in}
use Rattle.pc_whatif.proofs.lemmas.trials.KeptLaws.{region-found, renewed-whole}
use Rattle.pc_whatif.proofs.trials.SessionRegion.renew.Goals as goal

pub invariant_of-self : goal.invariant_of-self
invariant_of-self c =
    let old = c.in-Some.region in
    let new = c.renew_times-self-inside.new.region in
    let renewed = c.renew_times-self-inside.ensures.renewed in
    let same = region-found c.self.inside old c.in-Some.is in
    record {
      here = refl;
      laid = renewed.laid;
      whole = renewed-whole c.args.net.now c.self.inside.spans old new c.self.inside.path_len c.renew_times-self-inside.result
          (subst (λ region. IsSoundRegion (kept_in region c.self.inside.path_len)) same c.self.invariant.whole) renewed;
      room = omega (
        arith,
        (with_items c.self.inside.room c.renew_times-self-inside.new.room).ok.0,
        c.self.inside.room.ok.0,
        c.self.invariant.room,
        ap (λ r. length r.early) c.self.view_is,
        c.requires.early,
        renewed.early.one_each,
      );
    }
