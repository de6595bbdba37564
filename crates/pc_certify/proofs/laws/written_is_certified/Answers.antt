use Rattle.std.proofs.Common.{subst}
use Rattle.pc_model.specs.Network.{Network, IsOrder}
use Rattle.pc_certify.proofs.CertifiedLaws.{certified, text_certified, all_same, curve}
use Rattle.pc_certify.proofs.SmallLaws.{IsSized, small_segments}
use Rattle.pc_certify.proofs.laws.written_is_certified.Goals as goal

pub returns : goal.returns
returns c =
    let net = c.args.net.now in
    let known = c.facts.ensures in
    let sized : IsSized net = record {
      priced = known.priced;
      limits = known.limits;
      pieces = known.pieces;
      piece_limits = known.piece_limits;
      few = known.events;
      order = c.facts-2.ensures.ordered.0;
      ordered = subst (λ (n : Network). IsOrder n c.facts-2.ensures.ordered.0) c.net.ensures.network c.facts-2.ensures.ordered.1;
    } in
    record {
      certified = certified net sized known.activity_names;
      text = text_certified net sized known.activity_names;
      same = all_same net sized known.activity_names;
      curve = curve net sized known.activity_names;
      small = small_segments net sized;
    }
