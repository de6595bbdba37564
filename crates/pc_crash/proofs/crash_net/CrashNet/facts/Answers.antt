use Rattle.pc_model.proofs.Costs.PieceLaws.{pieces_fit}
use Rattle.pc_crash.proofs.crash_net.CrashNet.facts.Goals as goal

pub returns-clause-priced : goal.returns-clause-priced
returns-clause-priced c =
    let whole = c.self.invariant.whole in
    rw (← c.self.view_is) (record {
      range = whole.in_range;
      sound = whole.sound;
      terms_fit = whole.terms;
      knees_fit = pieces_fit _ _ _ whole.terms whole.pieces;
    })
