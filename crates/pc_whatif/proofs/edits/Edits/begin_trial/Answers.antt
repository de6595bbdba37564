use Rattle.std.proofs.Common.{ap, ◌<◌, length, arith}
use Rattle.pc_whatif.specs.inside.edits.Editing.{Edits}
use Rattle.pc_whatif.proofs.lemmas.edits.InsideLaws.{trial_view, trial_whole}
use Rattle.pc_whatif.proofs.edits.Edits.begin_trial.Goals as goal

-- the activity is one of the network's
tried_known : (c : goal.After-set_term) → c.args.tried.now.activity < length c.self.inside.net.network.arcs
tried_known c = omega (arith, c.requires.fits.activity, ap (λ (e : Edits). length e.editing.net.network.arcs) c.self.view_is)

pub invariant_of-self : goal.invariant_of-self
invariant_of-self c =
    trial_whole c.self.inside c.args.self.now c.self.view_is c.self.invariant c.requires.rest c.args.tried.now (tried_known c) c.term.result c.term.ensures c.set_term.new.self c.set_term.ensures

pub returns : goal.returns
returns c =
    trial_view c.self.inside c.args.self.now c.self.view_is c.self.invariant c.requires.rest c.args.tried.now (tried_known c) c.term.result c.term.ensures c.set_term.new.self c.set_term.ensures
