use Rattle.std.proofs.Common.{None, refl}
use Rattle.pc_whatif.specs.declared.edits.reason.Reason.TheVariants.{Form}
use Rattle.pc_whatif.specs.Texts.{refused_text}
use Rattle.pc_whatif.proofs.AnswerLaws.{stays_as}
use Rattle.pc_whatif.proofs.session.Session.no_form.Goals as goal

pub returns : goal.returns
returns g c =
    let text = refused_text Form in
    (text, stays_as c.args.self.now _ None text c.self.view_is c.self.invariant.renewed refl refl, c.refuse.ensures.text)
