use Rattle.std.proofs.Common.{Some, sym, ap, ◌∙◌}
use Rattle.std.specs.Option.{option_copied}
use Rattle.pc_cards.specs.Forms.{first_misshapen}
use Rattle.pc_cards.proofs.MisfitLemmas.{misshapen_first, misshapen_behind, limit_passed}
use Rattle.pc_cards.proofs.reading.fault_of_misfit.Goals as goal

pub returns-in-Shape : goal.returns-in-Shape
returns-in-Shape g c =
    misshapen_first c.args.row c.args.slots.now (g.F.Fields.fields c.args.fields.now) c.args.misfit c.requires c.in-Shape.is ∙ ap Some (sym c.new.ensures)

pub returns-in-Some : goal.returns-in-Some
returns-in-Some g c =
    misshapen_behind c.args.row c.args.slots.now (g.F.Fields.fields c.args.fields.now) c.args.misfit c.in-Some.slot.now c.requires c.in-Limit.is
    (ap (λ slots. first_misshapen slots (g.F.Fields.fields c.args.fields.now)) (sym c.slots_behind.ensures) ∙ sym c.first_misshapen.ensures ∙ ap option_copied c.in-Some.is)
    ∙ ap Some (sym c.new-in-Some.ensures)

pub returns-in-None : goal.returns-in-None
returns-in-None g c =
    limit_passed c.args.row c.args.slots.now (g.F.Fields.fields c.args.fields.now) c.args.misfit c.requires c.in-Limit.is
    (ap (λ slots. first_misshapen slots (g.F.Fields.fields c.args.fields.now)) (sym c.slots_behind.ensures) ∙ sym c.first_misshapen.ensures ∙ ap option_copied c.in-None.is)
    ∙ ap Some (sym c.new-in-None.ensures)
