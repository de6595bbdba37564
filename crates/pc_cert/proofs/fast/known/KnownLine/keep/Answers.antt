use Rattle.std.proofs.Common.{sym, ap, subst, ◌∙◌}
use Rattle.std.specs.Prelude.{IsSome}
use Rattle.pc_cert.specs.inside.Known.{LastLine}
use Rattle.pc_cert.proofs.KnownLaws.{kept_cells}
use Rattle.pc_cert.proofs.fast.known.KnownLine.keep.Goals as goal

pub invariant_of-self : goal.invariant_of-self
invariant_of-self c =
    kept_cells c.self.inside.line c.args.bytes.now c.copy_from_slice.new.self c.self.inside.text.cells c.copy_from_slice.ensures.after c.self.invariant.room c.requires.short
    (subst (λ (k : LastLine). IsSome k.line) (sym c.self.view_is) c.requires.some)
    (ap (λ (k : LastLine). k.line) c.self.view_is ∙ c.requires.line)
