use Rattle.std.proofs.Common.{◌≡◌, ◌∙◌, true, false, length, sym, arith}
use Rattle.pc_text.proofs.CodeLemmas.{one_more_looked_up, looked_through}
use Rattle.pc_text.proofs.code.cells_of.Goals as goal

pub loop-i-preserved : goal.loop-i-preserved
loop-i-preserved c =
    let field = c.args.field.now in
    let i = c.loop-i.i in
    rw (c.code_byte.ensures, c.loop-i.invariant) (one_more_looked_up field i c.loop-i-test.true c.requires)

pub returns-then-has_no_comma : goal.returns-then-has_no_comma
returns-then-has_no_comma c =
    let end : c.loop-i.i ≡ length c.args.field.now = omega (arith, c.loop-i-test.false, c.loop-i.auto.i-end) in
    looked_through c.args.field.now c.loop-i.cells c.loop-i.i true c.loop-i.invariant end (sym c.if-has_no_comma.true ∙ c.has_no_comma.ensures)

pub returns-else-has_no_comma : goal.returns-else-has_no_comma
returns-else-has_no_comma c =
    let end : c.loop-i.i ≡ length c.args.field.now = omega (arith, c.loop-i-test.false, c.loop-i.auto.i-end) in
    looked_through c.args.field.now c.loop-i.cells c.loop-i.i false c.loop-i.invariant end (sym c.if-has_no_comma.false ∙ c.has_no_comma.ensures)
