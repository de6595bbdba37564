use Rattle.std.proofs.Common.{◌≡◌, ◌+◌, ◌*◌, ◌<◌, sym, ◌∙◌, ap, subst, w64, rules, arith}
use Rattle.std.specs.Prelude.{pos, unsigned_abs}
use Rattle.std.proofs.lemmas.Int.{ints, to_z-of_z}
use Rattle.std.proofs.lemmas.List.{get_or_default}
use mir.Val.{SFits}
use Rattle.pc_load.specs.Table.{Table, amount_in}
use Rattle.pc_load.specs.inside.TableInside.{table_from}
use Rattle.pc_load.proofs.ColumnLaws.{place_within, read_cell}
use Rattle.pc_load.proofs.table.Table.amount.Goals as goal

pub returns : goal.returns
returns c =
    let table = table_from c.self.inside in
    let same : table ≡ c.args.self.now = c.self.view_is in
    let row : c.args.row < table.rows = subst (λ (t : Table). c.args.row < t.rows) (sym same) c.requires.row in
    let period : c.args.k < table.periods = subst (λ (t : Table). c.args.k < t.periods) (sym same) c.requires.period in
    let place = place_within table.rows table.periods c.args.k c.args.row period row in
    let whole = c.self.invariant.whole in
    let read : c.index.result.now ≡ amount_in table c.args.row c.args.k = c.index.ensures
    ∙ get_or_default table.cells (c.args.k * table.rows + c.args.row) c.index.result.now (pos 0) (omega arith)
    ∙ sym (read_cell table.rows table.cells c.args.k c.args.row row) in
    let natural = c.self.invariant.natural c.args.row c.args.k row period in
    let fits : SFits w64 c.index.result.now = search rules in
    let value : c.unsigned_abs.result ≡ unsigned_abs c.index.result.now = c.unsigned_abs.ensures.value ∙ ap unsigned_abs (to_z-of_z w64 c.index.result.now fits) in
    subst (λ (t : Table). pos c.unsigned_abs.result ≡ amount_in t c.args.row c.args.k) same (omega (arith, ints))
