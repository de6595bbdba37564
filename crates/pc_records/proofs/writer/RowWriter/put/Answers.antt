-- The record's text is what the default writer would have written.
use Rattle.std.proofs.Common.{◌≢◌, Bor, List, ℕ, map}
use Rattle.csv.specs.declared.writer.QuoteStyle.TheVariants as style
use Rattle.pc_records.proofs.TextFacts.{row_text-any_length}
use Rattle.pc_records.proofs.writer.RowWriter.put.Goals as goal

pub returns-clause-put : goal.returns-clause-put
returns-clause-put c =
    let between = c.self.invariant c.if-self.false in
    let plain : c.self.inside.writer.cfg.style ≢ style.NonNumeric = rw between.setup (λ e. cc e) in
    let fields = map (λ (field : Bor (List ℕ)). field.now) c.args.fields.now in
    let written = c.in-Ok.ensures.bytes between.fields between.clean plain in
    let text = rw (between.setup, row_text-any_length fields) at written in
    rw (← c.self.view_is, c.if-self.false) text
