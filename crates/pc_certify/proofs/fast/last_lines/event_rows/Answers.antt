use Rattle.std.proofs.Common.{ℕ, ◌+◌, ◌<◌, sym, ap, subst, ◌∙◌, arith, length, length-append, ◌∷◌, [], false}
use Rattle.pc_model.specs.Codes.{text_at}
use Rattle.pc_certify.specs.inside.fast.Spelled.{SpellsEvent, event_row_at}
use Rattle.pc_check.proofs.BelowLaws.{each_more}
use Rattle.pc_certify.proofs.fast.last_lines.event_rows.Goals as goal

pub loop-e-preserved : goal.loop-e-preserved
loop-e-preserved c =
    let net = c.args.net.now in
    let rows = c.loop-e.rows.items in
    let e = c.loop-e.e in
    let row = c.of.result in
    let had = c.loop-e.invariant in
    let pushed = c.in_ok-push.ensures.items in
    record {
      one_each = ap length pushed ∙ omega (arith, length-append rows (row ∷ []), had.one_each);
      each = subst (λ after. (i : ℕ) → i < e + 1 → SpellsEvent (text_at net.events i) (event_row_at after i)) (sym pushed)
          (each_more (λ i r. SpellsEvent (text_at net.events i) r) rows row (record { time = 0; moves = false; spelling = [] }) e had.one_each had.each
          (subst (λ code. SpellsEvent code row) c.event_code.ensures c.of.ensures));
    }
