use Rattle.std.proofs.Common.{ℕ, ◌+◌, ◌<◌, sym, ap, subst, ◌∙◌, arith, length, length-append, ◌∷◌, []}
use Rattle.pc_certify.specs.inside.fast.Spelled.{SpellsAct, act_row_at}
use Rattle.pc_check.proofs.BelowLaws.{each_more}
use Rattle.pc_certify.proofs.fast.last_lines.act_rows.Goals as goal

pub loop-a-preserved : goal.loop-a-preserved
loop-a-preserved c =
    let net = c.args.net.now in
    let rows = c.loop-a.rows.items in
    let a = c.loop-a.a in
    let row = c.of.result in
    let had = c.loop-a.invariant in
    let pushed = c.in_ok-push.ensures.items in
    record {
      one_each = ap length pushed ∙ omega (arith, length-append rows (row ∷ []), had.one_each);
      each = subst (λ after. (i : ℕ) → i < a + 1 → SpellsAct net i (act_row_at after i)) (sym pushed)
          (each_more (SpellsAct net) rows row (record { duration = 0; whole = 0; spelling = [] }) a had.one_each had.each c.of.ensures);
    }
