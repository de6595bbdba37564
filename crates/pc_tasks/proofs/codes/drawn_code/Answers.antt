use Rattle.std.proofs.Common.{◌+◌, ◌∷◌, ◌∙◌, ap, length, arith}
use Rattle.std.specs.Prelude.{decimal}
use Rattle.pc_tasks.proofs.SpelledLemmas.{digits-short, read-drawn}
use Rattle.pc_tasks.proofs.codes.drawn_code.Goals as goal

pub spelled-text-requires : goal.spelled-text-requires
spelled-text-requires c =
    omega (arith, ap length (c.bytes.ensures ∙ (c.digits-number.ensures.value ∙ ap (λ n. decimal (n + 1)) c.from.ensures)), digits-short c.args.i c.requires.small)

pub unreachable-requires : goal.unreachable-requires
unreachable-requires c =
    let is = read-drawn c.args.letter c.args.i c.as_slice.result.now c.read.result
    (c.as_slice.ensures.value ∙ (c.spelled-text.ensures ∙ ap (λ ds. 95 ∷ c.args.letter ∷ ds) (c.bytes.ensures ∙ (c.digits-number.ensures.value ∙ ap (λ n. decimal (n + 1)) c.from.ensures))))
    c.requires.letter c.requires.small c.read.ensures in
    cc

pub returns : goal.returns
returns c =
    let is = read-drawn c.args.letter c.args.i c.as_slice.result.now c.read.result
    (c.as_slice.ensures.value ∙ (c.spelled-text.ensures ∙ ap (λ ds. 95 ∷ c.args.letter ∷ ds) (c.bytes.ensures ∙ (c.digits-number.ensures.value ∙ ap (λ n. decimal (n + 1)) c.from.ensures))))
    c.requires.letter c.requires.small c.read.ensures in
    cc
