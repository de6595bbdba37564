use Rattle.std.proofs.Common.{◌≡◌, ◌+◌, ◌≤◌, [], ◌∷◌, ◌++◌, length, take, decimal, ap, ◌∙◌, arith, length-take-le}
use Rattle.std.specs.Prelude.{codes}
use Rattle.pc_text.specs.Fields.{spaced}
use Rattle.pc_cert.specs.inside.Fields.{bit_text}
use Rattle.pc_cert.proofs.EventLaws.{short_code}
use Rattle.pc_certify.proofs.lemmas.fast.SpelledLaws.{event_cut, event_long, event_rest}
use Rattle.pc_certify.proofs.fast.last_lines.EventRow.respell.Goals as goal

pub cut-requires : goal.cut-requires
cut-requires c =
    omega (arith, ap length c.bytes.ensures.value, ap length c.requires.text, event_long c.args.code.now c.args.self.now.time c.args.self.now.moves)

pub add_number-requires : goal.add_number-requires
add_number-requires c =
    let n = length c.bytes.result.now + 6 in
    let within : n ≤ length c.args.self.now.spelling =
    omega (
      arith,
      ap length c.bytes.ensures.value,
      ap length c.requires.text,
      event_long c.args.code.now c.args.self.now.time c.args.self.now.moves,
    ) in
    omega (arith, ap length c.cut.ensures, length-take-le n c.args.self.now.spelling within, ap length c.bytes.ensures.value, short_code c.args.code.now c.requires.code_is)

pub returns-clause-spells : goal.returns-clause-spells
returns-clause-spells c =
    let code = c.args.code.now in
    let old = c.args.self.now in
    let front = codes "EVENT" ++ 32 ∷ code in
    let is_cut : take (length c.bytes.result.now + 6) old.spelling ≡ front =
    ap (λ b. take (length b + 6) old.spelling) c.bytes.ensures.value ∙ ap (take (length code + 6)) c.requires.text ∙ event_cut code old.time old.moves in
    record {
      code_is = c.requires.code_is;
      text =
          c.add_last_bit.ensures
          ∙ ap (λ t. t ++ spaced (bit_text c.args.moves) (10 ∷ [])) (c.add_number.ensures.text ∙ ap (λ t. t ++ spaced (decimal c.args.time) []) (c.cut.ensures ∙ is_cut))
          ∙ event_rest code c.args.time c.args.moves;
    }
