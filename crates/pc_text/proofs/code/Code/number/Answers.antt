use Rattle.pc_text.proofs.CodeNumberLemmas.{number_of_code-cells, code_in-cells}
use Rattle.pc_text.proofs.code.Code.number.Goals as goal

pub returns : goal.returns
returns c =
    let cells = c.self.inside.cells in
    let number = c.from_le_bytes.result in
    rw (← c.self.view_is) (record {
      value = number_of_code-cells _ cells number c.self.invariant.padded.zeros c.self.invariant.padded.full c.from_le_bytes.ensures;
      back = code_in-cells _ cells number c.self.invariant.padded.zeros c.self.invariant.padded.full c.self.invariant.code c.from_le_bytes.ensures;
    })
