use Rattle.std.proofs.Common.{◌+◌, subst, sym}
use Rattle.pc_cells.specs.inside.Spans.{IsSpan}
use Rattle.pc_flow.specs.inside.board.Places.{place_of}
use Rattle.pc_flow.proofs.lemmas.board.BoardLaws.{set-written, board-written}
use Rattle.pc_flow.proofs.board.board.Board.set.Goals as goal

pub invariant_of-self : goal.invariant_of-self
invariant_of-self c =
    board-written c.self.inside c.args.self.now c.self.view_is c.self.invariant c.set.new.self c.args.column c.args.i c.args.v c.requires.within
    (
    c.set.ensures (c.self.inside.mark.spans + place_of c.args.column)
    (subst (λ s. IsSpan c.self.inside.region.spans (c.self.inside.mark.spans + place_of c.args.column) s) (sym c.span.ensures) (c.self.invariant.live c.args.column))
    )
    c.requires.small

pub returns : goal.returns
returns c =
    set-written c.self.inside c.args.self.now c.self.view_is c.self.invariant c.set.new.self c.args.column c.args.i c.args.v c.requires.within
    (
    c.set.ensures (c.self.inside.mark.spans + place_of c.args.column)
    (subst (λ s. IsSpan c.self.inside.region.spans (c.self.inside.mark.spans + place_of c.args.column) s) (sym c.span.ensures) (c.self.invariant.live c.args.column))
    )
