use Rattle.pc_flow.proofs.lemmas.board.ClearLaws.{clear-sheet, clear-board}
use Rattle.pc_flow.proofs.board.board.Board.new.Goals as goal

pub invariant_of-result : goal.invariant_of-result
invariant_of-result c =
    clear-board c.args.region c.columns_of-columns.new.region c.mark-mark.result c.columns_of-columns.result c.args.events c.args.activities
    c.mark-mark.ensures.mark c.mark-mark.ensures.of_all c.columns_of-columns.ensures c.ranges.events.fits c.ranges.activities.fits

pub returns : goal.returns
returns c =
    clear-sheet c.args.region c.columns_of-columns.new.region c.mark-mark.result c.columns_of-columns.result c.args.events c.args.activities
    c.mark-mark.ensures.mark c.mark-mark.ensures.of_all c.columns_of-columns.ensures
