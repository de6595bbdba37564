-- A deck has at most one record more than it has bytes.
use Rattle.pc_records.proofs.DeckFacts.{length-deck_records}
use Rattle.pc_records.proofs.rows.RowReader.new.Goals as goal

pub returns-clause-count : goal.returns-clause-count
returns-clause-count c = rw (c.reader_of.ensures.state, c.reader_of.ensures.bytes, c.unmarked.ensures) (length-deck_records c.args.bytes.now)
