use Rattle.pc_whatif.proofs.JournalLaws.{journal_stands, journal_answers}
use Rattle.pc_whatif.proofs.session.edits_stand_in_order.Goals as goal

pub returns : goal.returns
returns c = record { stands = journal_stands; answers = journal_answers }
