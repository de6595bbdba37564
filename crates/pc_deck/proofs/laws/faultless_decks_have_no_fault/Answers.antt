use Rattle.pc_deck.proofs.NoFaultLaws.{no_fault, is_faultless}
use Rattle.pc_deck.proofs.laws.faultless_decks_have_no_fault.Goals as goal

pub returns : goal.returns
returns c = record { none = no_fault; faultless = is_faultless }
