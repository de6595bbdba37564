use Rattle.pc_deck.proofs.AgainLemmas.{text-again}
use Rattle.pc_deck.proofs.LengthLemmas.{length-deck_text}
use Rattle.pc_deck.proofs.TextLaws.{deck_text-read}
use Rattle.pc_deck.proofs.laws.text_is_the_deck.Goals as goal

pub returns : goal.returns
returns c = record { short = length-deck_text; read = deck_text-read; again = text-again }
