use Rattle.pc_tasks.proofs.DrawnLemmas.{network-arrows}
use Rattle.pc_tasks.proofs.PieceLemmas.{pieces-are}
use Rattle.pc_tasks.proofs.TermLemmas.{terms-are}
use Rattle.pc_tasks.proofs.laws.drawn_deck_has_the_arrows.Goals as goal

pub returns-clause-network : goal.returns-clause-network
returns-clause-network c deck can = network-arrows deck can

pub returns-clause-terms : goal.returns-clause-terms
returns-clause-terms c deck = terms-are deck

pub returns-clause-pieces : goal.returns-clause-pieces
returns-clause-pieces c deck can = pieces-are deck can
