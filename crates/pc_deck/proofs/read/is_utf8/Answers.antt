use Rattle.std.proofs.Common.{◌∙◌}
use Rattle.pc_deck.proofs.Utf8Lemmas.{is_ok-is_utf8}
use Rattle.pc_deck.proofs.read.is_utf8.Goals as goal

pub returns : goal.returns
returns c = c.is_ok.ensures.value ∙ is_ok-is_utf8 c.from_utf8.result c.args.bytes.now _ _ c.from_utf8.ensures.cases
