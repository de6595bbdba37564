use Rattle.pert_cli.proofs.OneFaultLaws.{one_detail, one_place}
use Rattle.pert_cli.proofs.fault_laws.one_fault.Goals as goal

pub returns-clause-place : goal.returns-clause-place
returns-clause-place c = one_place c.drawn_deck_is_sound.ensures.sound

pub returns-clause-detail : goal.returns-clause-detail
returns-clause-detail c = one_detail c.drawn_deck_is_sound.ensures.sound
