use Rattle.pc_net.proofs.DegreeLaws.{leave-most, enter-most, leave-all, enter-all}
use Rattle.pc_net.proofs.network.each_activity_stands_once.Goals as goal

pub returns : goal.returns
returns c = record { begin_at_most = leave-most; end_at_most = enter-most; begin = leave-all; end = enter-all }
