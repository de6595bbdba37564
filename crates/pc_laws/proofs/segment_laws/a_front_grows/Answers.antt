use Rattle.pc_laws.proofs.segment_laws.a_front_grows.Goals as goal
use Rattle.pc_laws.proofs.Segments.Covering.{front_begins, front_grows}

pub returns : goal.returns
returns c = record {
  begins = front_begins;
  grows = front_grows;
  covers = λ net terms knees segments high low front shortest. record { front = front; crash_walk = shortest.attained };
}
