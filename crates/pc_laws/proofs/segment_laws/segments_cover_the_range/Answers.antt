use Rattle.pc_laws.proofs.segment_laws.segments_cover_the_range.Goals as goal
use Rattle.pc_laws.proofs.Segments.Covering.{begins_longest, covers_shortest, read_right}

pub returns : goal.returns
returns c = record {
  longest = λ net terms knees segments high low priced front. begins_longest net terms knees priced segments high low front;
  shortest = covers_shortest;
  read = λ net terms knees segments high low limit priced front above below. read_right net terms knees priced segments high low front limit above below;
}
