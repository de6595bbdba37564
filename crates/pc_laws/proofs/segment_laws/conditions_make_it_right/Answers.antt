use Rattle.pc_laws.specs.Cover.{first_upper, last_lower}
use Rattle.pc_laws.proofs.segment_laws.conditions_make_it_right.Goals as goal
use Rattle.pc_laws.proofs.Segments.Covering.{begins_longest, covers_shortest, read_right, conditions_cover}

pub returns : goal.returns
returns c = record {
  covering = conditions_cover;
  longest = λ net terms knees normal_walk crash_walk segments priced meets.
      begins_longest net terms knees priced segments (first_upper segments) (last_lower segments)
      (conditions_cover net terms knees normal_walk crash_walk segments meets).front;
  shortest = λ net terms knees normal_walk crash_walk segments priced meets.
      covers_shortest net terms knees segments (first_upper segments) (last_lower segments) priced
      (conditions_cover net terms knees normal_walk crash_walk segments meets);
  read = λ net terms knees normal_walk crash_walk segments limit priced meets above below.
      read_right net terms knees priced segments (first_upper segments) (last_lower segments)
      (conditions_cover net terms knees normal_walk crash_walk segments meets).front limit above below;
}
