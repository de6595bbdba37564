-- The sum of the variances along the critical path.
use Rattle.std.proofs.Common.{◌≡◌, ℕ, ◌+◌, ◌<◌, List, length, take, slice_index, ap, ◌∙◌}
use Rattle.std.proofs.lemmas.List.{take_more}
use Rattle.pc_model.specs.Walk.{walk_sum}
use Rattle.pc_model.proofs.Walks.WalkLaws.{walk_sum-push}

-- the sum along the path, one activity further
pub walk_sum-more : (lengths walk : List ℕ) (i : ℕ) → i < length walk → walk_sum lengths (take (i + 1) walk) ≡ walk_sum lengths (take i walk) + slice_index lengths (slice_index walk i)
walk_sum-more lengths walk i below =
    ap (walk_sum lengths) (take_more walk i 0 below) ∙ walk_sum-push lengths (take i walk) (slice_index walk i)
