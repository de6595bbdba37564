-- Tests over the list of an activity's knees are those over its knees.
use Rattle.std.proofs.Common.{◌≡◌, ℕ, ◌+◌, Bool, not, ◌&&◌, ◌||◌, List, length, refl, ap, ◌∙◌}
use Rattle.std.specs.Prelude.{◌==◌, nat_le, nat_lt, slice_index, if◌then◌else◌}
use Rattle.pc_model.specs.inside.Pieces.{knee_at}
use Rattle.pc_model.specs.declared.Knee.{Knee}
use Rattle.pc_model.specs.Sums.{sum_to}
use Rattle.pc_model.specs.Cost.{Knees}
use Rattle.pc_model.proofs.Sums.{sum_to-same}
use Rattle.pc_crash.specs.inside.KneeLists.{AreKneesOf}
use Rattle.pc_check.specs.Known.{each_below, some_below}
use Rattle.pc_check.specs.KneeTests.{is_slack_at_knee}
use Rattle.pc_check.specs.inside.KneeTests.{is_within_capacity_over, is_slack_over, knee_rises_over}
use Rattle.pc_check.proofs.BelowLaws.{each_below-same, some_below-same}

module _ (knees : Knees) (a : ℕ) (list : List Knee) (are : AreKneesOf knees a list) where
  each : (test : ℕ → ℕ → ℕ → Bool) → each_below (length list) (λ k. test k (knee_at list k).at (knee_at list k).rise) ≡ each_below (knees.count a) (λ k. test k (knees.knee a k) (knees.rise a k))
  each test =
      each_below-same (length list) (λ k. test k (knee_at list k).at (knee_at list k).rise) (λ k. test k (knees.knee a k) (knees.rise a k)) (λ k lt. rw (are.at k lt, are.rise k lt) refl)
      ∙ ap (λ n. each_below n (λ k. test k (knees.knee a k) (knees.rise a k))) are.count

  some : (test : ℕ → Bool) → some_below (length list) (λ k. test (knee_at list k).at) ≡ some_below (knees.count a) (λ k. test (knees.knee a k))
  some test =
      some_below-same (length list) (λ k. test (knee_at list k).at) (λ k. test (knees.knee a k)) (λ k lt. rw (are.at k lt) refl)
      ∙ ap (λ n. some_below n (λ k. test (knees.knee a k))) are.count

  pub is_within_capacity-list : (flows : List ℕ) → is_within_capacity_over list flows ≡ each_below (knees.count a) (λ k. nat_le (slice_index flows k) (knees.rise a k))
  is_within_capacity-list flows = each (λ k at rise. nat_le (slice_index flows k) rise)

  pub is_slack-list : (head tail crash : ℕ) (flows : List ℕ) →
      is_slack_over head tail crash list flows
      ≡ (each_below (knees.count a) (λ k. is_slack_at_knee head tail (knees.knee a k) (knees.rise a k) (slice_index flows k))
      && (not (nat_lt (tail + crash) head) || slice_index flows (knees.count a) == 0))
  is_slack-list head tail crash flows =
      ap (λ passes. passes && (not (nat_lt (tail + crash) head) || slice_index flows (length list) == 0)) (each (λ k at rise. is_slack_at_knee head tail at rise (slice_index flows k)))
      ∙ ap (λ n. each_below (knees.count a)
      (λ k. is_slack_at_knee head tail (knees.knee a k) (knees.rise a k) (slice_index flows k))
      && (not (nat_lt (tail + crash) head) || slice_index flows n == 0)) are.count

  pub knee_rises_over-list : (head tail : ℕ) → knee_rises_over head tail list ≡ sum_to (knees.count a) (λ k. if nat_lt head (tail + knees.knee a k) then knees.rise a k else 0)
  knee_rises_over-list head tail =
      sum_to-same (length list) (λ k. if nat_lt head (tail + (knee_at list k).at) then (knee_at list k).rise else 0)
      (λ k. if nat_lt head (tail + knees.knee a k) then knees.rise a k else 0) (λ k lt. rw (are.at k lt, are.rise k lt) refl)
      ∙ ap (λ n. sum_to n (λ k. if nat_lt head (tail + knees.knee a k) then knees.rise a k else 0)) are.count

  pub some-list : (test : ℕ → Bool) → some_below (length list) (λ k. test (knee_at list k).at) ≡ some_below (knees.count a) (λ k. test (knees.knee a k))
  some-list = some
