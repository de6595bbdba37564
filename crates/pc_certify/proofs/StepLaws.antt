-- The steps of a through walk pass.
use Rattle.std.proofs.Common.{◌≡◌, ℕ, ◌+◌, ◌<◌, true, false, List, [], ◌∷◌, ◌++◌, length, Some, None, refl, sym, ap, subst, ◌∙◌, arith, append_assoc, append-nil}
use Rattle.std.proofs.lemmas.Bool.{eq-eqb, cond-true, and_from}
use Rattle.std.specs.Prelude.{map, slice_index, ◌==◌}
use Rattle.pc_model.specs.Codes.{text_at}
use Rattle.pc_model.specs.Walk.{from_of, to_of, IsWalk, walk_sum}
use Rattle.pc_text.specs.Fields.{◌>>=◌}
use Rattle.pc_cert.specs.declared.line.CertLine.TheVariants.{Step}
use Rattle.pc_crash.specs.Priced.{PricedNetwork}
use Rattle.pc_crash.specs.inside.Priced.{AreNames}
use Rattle.pc_check.specs.declared.walk.Reached.{Reached}
use Rattle.pc_check.specs.Draft.{Draft}
use Rattle.pc_check.specs.Walks.{index_of, further, stepped, walked, at_start, is_through}
use Rattle.pc_check.proofs.NamedLaws.{named_is_index}
use Rattle.pc_check.proofs.Drafts.{begun_part}
use Rattle.pc_cert.specs.Document.{steps}
use Rattle.pc_certify.specs.Complete.{IsThrough}
use Rattle.pc_certify.proofs.PassLaws.{Pass, Pass-nil, Pass-cons, Pass-as}

-- the codes of a walk's activities
abbrev pub codes_of : PricedNetwork → List ℕ → List (List ℕ)
codes_of net walk = map (λ a. text_at net.activities a) walk

module _ (net : PricedNetwork) (names : AreNames (length net.network.arcs) net.activities) where
  -- an activity is found by its code
  named : (a : ℕ) → a < length net.network.arcs → index_of (text_at net.activities a) 0 net.activities ≡ Some a
  named a lt = sym (named_is_index (Some a) (text_at net.activities a) names lt refl tt)

  -- a step along an activity that begins where the walk is
  one_step : (lengths : ℕ → ℕ) (at : Reached) (a : ℕ) → a < length net.network.arcs → from_of net.network.arcs a ≡ at.event
      → stepped net lengths (Some at) (text_at net.activities a) ≡ Some (record { event = to_of net.network.arcs a; sum = at.sum + lengths a })
  one_step lengths at a lt begins =
      ap (λ found. found >>= (λ b. further net.network lengths at b)) (named a lt)
      ∙ cond-true (from_of net.network.arcs a == at.event) (Some (record { event = to_of net.network.arcs a; sum = at.sum + lengths a })) None (eq-eqb (from_of net.network.arcs a) at.event begins)

  reaches : (lengths : ℕ → ℕ) (list : List ℕ) → ((a : ℕ) → lengths a ≡ slice_index list a) → (at : Reached) (walk : List ℕ) (end : ℕ) → IsWalk net.network.arcs at.event walk end
      → walked net lengths (Some at) (codes_of net walk) ≡ Some (record { event = end; sum = at.sum + walk_sum list walk })
  reaches lengths list same at [] end leads =
      let whole : at.sum ≡ at.sum + 0 = omega arith in
      λ i. Some (record { event = leads i; sum = whole i })
  reaches lengths list same at (a ∷ walk) end leads =
      let next : Reached = record { event = to_of net.network.arcs a; sum = at.sum + lengths a } in
      let sums : at.sum + lengths a + walk_sum list walk ≡ at.sum + (slice_index list a + walk_sum list walk) = omega (arith, same a) in
      ap (λ found. walked net lengths found (codes_of net walk)) (one_step lengths at a (leads.0) (leads.1))
      ∙ reaches lengths list same next walk end (leads.2)
      ∙ ap (λ n. Some (record { event = end; sum = n })) sums

  pub comes_through : (lengths : ℕ → ℕ) (list : List ℕ) → ((a : ℕ) → lengths a ≡ slice_index list a) → (walk : List ℕ) (sum : ℕ) → IsThrough net.network list walk sum
      → is_through net.network sum (walked net lengths (at_start net.network) (codes_of net walk)) ≡ true
  comes_through lengths list same walk sum h =
      let all : walk_sum list walk ≡ sum = h.adds in
      let whole : 0 + walk_sum list walk ≡ sum = omega arith in
      let reached = reaches lengths list same (record { event = net.network.start; sum = 0 }) walk net.network.end h.leads in
      subst (λ found. is_through net.network sum found ≡ true) (sym reached)
      (and_from (net.network.end == net.network.end) (0 + walk_sum list walk == sum) (eq-eqb net.network.end net.network.end refl) (eq-eqb (0 + walk_sum list walk) sum whole))

-- the draft during the normal walk, and during the crash walk
abbrev pub in_normal : List (List ℕ) → Draft
in_normal normal = record { normal = normal; crash = []; crash_walk_started = false; segments = []; part = begun_part 0 0 0 0 }

abbrev pub in_crash : List (List ℕ) → List (List ℕ) → Draft
in_crash normal crash = record { normal = normal; crash = crash; crash_walk_started = true; segments = []; part = begun_part 0 0 0 0 }

pub normal_steps : (net : PricedNetwork) (before : List (List ℕ)) (walk : List ℕ) → Pass net (in_normal before) (steps net walk) (in_normal (before ++ codes_of net walk))
normal_steps net before [] = Pass-as (in_normal (before ++ [])) (ap in_normal (sym (append-nil before))) (Pass-nil net (in_normal before))
normal_steps net before (a ∷ walk) =
    Pass-cons (Step (text_at net.activities a)) (steps net walk) refl
    (Pass-as (in_normal (before ++ codes_of net (a ∷ walk))) (ap in_normal (append_assoc before (text_at net.activities a ∷ []) (codes_of net walk)))
    (normal_steps net (before ++ text_at net.activities a ∷ []) walk))

pub crash_steps : (net : PricedNetwork) (normal before : List (List ℕ)) (walk : List ℕ) → Pass net (in_crash normal before) (steps net walk) (in_crash normal (before ++ codes_of net walk))
crash_steps net normal before [] = Pass-as (in_crash normal (before ++ [])) (ap (in_crash normal) (sym (append-nil before))) (Pass-nil net (in_crash normal before))
crash_steps net normal before (a ∷ walk) =
    Pass-cons (Step (text_at net.activities a)) (steps net walk) refl
    (Pass-as (in_crash normal (before ++ codes_of net (a ∷ walk))) (ap (in_crash normal) (append_assoc before (text_at net.activities a ∷ []) (codes_of net walk)))
    (crash_steps net normal (before ++ text_at net.activities a ∷ []) walk))
