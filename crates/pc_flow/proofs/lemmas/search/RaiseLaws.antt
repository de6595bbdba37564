-- A search whose flow was raised along the steps that led to an event.
use Rattle.std.proofs.Common.{◌≡◌, ℕ, ◌+◌, ◌-◌, ◌<◌, length, sym, ◌∙◌, ap, subst, inl, inr, arith}
use Rattle.std.proofs.lemmas.Bool.{cases_lt}
use Rattle.pc_model.specs.Walk.{from_of, to_of}
use Rattle.pc_laws.specs.Stair.{IsOnStair}
use Rattle.pc_laws.proofs.Stairs.OnStair.{stair-between}
use Rattle.pc_crash.specs.Priced.{PricedNetwork}
use Rattle.pc_flow.specs.board.Sheets.{Sheet, rank_of, flow_of}
use Rattle.pc_flow.specs.inside.board.Sheets.{against_of, room_of, slot_of}
use Rattle.pc_flow.specs.inside.board.Raising.{IsRaisedBy}
use Rattle.pc_flow.proofs.lemmas.board.AfterRaising.{IsChangedBy, raised-flow}
use Rattle.pc_flow.specs.declared.search.way.Way.{Way}
use Rattle.pc_flow.specs.declared.search.way.Way.TheVariants.{Along, Against}
use Rattle.pc_flow.specs.inside.search.Ways.{near_in, far_in}
use Rattle.pc_flow.specs.inside.search.Searches.{stair_at, gap_at, IsSearch}
use Rattle.pc_flow.specs.inside.search.Growing.{IsScanned, IsMet, AreSettled}
use Rattle.pc_flow.proofs.lemmas.search.WayLaws.{lesser-kept, greater-kept}
use Rattle.pc_flow.proofs.lemmas.search.StepLaws.{step-from_labelled, step-to_labelled}

module _ (net : PricedNetwork) (s t : Sheet) (end by k : ℕ) (search : IsSearch net s) (raised : IsRaisedBy s t end by k) where
  rest : t ≡ record s { room = t.room; flow = t.flow; up = t.up; down = t.down }
  rest = raised.raising.rest

  rank-same : (e : ℕ) → rank_of t e ≡ rank_of s e
  rank-same e = ap (λ (v : Sheet). rank_of v e) rest

  slot-same : (a : ℕ) → slot_of t a ≡ slot_of s a
  slot-same a = ap (λ (v : Sheet). slot_of v a) rest

  gap-same : (a : ℕ) → gap_at net t a ≡ gap_at net s a
  gap-same a = ap (λ (v : Sheet). gap_at net v a) rest

  -- where a label may lead, the flow is as it was
  flow-kept : (a : ℕ) (way : Way) → rank_of s (far_in net way a) ≡ 0 → flow_of t a ≡ flow_of s a
  flow-kept a way none =
      elim (raised-flow s t end by k search.steps raised a) [ inl same ↦ same | inr changed ↦ absurd (clash way none changed.0 changed.1) ]
    where
      clash : (w : Way) → rank_of s (far_in net w a) ≡ 0 → (f : ℕ) → IsChangedBy s t by a f → ⊥
      clash Along is f by_step =
          omega (arith, is, step-to_labelled net s search f by_step.known by_step.has, ap (λ b. rank_of s (to_of net.network.arcs b)) by_step.step)
      clash Against is f by_step =
          omega (arith, is, step-from_labelled net s search f by_step.known by_step.has, ap (λ b. rank_of s (from_of net.network.arcs b)) by_step.step)

  scanned-was : (e : ℕ) → IsScanned t e → IsScanned s e
  scanned-was e is = record {
    labelled = omega (arith, is.labelled, rank-same e);
    within = omega (arith, is.within, rank-same e, ap (λ (v : Sheet). v.head) rest);
  }

  met-was : (a : ℕ) → IsMet net t a → IsMet net s a
  met-was a (inl from) = inl (scanned-was (from_of net.network.arcs a) from)
  met-was a (inr to) = inr (scanned-was (to_of net.network.arcs a) to)

  -- what was settled still is
  pub settled-raised : AreSettled net s → AreSettled net t
  settled-raised settled a known met way may =
      let none : rank_of s (far_in net way a) ≡ 0 = sym (rank-same (far_in net way a)) ∙ may.far in
      let same : flow_of t a ≡ flow_of s a = flow-kept a way none in
      let was = settled a known (met-was a met) way (record {
        near = omega (arith, may.near, rank-same (near_in net way a));
        far = none;
        flows = λ is. omega (arith, may.flows is, same);
      }) in
      (omega (arith, was.0, slot-same a), omega (arith, was.1, lesser-kept net s t a same (gap-same a) way, greater-kept net s t a same (gap-same a) way))

  -- each flow is on its staircase, between its old value and the one to which its room leads
  pub on-raised : (a : ℕ) → a < length net.network.arcs → IsOnStair (stair_at net a) (gap_at net s a) (flow_of t a)
  on-raised a known =
      elim (raised-flow s t end by k search.steps raised a) [
        | inl same ↦ subst (λ x. IsOnStair (stair_at net a) (gap_at net s a) x) (sym same) (search.stairs.on a known)
        | inr changed ↦ on-changed changed.0 changed.1
      ]
    where
      on-changed : (f : ℕ) → IsChangedBy s t by a f → IsOnStair (stair_at net a) (gap_at net s a) (flow_of t a)
      on-changed f is =
          elim (cases_lt 0 (against_of s f)) [
            | inl some ↦
                let least : IsOnStair (stair_at net a) (gap_at net s a) (flow_of s a - room_of s f) =
                subst (λ b. IsOnStair (stair_at net b) (gap_at net s b) (flow_of s b - room_of s f)) is.step (search.led.against f is.known is.has some) in
                stair-between (stair_at net a) (search.stairs.falling a known) (gap_at net s a) (flow_of s a - room_of s f) (flow_of t a) (flow_of s a)
                least (search.stairs.on a known) (omega (arith, is.against some, is.room)) (omega (arith, is.against some))
            | inr none ↦
                let along : against_of s f ≡ 0 = omega arith in
                let most : IsOnStair (stair_at net a) (gap_at net s a) (flow_of s a + room_of s f) =
                subst (λ b. IsOnStair (stair_at net b) (gap_at net s b) (flow_of s b + room_of s f)) is.step (search.led.along f is.known is.has along) in
                stair-between (stair_at net a) (search.stairs.falling a known) (gap_at net s a) (flow_of s a) (flow_of t a) (flow_of s a + room_of s f)
                (search.stairs.on a known) most (omega (arith, is.along along)) (omega (arith, is.along along, is.room))
          ]
