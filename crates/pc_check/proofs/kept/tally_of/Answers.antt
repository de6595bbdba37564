use Rattle.std.proofs.Common.{◌≡◌, length, ap, ◌∙◌, arith}
use Rattle.std.specs.Prelude.{slice_index}
use Rattle.std.proofs.lemmas.List.{get_or-replicate, length-replicate}
use Rattle.pc_model.specs.Walk.{from_of, to_of}
use Rattle.pc_check.specs.declared.cut.Cut.{Cut}
use Rattle.pc_check.proofs.SumLaws.{no_sums, no_cost}
use Rattle.pc_check.proofs.kept.tally_of.Goals as goal

pub returns-clause-safe : goal.returns-clause-safe
returns-clause-safe c =
    let net = c.args.net.now in
    let events : c.events-events.result ≡ net.network.events = c.events-events.ensures.events ∙ ap (λ n. n.events) c.net.ensures.network in
    let nothing = c.in_ok-none_passed.ensures.nothing in
    record {
      times = omega (arith, c.in_ok-with_capacity.ensures.capacity, events);
      moves = omega (arith, c.in_ok-with_capacity-2.ensures.capacity, events);
      entering = ap length (c.in_ok-vec.ensures.items_if_clones_equal (λ y is. cc)) ∙ length-replicate c.events-events.result 0 ∙ events;
      leaving = ap length (c.in_ok-vec-2.ensures.items_if_clones_equal (λ y is. cc)) ∙ length-replicate c.events-events.result 0 ∙ events;
      acts = omega arith;
      rows = c.in_ok-none_passed.ensures.passed;
      inflow = no_sums (to_of net.network.arcs) c.in_ok-vec.field-0.items nothing
          (λ e lt. ap (λ xs. slice_index xs e) (c.in_ok-vec.ensures.items_if_clones_equal (λ y is. cc))
          ∙ get_or-replicate c.events-events.result e 0 0 (omega (arith, lt, events)));
      outflow = no_sums (from_of net.network.arcs) c.in_ok-vec-2.field-0.items nothing
          (λ e lt. ap (λ xs. slice_index xs e) (c.in_ok-vec-2.ensures.items_if_clones_equal (λ y is. cc))
          ∙ get_or-replicate c.events-events.result e 0 0 (omega (arith, lt, events)));
      spent = no_cost nothing;
      forward = omega (arith, ap (λ (cut : Cut). cut.forward) c.none.ensures);
      backward = omega (arith, ap (λ (cut : Cut). cut.backward) c.none.ensures);
    }
