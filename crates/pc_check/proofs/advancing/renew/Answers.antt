use Rattle.std.proofs.Common.{◌≡◌, ◌<◌, length, set, refl, ap, subst, ◌∙◌, arith}
use Rattle.std.specs.Prelude.{slice_index}
use Rattle.pc_model.specs.Walk.{from_of, to_of}
use Rattle.pc_check.specs.declared.fast.passed.Passed.{Passed}
use Rattle.pc_check.specs.inside.fast.Passed.{passed_flow, passed_cost}
use Rattle.pc_check.specs.inside.Safe.{IsExchanged}
use Rattle.pc_check.proofs.lemmas.fast.PassedLaws.{passed_with, row_read, row_renewed}
use Rattle.pc_check.proofs.SumLaws.{sums_exchanged, is_in_sum, sum_small, cost_exchanged, cost_in_sum, cost_small}
use Rattle.pc_check.proofs.advancing.renew.Goals as goal

pub index-requires : goal.index-requires
index-requires c = omega (arith, c.requires.known, c.requires.safe.rows.one_each)

pub index-requires-2 : goal.index-requires-2
index-requires-2 c = omega (arith, c.requires.known, c.requires.safe.rows.one_each)

pub index_mut-requires : goal.index_mut-requires
index_mut-requires c = omega (arith, c.requires.known, c.requires.safe.rows.one_each)

pub exchange-requires-clause-known : goal.exchange-requires-clause-known
exchange-requires-clause-known c = omega (arith, c.to-to.ensures.known, c.requires.safe.entering, ap (λ n. n.events) c.net.ensures.network)

pub exchange-requires-2-clause-known : goal.exchange-requires-2-clause-known
exchange-requires-2-clause-known c = omega (arith, c.from-from.ensures.known, c.requires.safe.leaving, ap (λ n. n.events) c.net-2.ensures.network)

pub exchange-requires-clause-there : goal.exchange-requires-clause-there
exchange-requires-clause-there c =
    let net = c.args.net.now in
    let tally = c.args.tally.now in
    let event_of = to_of net.network.arcs in
    let to : c.to-to.result ≡ event_of tally.acts = c.to-to.ensures.event ∙ ap (λ n. to_of n.arcs tally.acts) c.net.ensures.network in
    let there : event_of tally.acts < net.network.events = omega (arith, c.to-to.ensures.known, to, ap (λ n. n.events) c.net.ensures.network) in
    let row = row_read tally.acts c.index.result.now c.requires.safe.rows c.requires.known c.index.ensures in
    omega (
      arith,
      ap (λ (r : Passed). r.flow) row,
      ap (slice_index tally.inflow.items) to,
      is_in_sum net tally.rows.items event_of tally.acts tally.inflow.items c.requires.known there c.requires.safe.inflow,
    )

pub exchange-requires-clause-small : goal.exchange-requires-clause-small
exchange-requires-clause-small c =
    let net = c.args.net.now in
    let tally = c.args.tally.now in
    let event_of = to_of net.network.arcs in
    let to : c.to-to.result ≡ event_of tally.acts = c.to-to.ensures.event ∙ ap (λ n. to_of n.arcs tally.acts) c.net.ensures.network in
    let there : event_of tally.acts < net.network.events = omega (arith, c.to-to.ensures.known, to, ap (λ n. n.events) c.net.ensures.network) in
    let small = sum_small event_of tally.inflow.items (event_of tally.acts) c.requires.safe.rows c.requires.safe.inflow there in
    omega (arith, c.facts.ensures.activities, ap (slice_index tally.inflow.items) to, small, c.requires.passed.small)

pub exchange-requires-2-clause-there : goal.exchange-requires-2-clause-there
exchange-requires-2-clause-there c =
    let net = c.args.net.now in
    let tally = c.args.tally.now in
    let event_of = from_of net.network.arcs in
    let from : c.from-from.result ≡ event_of tally.acts = c.from-from.ensures.event ∙ ap (λ n. from_of n.arcs tally.acts) c.net-2.ensures.network in
    let there : event_of tally.acts < net.network.events = omega (arith, c.from-from.ensures.known, from, ap (λ n. n.events) c.net-2.ensures.network) in
    let row = row_read tally.acts c.index.result.now c.requires.safe.rows c.requires.known c.index.ensures in
    omega (
      arith,
      ap (λ (r : Passed). r.flow) row,
      ap (slice_index tally.outflow.items) from,
      is_in_sum net tally.rows.items event_of tally.acts tally.outflow.items c.requires.known there c.requires.safe.outflow,
    )

pub exchange-requires-2-clause-small : goal.exchange-requires-2-clause-small
exchange-requires-2-clause-small c =
    let net = c.args.net.now in
    let tally = c.args.tally.now in
    let event_of = from_of net.network.arcs in
    let from : c.from-from.result ≡ event_of tally.acts = c.from-from.ensures.event ∙ ap (λ n. from_of n.arcs tally.acts) c.net-2.ensures.network in
    let there : event_of tally.acts < net.network.events = omega (arith, c.from-from.ensures.known, from, ap (λ n. n.events) c.net-2.ensures.network) in
    let small = sum_small event_of tally.outflow.items (event_of tally.acts) c.requires.safe.rows c.requires.safe.outflow there in
    omega (arith, c.facts.ensures.activities, ap (slice_index tally.outflow.items) from, small, c.requires.passed.small)

pub overflow_sub-tally : goal.overflow_sub-tally
overflow_sub-tally c =
    let tally = c.args.tally.now in
    let row = row_read tally.acts c.index-2.result.now c.requires.safe.rows c.requires.known c.index-2.ensures in
    omega (arith, ap (λ (r : Passed). r.cost) row, cost_in_sum tally.rows.items (length c.args.net.now.network.arcs) tally.acts c.requires.known, c.requires.safe.spent)

pub overflow_add-tally : goal.overflow_add-tally
overflow_add-tally c =
    omega (arith, c.facts.ensures.activities, c.requires.safe.spent, cost_small c.requires.safe.rows, c.requires.passed.cheap)

pub returns-clause-row : goal.returns-clause-row
returns-clause-row c = row_renewed c.args.tally.now.acts c.args.passed c.requires.safe.rows c.requires.known

pub returns-clause-rest : goal.returns-clause-rest
returns-clause-rest c = refl

pub returns-clause-safe : goal.returns-clause-safe
returns-clause-safe c =
    let net = c.args.net.now in
    let tally = c.args.tally.now in
    let arcs = net.network.arcs in
    let a = tally.acts in
    let rows = tally.rows.items in
    let more = set rows a c.args.passed in
    let safe = c.requires.safe in
    let known = c.requires.known in
    let now = c.args.passed.flow in
    let to : c.to-to.result ≡ to_of arcs a = c.to-to.ensures.event ∙ ap (λ n. to_of n.arcs a) c.net.ensures.network in
    let from : c.from-from.result ≡ from_of arcs a = c.from-from.ensures.event ∙ ap (λ n. from_of n.arcs a) c.net-2.ensures.network in
    let row = row_read a c.index.result.now safe.rows known c.index.ensures in
    let cost : c.index-2.result.now.cost ≡ passed_cost rows a = ap (λ (r : Passed). r.cost) (row_read a c.index-2.result.now safe.rows known c.index-2.ensures) in
    let flow : c.index.result.now.flow ≡ passed_flow rows a = ap (λ (r : Passed). r.flow) row in
    let renewed = row_renewed a c.args.passed safe.rows known in
    let into : IsExchanged tally.inflow.items c.exchange.new.sums.items (to_of arcs a) (passed_flow rows a) now =
    subst (λ e. IsExchanged tally.inflow.items c.exchange.new.sums.items e (passed_flow rows a) now) to
    (subst (λ f. IsExchanged tally.inflow.items c.exchange.new.sums.items c.to-to.result f now) flow c.exchange.ensures) in
    let out_of : IsExchanged tally.outflow.items c.exchange-2.new.sums.items (from_of arcs a) (passed_flow rows a) now =
    subst (λ e. IsExchanged tally.outflow.items c.exchange-2.new.sums.items e (passed_flow rows a) now) from
    (subst (λ f. IsExchanged tally.outflow.items c.exchange-2.new.sums.items c.from-from.result f now) flow c.exchange-2.ensures) in
    record {
      times = safe.times;
      moves = safe.moves;
      entering = c.exchange.ensures.same_length ∙ safe.entering;
      leaving = c.exchange-2.ensures.same_length ∙ safe.leaving;
      acts = safe.acts;
      rows = passed_with a c.args.passed safe.rows known c.requires.passed;
      inflow = sums_exchanged net rows more (to_of arcs) a tally.inflow.items c.exchange.new.sums.items known renewed into safe.inflow;
      outflow = sums_exchanged net rows more (from_of arcs) a tally.outflow.items c.exchange-2.new.sums.items known renewed out_of safe.outflow;
      spent = omega (arith, cost_exchanged (length arcs) a known renewed, cost, safe.spent, cost_in_sum rows (length arcs) a known);
      forward = safe.forward;
      backward = safe.backward;
    }
