use Rattle.std.proofs.Common.{◌≡◌, ◌+◌, ◌-◌, length, take, sym, ◌∙◌, ap, arith}
use Rattle.std.proofs.lemmas.List.{length-take-le, with_items_is}
use Rattle.pc_edges.specs.declared.lines.reader.TheConstants.{INPUT_LIMIT}
use Rattle.pc_edges.specs.inside.lines.Reading.{Reading}
use Rattle.pc_edges.proofs.lemmas.lines.HoldLemmas.{take-of_take}
use Rattle.pc_edges.proofs.lines.reader.LineReader.fill.Goals as goal

pub invariant_of-self-2 : goal.invariant_of-self-2
invariant_of-self-2 g c =
    let was = c.self.invariant in
    let long : length c.pull.new.buf ≡ c.self.inside.buffer.len = omega arith in
    let items = with_items_is c.self.inside.buffer c.pull.new.buf long in
    record {
      cells = was.cells;
      held = was.held;
      room = ap length items ∙ omega arith;
      from = omega arith;
      to = omega (arith, c.in_ok-n.ensures.fits);
      taken = omega (arith, c.in_ok-n.ensures.fits, c.requires, ap (λ (r : Reading). r.taken) c.self.view_is);
    }

pub returns-clause-filled : goal.returns-clause-filled
returns-clause-filled g c =
    let long : length c.pull.new.buf ≡ c.self.inside.buffer.len = omega arith in
    let items = with_items_is c.self.inside.buffer c.pull.new.buf long in
    let taken = ap (λ (r : Reading). r.taken) c.self.view_is in
    record {
      more = take c.in_ok-n.n c.pull.new.buf;
      taken = c.in_ok-n.ensures.bytes;
      length_is = length-take-le c.in_ok-n.n c.pull.new.buf (omega (arith, c.in_ok-n.ensures.fits));
      room = omega (arith, length-take-le c.in_ok-n.n c.pull.new.buf (omega (arith, c.in_ok-n.ensures.fits)), c.in_ok-n.ensures.fits, c.self.invariant.room);
      ahead =
          ap (take _) items
          ∙ ap (λ n. take n c.pull.new.buf) (omega (arith, taken))
          ∙ sym (take-of_take (INPUT_LIMIT - c.args.self.now.taken) c.in_ok-n.n c.pull.new.buf);
      same = ap (λ (r : Reading). r.line) c.self.view_is;
      counted = ap (λ n. n + c.in_ok-n.n) taken;
      end = λ none. c.in_ok-n.ensures.end none (omega arith);
    }
