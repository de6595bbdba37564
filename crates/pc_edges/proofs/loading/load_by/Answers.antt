use Rattle.std.proofs.Common.{rules, ◌≡◌, [], ◌∷◌, ◌++◌, length, take, sym, ◌∙◌, subst, arith}
use Rattle.std.proofs.lemmas.List.{length-take-le}
use Rattle.std.proofs.KnownBytes.{Consumes-trans}
use Rattle.std.specs.Io.KnownBytes.{Consumes}
use Rattle.pc_edges.specs.Pulls.{CameIn}
use Rattle.pc_edges.proofs.PullLaws.{CameIn-more}
use Rattle.pc_edges.proofs.loading.load_by.Goals as goal

pub loop-n-preserved : goal.loop-n-preserved
loop-n-preserved g c =
    let s = g.S.Source in
    let kept = c.loop-n.invariant in
    let piece = take c.in-Ok.n c.pull.new.buf in
    let there : length piece ≡ c.in-Ok.n = length-take-le c.in-Ok.n c.pull.new.buf (search rules) in
    let items : c.extend_from_slice.new.self.items ≡ c.loop-n.bytes.items ++ piece = c.in-Ok-extend_from_slice.ensures.items in
    record {
      within = search rules;
      taken = subst (λ l. Consumes (s.left c.args.source.now) (s.left c.pull.new.self) l) (sym items) (Consumes-trans _ _ _ c.loop-n.bytes.items piece kept.taken c.in-Ok.ensures.bytes);
      no_fault = c.in-Ok.ensures.no_fault ∙ kept.no_fault;
      came = (
        kept.came.0 ++ piece ∷ [],
        subst (λ l. CameIn s.left s.faults s.pulls (kept.came.0 ++ piece ∷ []) l c.args.source.now c.pull.new.self) (sym items)
            (CameIn-more s.left s.faults s.pulls (kept.came.0) c.loop-n.bytes.items piece c.args.source.now c.loop-n.source c.pull.new.self (kept.came.1)
            (omega (arith, there, c.if-n-eq0.false)) c.in-Ok.ensures.bytes c.in-Ok.ensures.no_fault c.pull.ensures.pulled),
      );
    }
