use Rattle.std.proofs.Common.{◌≡◌, ◌+◌, ◌<◌, ◌++◌, None, sym, ap, subst, ◌∙◌, arith, append-nil, length, take, length-take-le}
use Rattle.pc_text.specs.Fields.{run_len}
use Rattle.pc_cert.specs.inside.Reading.{line_of}
use Rattle.pc_cert.specs.inside.Reader.{CertReading, HasReadLine}
use Rattle.pc_cert.proofs.ReaderLaws.{none_from, going, holds, too_long, passed}
use Rattle.pc_cert.proofs.reader.CertReader.feed_known.Goals as goal

pub returns-then-self-end-clause-stands : goal.returns-then-self-end-clause-stands
returns-then-self-end-clause-stands c = λ lines text h.
    let none : c.args.self.now.malformed ≡ None = ap (λ r. r.malformed) (sym c.self.view_is) ∙ none_from c.self.inside.malformed c.in_default.not-Some in
    let held : length c.args.self.now.held ≡ c.self.inside.held = ap (λ r. length r.held) (sym c.self.view_is) ∙ length-take-le _ _ (omega (arith, c.self.invariant.short, c.self.invariant.room)) in
    rw (c.stop.ensures.kept, append-nil)
    (too_long c.stop.result c.args.piece.now c.line_len-end.result (going none h) c.line_len-end.ensures.value
    (omega (arith, held, c.if-self-end.true)) c.line_len-end.ensures.within c.stop.ensures.line)

pub returns-then-end-piece-clause-stands : goal.returns-then-end-piece-clause-stands
returns-then-end-piece-clause-stands c = λ lines text h.
    let none : c.args.self.now.malformed ≡ None = ap (λ r. r.malformed) (sym c.self.view_is) ∙ none_from c.self.inside.malformed c.in_default.not-Some in
    let held : length c.args.self.now.held ≡ c.self.inside.held = ap (λ r. length r.held) (sym c.self.view_is) ∙ length-take-le _ _ (omega (arith, c.self.invariant.short, c.self.invariant.room)) in
    let few : length c.args.self.now.held + length c.args.piece.now < 192 = omega (arith, held, c.self.invariant.short, c.if-self-end.false, c.if-end-piece.true) in
    rw (c.hold.ensures, c.forget.ensures, append-nil, none) (holds c.args.piece.now c.line_len-end.result (going none h) c.line_len-end.ensures.value c.if-end-piece.true few)

pub returns-clause-stands : goal.returns-clause-stands
returns-clause-stands c =
    let none : c.args.self.now.malformed ≡ None = ap (λ r. r.malformed) (sym c.self.view_is) ∙ none_from c.self.inside.malformed c.in_default.not-Some in
    let less : run_len 10 c.args.piece.now < length c.args.piece.now = omega (arith, c.line_len-end.ensures.value, c.line_len-end.ensures.within, c.if-end-piece.false) in
    passed c.args.self.now c.pass.new.self c.learn.new.self.held c.learn.new.known.line c.args.piece.now
    (c.line_len-end.result + 1) c.pass.result none (ap (λ n. n + 1) c.line_len-end.ensures.value) less
    (ap (λ n. line_of (c.args.self.now.held ++ take n c.args.piece.now)) (sym c.line_len-end.ensures.value) ∙ sym c.learn.ensures.line)
    (subst (λ (r : CertReading). HasReadLine c.learn.new.known.line (c.line_len-end.result + 1) r c.pass.new.self c.pass.result) c.learn.ensures.rest c.pass.ensures)
