use Rattle.std.specs.Prelude.{IfNone, IsNone, IsSome, option_to_list}
use Rattle.pc_cert.specs.Grammar.{next}
use Rattle.std.proofs.Common.{◌≡◌, ◌<◌, [], ◌∷◌, ◌++◌, take, drop, Some, None, refl, sym, ap, subst, ◌∙◌, arith, rules, append-nil}
use Rattle.std.proofs.lemmas.List.{take-append-drop}
use Rattle.pc_cert.specs.inside.Reader.{ReadsAs}
use Rattle.pc_check.specs.Texts.{IsFailing}
use Rattle.pc_check.specs.inside.Auditing.{Auditing, HasRead, IsOngoingAudit, audit_bytes_left}
use Rattle.pc_check.proofs.AuditLaws.{malformed_fails, may_feed, may_take, line_fails, less_behind_piece, less_behind_line}
use Rattle.pc_check.proofs.audit.Audit.take_line.Goals as goal

pub returns-in-Err : goal.returns-in-Err
returns-in-Err c =
    let old : Auditing = record { reader = c.self.inside.reader; checker = c.self.inside.checker } in
    let going : IsOngoingAudit old = subst (λ a. IsOngoingAudit a) (sym c.self.view_is) c.requires.going in
    record {
      within = search rules;
      some = search rules;
      goes_on = search rules;
      going = search rules;
      fails = λ text more h.
          let before : HasRead text old = subst (λ a. HasRead text a) (sym c.self.view_is) h in
          subst (λ (a : Auditing). IsFailing a.checker.net (text ++ (c.args.piece.now ++ more)) (record { line = c.in-Err.malformed.line; reason = 0 })) c.self.view_is
          (malformed_fails text more c.args.piece.now old c.feed_known.new.self c.in-Err.malformed going before c.in-Err.ensures.kept (c.in-Err.ensures.stands before.lines text before.read));
      net = ap (λ (a : Auditing). a.checker.net) c.self.view_is;
      left = search rules;
    }

pub take_known-requires : goal.take_known-requires
take_known-requires c =
    let old : Auditing = record { reader = c.self.inside.reader; checker = c.self.inside.checker } in
    let going : IsOngoingAudit old = subst (λ a. IsOngoingAudit a) (sym c.self.view_is) c.requires.going in
    let text = c.requires.read.0 in
    let before : HasRead text old = subst (λ a. HasRead text a) (sym c.self.view_is) c.requires.read.1 in
    let line : c.feed_known.new.known.line ≡ Some c.in-Some.line.now = sym c.in-Some.ensures in
    record {
      known = line;
      goes =
          subst (λ p. IfNone c.self.inside.checker.fail (next c.self.inside.checker.kept.place c.in-Some.line.now ≡ Some p)) (sym c.place-place.ensures)
          (may_take old c.feed_known.new.self before.lines c.in-Some.line.now (text ++ take c.in-Ok.used c.args.piece.now) going before.checked c.in-Ok.ensures.kept
          (subst (λ l. ReadsAs c.feed_known.new.self (before.lines ++ option_to_list l) (text ++ take c.in-Ok.used c.args.piece.now)) line (c.in-Ok.ensures.stands before.lines text before.read)));
    }

pub returns-in-Some-take_known : goal.returns-in-Some-take_known
returns-in-Some-take_known c = record {
  within = search rules;
  some = search rules;
  goes_on = search rules;
  going = search rules;
  fails = λ text more h.
      let old : Auditing = record { reader = c.self.inside.reader; checker = c.self.inside.checker } in
      let before : HasRead text old = subst (λ a. HasRead text a) (sym c.self.view_is) h in
      let line : c.feed_known.new.known.line ≡ Some c.in-Some.line.now = sym c.in-Some.ensures in
      subst (λ (a : Auditing). IsFailing a.checker.net (text ++ (c.args.piece.now ++ more)) c.in-Some-take_known.fail) c.self.view_is
      (line_fails text more c.args.piece.now (take c.in-Ok.used c.args.piece.now)
      (drop c.in-Ok.used c.args.piece.now) old c.feed_known.new.self c.take_known.new.self
      (before.lines ++ c.in-Some.line.now ∷ []) c.in-Some-take_known.fail
      (take-append-drop c.in-Ok.used c.args.piece.now)
      c.in-Ok.ensures.kept
      (subst (λ l. ReadsAs c.feed_known.new.self (before.lines ++ option_to_list l) (text ++ take c.in-Ok.used c.args.piece.now)) line (c.in-Ok.ensures.stands before.lines text before.read))
      c.take_known.ensures.net
      (sym c.take_known.ensures.fail ∙ c.in-Some-take_known.is)
      (c.take_known.ensures.stands before.lines before.checked));
  net = c.take_known.ensures.net ∙ ap (λ (a : Auditing). a.checker.net) c.self.view_is;
  left = search rules;
}

pub returns-in_default : goal.returns-in_default
returns-in_default c =
    let old : Auditing = record { reader = c.self.inside.reader; checker = c.self.inside.checker } in
    let new : Auditing = record { reader = c.feed_known.new.self; checker = c.self.inside.checker } in
    let going : IsOngoingAudit old = subst (λ a. IsOngoingAudit a) (sym c.self.view_is) c.requires.going in
    let none : c.feed_known.new.known.line ≡ None = sym c.in_default.ensures in
    record {
      within = c.in-Ok.ensures.within;
      some = omega (arith, c.requires.some, c.in-Ok.ensures.no_line (subst (λ l. IsNone l) (sym none) refl));
      goes_on = λ text h.
          let before : HasRead text old = subst (λ a. HasRead text a) (sym c.self.view_is) h in
          record {
            lines = before.lines;
            read = subst (λ ls. ReadsAs c.feed_known.new.self ls (text ++ take c.in-Ok.used c.args.piece.now)) (append-nil before.lines)
                (subst (λ l. ReadsAs c.feed_known.new.self (before.lines ++ option_to_list l) (text ++ take c.in-Ok.used c.args.piece.now)) none
                (c.in-Ok.ensures.stands before.lines text before.read));
            checked = before.checked;
          };
      going = record { well_formed = c.in-Ok.ensures.kept; no_fail = going.no_fail; few = going.few; short = c.feed_known.ensures.short };
      fails = search rules;
      net = ap (λ (a : Auditing). a.checker.net) c.self.view_is;
      left = subst (λ a. audit_bytes_left new < audit_bytes_left a) c.self.view_is
          (less_behind_piece old new c.args.piece.now going c.requires.some refl (c.in-Ok.ensures.held (subst (λ l. IsNone l) (sym none) refl)));
    }

pub returns : goal.returns
returns c =
    let old : Auditing = record { reader = c.self.inside.reader; checker = c.self.inside.checker } in
    let new : Auditing = record { reader = c.feed_known.new.self; checker = c.take_known.new.self } in
    let going : IsOngoingAudit old = subst (λ a. IsOngoingAudit a) (sym c.self.view_is) c.requires.going in
    let line : c.feed_known.new.known.line ≡ Some c.in-Some.line.now = sym c.in-Some.ensures in
    record {
      within = c.in-Ok.ensures.within;
      some = (c.in-Ok.ensures.one_line (subst (λ l. IsSome l) (sym line) refl)).0;
      goes_on = λ text h.
          let before : HasRead text old = subst (λ a. HasRead text a) (sym c.self.view_is) h in
          record {
            lines = before.lines ++ c.in-Some.line.now ∷ [];
            read = subst (λ l. ReadsAs c.feed_known.new.self (before.lines ++ option_to_list l) (text ++ take c.in-Ok.used c.args.piece.now)) line
                (c.in-Ok.ensures.stands before.lines text before.read);
            checked = c.take_known.ensures.stands before.lines before.checked;
          };
      going = record {
        well_formed = c.in-Ok.ensures.kept;
        no_fail = sym c.take_known.ensures.fail ∙ c.in_default-take_known.is;
        few = c.in_default-take_known.ensures.few;
        short = c.feed_known.ensures.short;
      };
      fails = search rules;
      net = c.take_known.ensures.net ∙ ap (λ (a : Auditing). a.checker.net) c.self.view_is;
      left = subst (λ a. audit_bytes_left new < audit_bytes_left a) c.self.view_is (less_behind_line old new going c.in_default-take_known.ensures.left);
    }

pub feed_known-requires : goal.feed_known-requires
feed_known-requires c =
    let old : Auditing = record { reader = c.self.inside.reader; checker = c.self.inside.checker } in
    let going : IsOngoingAudit old = subst (λ a. IsOngoingAudit a) (sym c.self.view_is) c.requires.going in
    let before : HasRead c.requires.read.0 old = subst (λ a. HasRead c.requires.read.0 a) (sym c.self.view_is) c.requires.read.1 in
    may_feed c.requires.read.0 old before going
