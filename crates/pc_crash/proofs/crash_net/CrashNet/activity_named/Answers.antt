use Rattle.std.proofs.Common.{◌≡◌, Some, None, nat_eq, subst, sym, arith}
use Rattle.std.specs.List.{position}
use Rattle.std.specs.Cmp.Lexicographic.{pointwise}
use Rattle.pc_names.proofs.PlaceLaws.{code-found, code-missing}
use Rattle.pc_crash.proofs.crash_net.CrashNet.activity_named.Goals as goal

pub returns-in_err-a-clause-unknown : goal.returns-in_err-a-clause-unknown
returns-in_err-a-clause-unknown c =
    let missing = subst (λ codes. position (pointwise nat_eq c.args.code.now) codes ≡ None) c.activities.ensures (sym c.in_err-a.ensures) in
    rw (c.from_residual.ensures, ← c.self.view_is)
    (λ a inside. code-missing c.self.inside.codes.activities c.args.code.now missing a
    (omega (arith, c.self.invariant.whole.activities.one_each)))

pub returns-clause-named : goal.returns-clause-named
returns-clause-named c =
    let found = subst (λ codes. position (pointwise nat_eq c.args.code.now) codes ≡ Some c.in_ok-a.a) c.activities.ensures (sym c.in_ok-a.ensures) in
    rw (← c.self.view_is) ((code-found c.self.inside.codes.activities c.args.code.now c.in_ok-a.a found).1)
