use Rattle.std.proofs.Common.{refl, arith}
use Rattle.pc_certify.proofs.certificate.Certificate.put_on.Goals as goal

pub put_counted-requires-clause-blank : goal.put_counted-requires-clause-blank
put_counted-requires-clause-blank g c = record { same_name = refl; same_parts = refl; some = omega (arith, c.new.ensures) }

pub put_counted-requires-clause-solver : goal.put_counted-requires-clause-solver
put_counted-requires-clause-solver g c =
    let begun = c.begin-solver.ensures in
    record {
      along = record { same_net = begun.net; longest = begun.longest; shortest = begun.shortest };
      none = begun.given;
      top = omega (arith, begun.level.upper, begun.level.fall);
    }
