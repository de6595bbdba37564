use Rattle.std.proofs.Common.{◌+◌, [], refl, sym, ap, ◌∙◌}
use Rattle.pc_cert.specs.Grammar.{next}
use Rattle.pc_cert.specs.inside.Reader.{CertReading}
use Rattle.pc_cert.proofs.reader.CertReader.pass.Goals as goal

pub returns : goal.returns
returns c =
    let line = c.in-Some.line.now in
    let moved_to : CertReading → CertReading = λ r. record r { place = c.go_behind.new.self; lines = r.lines + 1; held = [] } in
    record {
      used_is = refl;
      taken = line;
      there = sym c.in-Some.ensures;
      goes = ap (λ (r : CertReading). next r.place line) (sym c.self.view_is) ∙ c.go_behind.ensures.goes c.if-not-go_behind.false;
      moved = ap moved_to c.self.view_is;
    }
