use Rattle.pc_cert.specs.Text.{text_of}
use Rattle.pc_edges.proofs.lemmas.page.PageLaws.{Adds-as, ◌⨾◌}
use Rattle.pc_cert.specs.Document.{document_lines}
use Rattle.pc_certify.proofs.CertifiedLaws.{text_ends, document_fits}
use Rattle.pc_certify.proofs.CertificateLaws.{complete, certificate}
use Rattle.pc_certify.proofs.certificate.put_counted.Goals as goal

pub returns : goal.returns
returns g c =
    let net = c.args.net.now in
    let normal = c.args.walks.now.normal in
    let crash = c.args.walks.now.crash in
    let down = c.put_segments.ensures in (
      text_of (document_lines net normal.path crash.path down.segments),
      certificate net normal crash c.requires.walks _ _ down
          (c.written_is_certified.ensures.text _ _ _ (complete net normal crash c.requires.walks _ _ down)
          (document_fits net normal.path crash.path down.segments down.head_fits down.fit)),
      Adds-as _ (text_ends net normal.path crash.path down.segments) (down.text ⨾ c.put_end.ensures),
    )
