use Rattle.std.proofs.Common.{◌∷◌, [], ◌∙◌}
use Rattle.pc_cert.specs.declared.line.CertLine.TheVariants.{Segment}
use Rattle.pc_cert.specs.Text.{text_of}
use Rattle.pc_edges.proofs.lemmas.page.PageLaws.{Adds-as, ◌⨾◌}
use Rattle.pc_cert.proofs.WordLaws.{segment_words}
use Rattle.pc_cert.proofs.segment.put_ends.Goals as goal

pub returns : goal.returns
returns g c =
    Adds-as _ (segment_words c.upper.result c.lower.result c.cost.result c.slope.result ∙ (λ i. text_of (Segment (c.upper.ensures i) (c.lower.ensures i) (c.cost.ensures i) (c.slope.ensures i) ∷ [])))
    (c.put.ensures ⨾ c.put_number.ensures ⨾ c.put_number-2.ensures ⨾ c.put_number-3.ensures ⨾ c.put_number-4.ensures ⨾ c.put-2.ensures)
