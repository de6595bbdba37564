use Rattle.pc_cert.proofs.writing.write_head.Goals as goal

pub returns-clause-text : goal.returns-clause-text
returns-clause-text g c = c.push_out.ensures.text _ _ c.without_buffer-page.ensures c.put_head.ensures.text
