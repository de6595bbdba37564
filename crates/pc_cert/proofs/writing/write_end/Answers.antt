use Rattle.pc_cert.proofs.writing.write_end.Goals as goal

pub returns : goal.returns
returns g c = c.push_out.ensures.text _ _ c.without_buffer-page.ensures c.put_end.ensures
