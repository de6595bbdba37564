use Rattle.pc_load.proofs.text.write_load.Goals as goal

pub returns : goal.returns
returns g c = (
  c.preorder.result.now,
  rw (← c.tree.ensures.tree) c.preorder.ensures.order,
  c.push_out.ensures.text _ _ c.without_buffer-page.ensures c.put_load.ensures,
)
