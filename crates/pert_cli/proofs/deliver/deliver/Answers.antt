use Rattle.pert_cli.proofs.deliver.deliver.Goals as goal

pub returns-in-Ok : goal.returns-in-Ok
returns-in-Ok g c =
    let (text, is, put) = c.put_on.ensures in
    (text, is, (c.in-Ok.ensures.text _ text c.in_ok-page.ensures put).ok)

pub returns : goal.returns
returns g c =
    let (text, is, put) = c.put_on.ensures in
    (text, is, (c.in-Err.ensures.text _ text c.in_ok-page.ensures put).err)
