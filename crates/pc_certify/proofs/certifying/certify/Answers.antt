use Rattle.pc_certify.proofs.certifying.certify.Goals as goal

pub returns-in-Ok-finish-clause-done : goal.returns-in-Ok-finish-clause-done
returns-in-Ok-finish-clause-done g c =
    let (text, is, put) = c.put_on.ensures in
    (text, is, (c.in-Ok-finish.ensures.text _ text c.in-Ok-with_capacity.ensures put).ok)

pub returns-clause-fault : goal.returns-clause-fault
returns-clause-fault g c = λ fault.
    let (text, is, put) = c.put_on.ensures in
    (text, is, (c.in-Err.ensures.text _ text c.in-Ok-with_capacity.ensures put).err)
