use Rattle.eos_faults.proofs.by_range.take_share.Goals as goal

pub returns-then-taken : goal.returns-then-taken
returns-then-taken g c =
    let took = c.requires.share.took in
    record { list = took.list; taken = c.in_ok-taken.ensures.taken c.if-taken.true c.requires.share.begun _ c.requires.share.begins took.taken; leads = took.leads }
