use Rattle.eos_segment.proofs.one_segment.chain_from.Goals as goal

pub returns-clause-ok : goal.returns-clause-ok
returns-clause-ok g c =
    let e = c.in_ok-walk.ensures.ok in
    let h = e.3 c.new.ensures in
    (e.0, e.1, e.2, c.finish.ensures e.0 h.0 h.2 h.1)
