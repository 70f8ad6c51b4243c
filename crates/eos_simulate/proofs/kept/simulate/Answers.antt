use Rattle.eos_simulate.proofs.Deeds.{lossless_kept, lossless_left}
use Rattle.eos_simulate.proofs.kept.simulate.Goals as goal

pub returns-clause-schedule : goal.returns-clause-schedule
returns-clause-schedule c none rests honest lossless =
    c.in_ok-evidence.ensures.schedule rests (c.in_ok-cluster.ensures.honest honest) (lossless_kept _ _ _ _ c.in_ok-cluster.ensures.kept none lossless)

pub returns-clause-right : goal.returns-clause-right
returns-clause-right c none rests honest lossless =
    c.in_ok-evidence.ensures.right rests (c.in_ok-cluster.ensures.honest honest) (lossless_kept _ _ _ _ c.in_ok-cluster.ensures.kept none lossless)

pub returns-clause-faultless : goal.returns-clause-faultless
returns-clause-faultless c none rests honest lossless =
    c.in_ok-evidence.ensures.faultless rests (c.in_ok-cluster.ensures.honest honest) (lossless_kept _ _ _ _ c.in_ok-cluster.ensures.kept none lossless)

pub returns-clause-lossless : goal.returns-clause-lossless
returns-clause-lossless c none unlost =
    lossless_left _ _ _ _ c.in_ok-cluster.ensures.kept none (c.in_ok-cluster.ensures.lossless unlost)
