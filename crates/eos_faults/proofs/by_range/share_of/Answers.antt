use Rattle.eos_faults.proofs.by_range.share_of.Goals as goal

pub returns : goal.returns
returns g c = record { begun = c.share-share.result; begins = c.share-share.ensures; took = c.in_ok-faults_at.ensures }
