-- What values with lent names stand for.
use Rattle.eos_claims.specs.Outputs.{Commit}
use Rattle.eos_commits.specs.declared.commits.CommitRef.{CommitRef}
use Rattle.eos_commits.specs.EpochCommits.{EpochCommit}

abbrev pub plain_commit : CommitRef → Commit
plain_commit c = record { partition = record { topic = c.topic.now; partition = c.partition }; offset = c.offset; writer = c.writer }

abbrev pub epoch_commit : CommitRef → EpochCommit
epoch_commit c = record { commit = plain_commit c; leader_epoch = c.leader_epoch }
