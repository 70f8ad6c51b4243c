use Rattle.std.proofs.Common.{map, take, subst}
use Rattle.eos_commits.specs.Plain.{plain_commit}
use Rattle.eos_faults.specs.steps.Tables.{AreOffsets}
use Rattle.eos_faults.proofs.TableSteps.{seen_more}
use Rattle.eos_faults.proofs.commits.offsets_of.Goals as goal

pub loop-commit-preserved : goal.loop-commit-preserved
loop-commit-preserved c =
    let commits = c.args.commits.now in
    let i = c.loop-commit.commit-index in
    subst (AreOffsets c.take_offset.new.offsets) (seen_more plain_commit commits i _ c.loop-commit-test.true) (c.in_ok-take_offset.ensures (map plain_commit (take i commits)) c.loop-commit.invariant)
