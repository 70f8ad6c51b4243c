use Rattle.std.proofs.Common.{map}
use Rattle.eos_commits.specs.Plain.{plain_commit}
use Rattle.eos_lineage.specs.steps.Tables.{plain_pass, passes_of}
use Rattle.eos_lineage.proofs.PushedMore.{pushed_more}
use Rattle.eos_lineage.proofs.passes.all_passes.Goals as goal

pub loop-commit-preserved : goal.loop-commit-preserved
loop-commit-preserved c =
    pushed_more passes_of plain_commit (map plain_pass c.loop-commit.all.items) (map plain_pass c.push_pass.new.all.items) c.args.commits.now c.loop-commit.commit-index _
    c.loop-commit-test.true c.loop-commit.invariant c.in_ok-push_pass.ensures
