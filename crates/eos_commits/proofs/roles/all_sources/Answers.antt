use Rattle.std.proofs.Common.{◌++◌, ◌∙◌, map}
use Rattle.eos_commits.specs.steps.Roles.{sources_in, plain_source, sources_under}
use Rattle.eos_commits.proofs.PushedMore.{pushed_more}
use Rattle.eos_commits.proofs.roles.all_sources.Goals as goal

pub loop-app-preserved : goal.loop-app-preserved
loop-app-preserved c =
    let before = map plain_source c.loop-app.all.items in
    pushed_more sources_in before (map plain_source c.push_sources.new.all.items)
    c.args.apps.now c.loop-app.app-index c.app-item.result c.loop-app-test.true c.app-item.is c.loop-app.invariant
    (c.in_ok-push_sources.ensures ∙ (λ i. before ++ sources_under (c.as_bytes.ensures i) (c.as_slice.ensures i)))
