use Rattle.std.proofs.Common.{subst, ap, map, ◌∙◌, IsPermutation}
use Rattle.std.proofs.lemmas.Result.{IfOk-weaker}
use Rattle.eos_commits.specs.Commits.{Topic}
use Rattle.eos_notes.specs.TalliesByLogs.{beside, partition_tally}
use Rattle.eos_notes.specs.declared.tally.TopicRoles.{TopicRoles}
use Rattle.eos_notes.proofs.PartitionRows.{same_roles}
use Rattle.eos_notes.proofs.partitions.partition_tallies_of.Goals as goal

pub returns : goal.returns
returns c =
    let sources = subst (λ topics. IsPermutation topics c.in_ok-sources.sources) (c.as_slice-read.ensures.value ∙ c.in_ok-all_read.ensures) c.in_ok-sources.ensures in
    let outputs = subst (λ topics. IsPermutation topics c.in_ok-outputs.outputs) (c.as_slice-written.ensures.value ∙ c.in_ok-all_written.ensures) c.in_ok-outputs.ensures in
    let roles = same_roles c.args.apps.now c.in_ok-sources.sources c.in_ok-outputs.outputs sources outputs in
    let rows = beside c.args.logs.now.parts.items c.args.logs.now.faults.items c.args.counted.now in
    IfOk-weaker c.tallies_by.result _ _ (λ all is. is ∙ ap (λ (r : Topic → TopicRoles). map (partition_tally r) rows) roles) c.tallies_by.ensures
