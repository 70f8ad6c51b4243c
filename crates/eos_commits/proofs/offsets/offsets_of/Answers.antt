use Rattle.std.proofs.Common.{◌≡◌, ◌∙◌, ap, map, take, take_all, length, List, [], pos}
use Rattle.std.specs.Prelude.{replicate}
use Rattle.eos_base.specs.declared.partition_name.PartitionName.{PartitionName}
use Rattle.eos_claims.specs.Outputs.{Commit, committed_offset}
use Rattle.eos_commits.specs.declared.commits.CommitRef.{CommitRef}
use Rattle.eos_commits.specs.Plain.{plain_commit}
use Rattle.eos_commits.specs.steps.SetOffsets.{set_named}
use Rattle.eos_commits.proofs.CommittedTable.{set_more, taken, length_of_map, none_committed}
use Rattle.eos_commits.proofs.offsets.offsets_of.Goals as goal

pub loop-commit-init : goal.loop-commit-init
loop-commit-init c =
    let names = c.args.names.now in
    let e : c.in_ok-offsets.offsets.items ≡ map (committed_offset []) names = c.in_ok-offsets.ensures.items_if_clones_equal (λ y same. same) ∙ (ap (λ (ns : List PartitionName). replicate (length ns) (pos 0)) c.as_slice.ensures ∙ none_committed names) in
    record { len = ap length e ∙ length_of_map (committed_offset []) names; offsets_are = λ up. e }

pub loop-commit-preserved : goal.loop-commit-preserved
loop-commit-preserved c = record {
  len = c.commit_one.ensures.len;
  offsets_are = λ up. c.commit_one.ensures.set up
      ∙ (ap (set_named c.args.names.now _) (c.loop-commit.invariant.offsets_are up)
      ∙ (set_more c.args.names.now (map plain_commit (take c.loop-commit.commit-index c.args.commits.now)) _
      ∙ ap (λ (cs : List Commit). map (committed_offset cs) c.args.names.now) (taken plain_commit c.args.commits.now c.loop-commit.commit-index _ c.loop-commit-test.true)));
}

pub commit_one-requires : goal.commit_one-requires
commit_one-requires c = c.loop-commit.invariant.len

pub returns : goal.returns
returns c = λ up.
    c.loop-commit.invariant.offsets_are up
    ∙ ap (λ (cs : List CommitRef). map (committed_offset (map plain_commit cs)) c.args.names.now) (take_all c.loop-commit.commit-index c.args.commits.now c.loop-commit-test.false)
