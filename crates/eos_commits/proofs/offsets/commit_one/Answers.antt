use Rattle.std.proofs.Common.{rules, ◌∙◌, ◌≡◌, subst, Some, w32, to_z, of_z, List, ℕ, ℤ}
use Rattle.std.specs.Prelude.{slice_get, slice_set}
use Rattle.eos_base.specs.declared.partition_name.PartitionName.{PartitionName}
use Rattle.eos_base.specs.Members.{Has}
use Rattle.eos_commits.specs.Plain.{plain_commit}
use Rattle.eos_commits.proofs.CommittedTable.{set_at, set_none}
use Rattle.eos_commits.proofs.offsets.commit_one.Goals as goal

abbrev name_with : List ℕ → ℤ → PartitionName
name_with topic number = record { topic = topic; partition = number }

pub returns-in-Some-clause-set : goal.returns-in-Some-clause-set
returns-in-Some-clause-set c = λ up.
    let number : to_z w32 (of_z w32 c.args.commit.now.partition) ≡ c.args.commit.now.partition = search rules in
    let found : slice_get c.args.names.now c.in-Some.place ≡ Some (name_with c.args.commit.now.topic.now c.args.commit.now.partition)
    = subst (λ n. slice_get c.args.names.now c.in-Some.place ≡ Some (name_with c.args.commit.now.topic.now n)) number c.in-Some.ensures.named in
    let at = set_at c.args.names.now (plain_commit c.args.commit.now) c.args.offsets.now.items c.in-Some.place c.requires up found in
    let set : c.set_offset.new.offsets.items ≡ slice_set c.args.offsets.now.items c.in-Some.place c.args.commit.now.offset = search rules in
    set ∙ at

pub returns-in_default-clause-set : goal.returns-in_default-clause-set
returns-in_default-clause-set c = λ up.
    let number : to_z w32 (of_z w32 c.args.commit.now.partition) ≡ c.args.commit.now.partition = search rules in
    let absent = subst (λ n. Has c.args.names.now (name_with c.args.commit.now.topic.now n) → ⊥) number (c.in_default.ensures.absent up) in
    set_none c.args.names.now (plain_commit c.args.commit.now) c.args.offsets.now.items c.requires absent
