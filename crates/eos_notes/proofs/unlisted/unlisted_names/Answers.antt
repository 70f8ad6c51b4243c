use Rattle.std.proofs.Common.{◌≡◌, ◌++◌, ◌∷◌, ◌∙◌, [], List, map, get_or, not, pos, None, ap, sym, take_all}
use Rattle.std.specs.List.{filter}
use Rattle.std.proofs.lemmas.List.{map-append}
use Rattle.eos_base.specs.Members.{is_found}
use Rattle.eos_base.specs.PartitionNames.{name_cmp}
use Rattle.eos_base.specs.declared.partition_name.PartitionName.{PartitionName}
use Rattle.eos_commits.specs.declared.commits.CommitRef.{CommitRef}
use Rattle.eos_commits.specs.Plain.{plain_commit}
use Rattle.eos_notes.specs.steps.Unlisted.{plain_name, commit_name, is_unlisted}
use Rattle.eos_notes.proofs.PickedMore.{filtered_in, filtered_out}
use Rattle.eos_notes.proofs.unlisted.unlisted_names.Goals as goal
use Rattle.eos_notes.proofs.unlisted.unlisted_names.Goals.{then-not-is_listed+in_ok-push, else-not-is_listed}

pub loop-commit-preserved : goal.loop-commit-preserved
loop-commit-preserved c =
    let listed : List PartitionName = map plain_name c.args.listed.now in
    let commits = c.args.commits.now in
    let i = c.loop-commit.commit-index in
    let blank : CommitRef = record { topic = record { ref_ptr = (0, 0); now = [] }; partition = pos 0; offset = pos 0; leader_epoch = pos 0; writer = None } in
    let name : PartitionName = commit_name (plain_commit (get_or commits i blank)) in
    let found : c.is_listed.result ≡ is_found name_cmp listed name = c.is_listed.ensures ∙ ap (is_found name_cmp listed) c.name_of-name.ensures in
    let now : List PartitionName = map plain_name c.loop-commit.names.items in
    elim c.if-not-is_listed.branch [
      | then-not-is_listed+in_ok-push w ↦
          let pushed = ap (map plain_name) w.in_ok-push.ensures.items ∙ (map-append plain_name c.loop-commit.names.items _ ∙ ap (λ (n : PartitionName). now ++ n ∷ []) c.name_of-name.ensures) in
          filtered_in (is_unlisted listed) commit_name plain_commit now _ commits i blank c.loop-commit-test.true (ap not (sym found ∙ w.if-not-is_listed.true)) c.loop-commit.invariant ((λ j. map plain_name (w.names-is j).items) ∙ pushed)
      | else-not-is_listed w ↦
          filtered_out (is_unlisted listed) commit_name plain_commit now _ commits i blank c.loop-commit-test.true (ap not (sym found ∙ w.if-not-is_listed.false)) c.loop-commit.invariant (λ j. map plain_name (w.names-is j).items)
    ]

pub returns : goal.returns
returns c =
    c.loop-commit.invariant ∙ ap (λ (cs : List CommitRef). filter (is_unlisted (map plain_name c.args.listed.now)) (map commit_name (map plain_commit cs))) (take_all c.loop-commit.commit-index c.args.commits.now c.loop-commit-test.false)
