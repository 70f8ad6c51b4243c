use Rattle.std.proofs.Common.{◌≡◌, ◌++◌, ◌∙◌, ap, subst, map, List}
use Rattle.std.specs.List.{filter}
use Rattle.std.proofs.lemmas.Result.{IfOk-weaker}
use Rattle.eos_base.specs.declared.partition_name.PartitionName.{PartitionName}
use Rattle.eos_commits.specs.Plain.{plain_commit}
use Rattle.eos_notes.specs.declared.unlisted.NameRef.{NameRef}
use Rattle.eos_notes.specs.CommitNotes.{unlisted_note}
use Rattle.eos_notes.specs.steps.Unlisted.{plain_name, commit_name, is_unlisted, AreEachOnce}
use Rattle.eos_notes.proofs.EachOnce.{each_once, are_unlisted}
use Rattle.eos_notes.proofs.unlisted.push_group.Goals as goal

pub returns : goal.returns
returns c =
    let listed = map plain_name c.args.listed.now in
    let names = c.distinct_in_order-names.result.items in
    let commits = map plain_commit c.args.commits.now in
    let found : map plain_name c.in_ok-found.found.items ≡ filter (is_unlisted listed) (map commit_name commits) = c.in_ok-found.ensures in
    let each = c.distinct_in_order-names.ensures in
    let once = subst (λ (ns : List PartitionName). AreEachOnce ns (map plain_name names)) found (each_once c.in_ok-found.found.items names each.rises each.each each.all) in
    let same = ap (λ (ns : List NameRef). c.args.all.now.items ++ map (unlisted_note c.args.group.now) (map plain_name ns)) c.as_slice.ensures.value in
    IfOk-weaker c.push_notes.result _ _ (λ _ pushed ends perm. (map plain_name names, are_unlisted ends listed commits (map plain_name names) perm once, pushed ∙ same)) c.push_notes.ensures
