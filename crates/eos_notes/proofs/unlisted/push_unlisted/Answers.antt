use Rattle.std.proofs.Common.{sym, subst, map, List, IsPermutation}
use Rattle.std.proofs.lemmas.List.Sorted.{IsPermutation-map}
use Rattle.std.proofs.lemmas.Result.{IfOk-weaker}
use Rattle.eos_base.specs.declared.partition_name.PartitionName.{PartitionName}
use Rattle.eos_notes.specs.declared.unlisted.NameRef.{NameRef}
use Rattle.eos_notes.specs.CommitNotes.{end_name}
use Rattle.eos_notes.specs.steps.Unlisted.{plain_name}
use Rattle.eos_notes.proofs.unlisted.push_unlisted.Goals as goal

pub returns : goal.returns
returns c =
    let moved = IsPermutation-map plain_name _ _ c.in_order-listed.ensures.same in
    let of = subst (λ (names : List PartitionName). IsPermutation names (map plain_name c.in_order-listed.result.items)) c.in_ok-names.ensures moved in
    let listed = subst (λ (names : List NameRef). IsPermutation (map end_name c.args.ends.now) (map plain_name names)) (sym c.as_slice.ensures.value) of in
    IfOk-weaker c.push_by.result _ _ (λ _ all logs table. all logs c.args.ends.now table listed) c.push_by.ensures
