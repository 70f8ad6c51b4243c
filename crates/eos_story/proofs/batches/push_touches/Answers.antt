use Rattle.std.proofs.lemmas.Int.{to_z-of_z}
use Rattle.std.proofs.Common.{◌≡◌, List, ap, sym, subst, ◌∙◌, drop, take, slice_get, ◌+◌, ◌-◌}
use Rattle.eos_sought.specs.declared.partition.Placed.{Placed}
use Rattle.eos_sought.specs.declared.wanted.Wanted.TheVariants.{Of}
use Rattle.eos_sought.specs.Partitions.{AreBatchesOf}
use Rattle.eos_story.specs.Answers.{around}
use Rattle.eos_story.specs.steps.Seen.{OfAllSeen}
use Rattle.eos_story.proofs.BatchesTold.{all_around, around_told}
use Rattle.eos_story.proofs.batches.push_touches.Goals as goal

pub push_each-requires-clause-have : goal.push_each-requires-clause-have
push_each-requires-clause-have c = all_around _ _ c.as_slice-batches.result.now c.around-shown.result.now c.around-shown.ensures

pub returns : goal.returns
returns c =
    let p = c.ranges.producer in
    let batches = simp to_z-of_z at c.in_ok-all.ensures in
    let told = simp to_z-of_z at c.in_ok-push_each.ensures in
    let more = simp to_z-of_z at c.in_ok-push_more.ensures in
    let name = c.args.name.now in
    let wanted = Of c.args.producer in
    let found : List Placed = c.as_slice-batches.result.now in
    let are : OfAllSeen c.args.scene.now (λ ps. AreBatchesOf ps name wanted found) = λ ps seen. subst (λ (xs : List Placed). AreBatchesOf ps name wanted xs) (sym c.as_slice-batches.ensures.value) (batches ps seen.folded) in
    let shown : c.around-shown.result.now ≡ around c.args.offset found = c.around-shown.ensures ∙ ap (λ n. drop (n - 2) (take (n + 3) found)) c.count_below-at.ensures.count in
    (found, are, c.batch_before.ensures ∙ ap (λ n. slice_get found (n - 1)) c.count_below-at.ensures.count, around_told name wanted c.args.offset found c.around-shown.result.now are told shown more)
