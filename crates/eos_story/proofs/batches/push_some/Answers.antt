use Rattle.std.proofs.Common.{List, ap, sym, subst, ◌∙◌, take}
use Rattle.std.proofs.lemmas.List.{take_min}
use Rattle.eos_sought.specs.declared.partition.Placed.{Placed}
use Rattle.eos_sought.specs.Partitions.{AreBatchesOf}
use Rattle.eos_story.specs.steps.Seen.{OfAllSeen}
use Rattle.eos_story.proofs.BatchesTold.{all_taken, batches_told}
use Rattle.eos_story.proofs.batches.push_some.Goals as goal

pub push_each-requires-clause-have : goal.push_each-requires-clause-have
push_each-requires-clause-have c = all_taken c.min.result c.as_slice-batches.result.now

pub returns : goal.returns
returns c =
    let name = c.args.name.now in
    let found : List Placed = c.as_slice-batches.result.now in
    let are : OfAllSeen c.args.scene.now (λ ps. AreBatchesOf ps name c.args.wanted found) = λ ps seen. subst (λ (xs : List Placed). AreBatchesOf ps name c.args.wanted xs) (sym c.as_slice-batches.ensures.value) (c.in_ok-found.ensures ps seen.folded) in
    batches_told name c.args.wanted c.args.most found (take c.min.result found) are c.in_ok-push_each.ensures (ap (λ n. take n found) c.min.ensures ∙ take_min c.args.most found) c.in_ok-push_more.ensures
