use Rattle.std.proofs.Common.{List, map, take, ◌∙◌, ap, subst}
use Rattle.std.proofs.lemmas.List.{take_all, take_min}
use Rattle.eos_base.specs.declared.partition_name.PartitionName.{PartitionName}
use Rattle.eos_story.proofs.BatchesTold.{first_more}
use Rattle.eos_story.proofs.RowsTold.{nothing}
use Rattle.eos_story.specs.Questions.{FirstBatch}
use Rattle.eos_story.specs.steps.Telling.{TellsEach}
use Rattle.eos_story.proofs.decisions.push_each.Goals as goal

pub loop-name-init : goal.loop-name-init
loop-name-init c = nothing c.args.scene.now c.args.rows.now.items

pub loop-name-preserved : goal.loop-name-preserved
loop-name-preserved c = first_more c.args.wanted (take c.min.result c.args.names.now) c.loop-name.name-index c.name-item.result c.loop-name.invariant c.in_ok-push_first.ensures c.loop-name-test.true c.name-item.is

pub returns : goal.returns
returns c =
    let names = c.args.names.now in
    let e = take_all c.loop-name.name-index (take c.min.result names) c.loop-name-test.false ∙ (ap (λ n. take n names) c.min.ensures ∙ take_min 6 names) in
    subst (λ (ns : List PartitionName). TellsEach c.args.scene.now c.args.rows.now.items c.loop-name.rows.items (map (λ (n : PartitionName). FirstBatch n c.args.wanted) ns)) e c.loop-name.invariant
