use Rattle.std.proofs.lemmas.Int.{to_z-of_z}
use Rattle.std.proofs.Common.{List, map, take, ap, ◌∙◌}
use Rattle.eos_base.specs.declared.partition_name.PartitionName.{PartitionName}
use Rattle.eos_sought.specs.declared.wanted.Wanted.TheVariants.{Data}
use Rattle.eos_story.specs.Questions.{FirstBatch, owed_of}
use Rattle.eos_story.proofs.RowsTold.{each_as}
use Rattle.eos_story.proofs.beside.push_owed_of.Goals as goal

pub returns : goal.returns
returns c =
    let p = c.ranges.producer in
    let q = c.ranges.epoch in
    let each = simp to_z-of_z at c.in_ok-push_each.ensures in
    let names = simp to_z-of_z at c.in_ok-names.ensures in
    let producer = c.args.producer in
    let epoch = c.args.epoch in
    each_as (owed_of c.args.scene.now.logs.now producer epoch)
    (ap (λ (ns : List PartitionName). map (λ (n : PartitionName). FirstBatch n (Data producer epoch)) (take 6 ns)) (c.as_slice.ensures.value ∙ names)) each
