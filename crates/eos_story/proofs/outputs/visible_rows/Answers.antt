use Rattle.std.proofs.Common.{[], ◌∷◌, ap, ◌∙◌}
use Rattle.eos_base.specs.declared.partition_name.PartitionName.{PartitionName}
use Rattle.eos_claims.specs.declared.place.Place.{Place}
use Rattle.eos_sought.specs.declared.sought.Sought.TheVariants.{At}
use Rattle.eos_story.specs.Questions.{Records, of_kind}
use Rattle.eos_story.proofs.RowsTold.{then, each_as}
use Rattle.eos_story.proofs.outputs.visible_rows.Goals as goal

pub returns : goal.returns
returns c =
    let fault = c.args.fault.now in
    let place : Place = record { partition = fault.partition; offset = fault.offset } in
    let same = ap (λ (n : PartitionName). record { partition = n; offset = fault.offset }) c.in_ok-partition.ensures in
    then (each_as (Records (At place) 1 ∷ []) (ap (λ (p : Place). Records (At p) 1 ∷ []) (c.in_ok-at.ensures ∙ same)) c.in_ok-push_records.ensures)
    (each_as (of_kind c.args.scene.now.logs.now place fault.kind) (ap (λ (p : Place). of_kind c.args.scene.now.logs.now p fault.kind) same) c.in_ok-kind_rows.ensures)
