use Rattle.std.proofs.Common.{◌++◌, ◌∷◌, [], ap, ◌∙◌}
use Rattle.eos_verdict.specs.declared.verdict.Fault.TheVariants as faults
use Rattle.eos_base.specs.declared.partition_name.PartitionName.{PartitionName}
use Rattle.eos_picture.specs.Window.{place_of}
use Rattle.eos_picture.specs.steps.Spots.{spot_at}
use Rattle.eos_picture.proofs.spots.push_partition.Goals as goal

pub returns : goal.returns
returns c = λ none. c.push_besides.ensures.stays (place_of (faults.Partition c.args.fault.now)) (
  [],
  c.in_ok-push_offset.ensures ∙ (ap (λ z. z ++ spot_at (record { partition = c.in_ok-name_in.field-0; offset = c.args.fault.now.offset }) ∷ []) none
      ∙ ap (λ (n : PartitionName). spot_at (record { partition = n; offset = c.args.fault.now.offset }) ∷ []) c.in_ok-name_in.ensures),
)
