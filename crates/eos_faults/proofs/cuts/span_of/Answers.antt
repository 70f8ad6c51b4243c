use Rattle.std.proofs.Common.{◌≡◌, ◌∙◌, ◌&&◌, not, true, Some, rules}
use Rattle.std.specs.Ordering.{is_eq}
use Rattle.eos_base.specs.PartitionNames.{name_cmp}
use Rattle.eos_faults.specs.steps.Plain.{name_at}
use Rattle.eos_faults.specs.steps.Ranges.{is_done, is_before_end}
use Rattle.eos_faults.proofs.CutOffsets.{span_is}
use Rattle.eos_faults.proofs.cuts.span_of.Goals as goal

pub returns : goal.returns
returns c = λ p.
    let from = c.in_ok-from.from in
    let end = c.in_ok-end.end in
    let first : c.args.range.now.from ≡ Some from = search rules in
    let last : c.args.range.now.below ≡ Some end = search rules in
    let same : is_eq (name_cmp (name_at from.partition) (name_at end.partition)) ≡ true = search rules in
    (λ i. not (is_done (first i) p) && is_before_end (last i) p) ∙ span_is from end same p
