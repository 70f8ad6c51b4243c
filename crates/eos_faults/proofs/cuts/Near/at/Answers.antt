use Rattle.std.proofs.Common.{◌≡◌, true, rules}
use Rattle.std.specs.Ordering.{is_eq}
use Rattle.eos_base.specs.PartitionNames.{name_cmp}
use Rattle.eos_faults.specs.steps.Plain.{name_at}
use Rattle.eos_faults.specs.steps.Ranges.{is_within}
use Rattle.eos_faults.proofs.CutOffsets.{same_cut}
use Rattle.eos_faults.proofs.cuts.Near.at.Goals as goal

pub returns-then-is_eq-clause-named : goal.returns-then-is_eq-clause-named
returns-then-is_eq-clause-named c = λ near.
    let same : is_eq (name_cmp (name_at c.args.partition) (name_at c.args.self.partition)) ≡ true = search rules in
    same_cut (is_within c.args.range.now) c.args.self.partition c.args.partition c.args.self.cut same near.cut
