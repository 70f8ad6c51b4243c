-- None of the folds so far is there.
use Rattle.std.proofs.Common.{take}
use Rattle.std.specs.List.{AllByRecursion}
use Rattle.eos_disk.specs.Entries.{MayBeAbsent}
use Rattle.eos_commands.specs.FoldRefusals.{fold_in}
use Rattle.eos_commands.proofs.folder.PartitionFolder.refuse_folded.Given as goal

abbrev pub invariant-loop-base : goal.invariant-loop-base
invariant-loop-base g l = AllByRecursion (λ b. MayBeAbsent (g.D.Disk.holds l.disk (fold_in l.out l.self b))) (take l.base-index l.base-items)
