-- The segments so far are folded.
use Rattle.std.proofs.Common.{take, map}
use Rattle.eos_commands.specs.Folding.{Folded, item_of}
use Rattle.eos_commands.proofs.folding.fold_folder.Given as goal

abbrev pub invariant-loop-base : goal.invariant-loop-base
invariant-loop-base g l = Folded (g.D.Disk.holds l.fn.disk) l.asked.topics.now l.asked.out.now (map (item_of l.asked.wanted l.folder) (take l.base-index l.base-items)) (g.D.Disk.holds l.disk)
