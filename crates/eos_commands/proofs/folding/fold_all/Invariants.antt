-- The segments of the folders so far are folded.
use Rattle.std.proofs.Common.{take}
use Rattle.eos_commands.specs.Folding.{Folded, items_of}
use Rattle.eos_commands.proofs.folding.fold_all.Given as goal

abbrev pub invariant-loop-folder : goal.invariant-loop-folder
invariant-loop-folder g l = Folded (g.D.Disk.holds l.fn.disk) l.roles.topics.now l.roles.out.now (items_of l.roles.apps.now (take l.folder-index l.folders)) (g.D.Disk.holds l.disk)
