-- The segments that are left end where all of them end; those so far were read.
use Rattle.std.proofs.Common.{take, drop}
use Rattle.std.specs.List.{AllByRecursion}
use Rattle.eos_disk.specs.Paths.{path_of_end}
use Rattle.eos_commands.specs.InitRefusals.{IsReadAt}
use Rattle.eos_commands.proofs.CopiedEnds.{GoesOn}
use Rattle.eos_commands.proofs.copied.Logs.end_of_front.Given as goal

abbrev pub invariant-loop-base : goal.invariant-loop-base
invariant-loop-base g l = record {
  goes_on : GoesOn (g.D.Disk.holds l.self.disk.now) (path_of_end l.self.folder.now l.end) l.bases l.next (drop l.base-index l.bases);
  read : AllByRecursion (IsReadAt (g.D.Disk.holds l.self.disk.now) (path_of_end l.self.folder.now l.end)) (take l.base-index l.bases);
}
