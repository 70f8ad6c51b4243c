-- What is found of the segments so far stands before that of those that are left.
use Rattle.std.proofs.Common.{map}
use Rattle.eos_evidence.specs.Evidence.{segments_of}
use Rattle.eos_commands.proofs.FoundMore.{GoBehind}
use Rattle.eos_commands.proofs.verifying.Sides.compare_all.Given as goal

abbrev pub invariant-loop-i : goal.invariant-loop-i
invariant-loop-i g l =
    GoBehind (g.D.Disk.holds l.self.disk.now) l.self.topics.now l.shape.evidence.spec.apps l.self.folder.now (map (λ p. p.now) l.self.logs.now) (segments_of l.shape.evidence.partitions)
    l.shape.forms.items l.i l.found.items
