-- The segments of the partitions so far.
use Rattle.std.proofs.Common.{take}
use Rattle.eos_disk.specs.steps.Listing.{AreNamed}
use Rattle.eos_disk.proofs.listing.Segments.add_all.Given as goal

abbrev pub invariant-loop-end : goal.invariant-loop-end
invariant-loop-end g l = AreNamed (g.D.Disk.holds l.disk) l.folder (take l.end-index l.ends) l.self.names.items l.self.forms.items
