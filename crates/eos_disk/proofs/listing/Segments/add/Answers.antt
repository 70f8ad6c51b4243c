use Rattle.std.proofs.Common.{length}
use Rattle.eos_disk.specs.Paths.{path_of_end}
use Rattle.eos_disk.proofs.ListingsCut.{twice_refused}
use Rattle.eos_disk.proofs.listing.Segments.add.Goals as goal

pub returns-in-Some-first_twice-clause-refused : goal.returns-in-Some-first_twice-clause-refused
returns-in-Some-first_twice-clause-refused c =
    twice_refused (path_of_end c.args.folder.now c.args.end.now) (length c.args.self.now.names.items) c.args.files.now c.in-Some-first_twice.twice c.refused_twice.result
    c.in-Some-first_twice.ensures.twice c.refused_twice.ensures
