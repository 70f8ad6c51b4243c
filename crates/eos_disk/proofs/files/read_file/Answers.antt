use Rattle.std.proofs.Common.{string_bytes}
use Rattle.eos_disk.proofs.files.read_file.Goals as goal

pub returns-clause-so : goal.returns-clause-so
returns-clause-so g c = c.read_whole.ensures.so (g.D.Disk.holds c.args.disk.now (string_bytes c.args.path))
