use Rattle.std.proofs.Common.{rules}
use Rattle.eos_disk.proofs.OnePlace.{apart}
use Rattle.eos_disk.proofs.putting.put_file.Goals as goal

pub put_by-requires-after_bounds : goal.put_by-requires-after_bounds
put_by-requires-after_bounds g c κs within = apart c.args.path.now c.as_str.result.now (search rules)
