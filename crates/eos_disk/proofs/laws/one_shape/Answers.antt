use Rattle.eos_disk.proofs.OneShape.{one_shape}
use Rattle.eos_disk.proofs.laws.one_shape.Goals as goal

pub returns : goal.returns
returns c = one_shape
