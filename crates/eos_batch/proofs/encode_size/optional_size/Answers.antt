use Rattle.eos_batch.proofs.EncodingSizes.{null_size}
use Rattle.eos_batch.proofs.encode_size.optional_size.Goals as goal

pub returns-in-None : goal.returns-in-None
returns-in-None c = rw c.in-None.is null_size
