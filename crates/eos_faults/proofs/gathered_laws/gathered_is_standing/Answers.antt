use Rattle.eos_faults.proofs.AllPlaced.{sound, whole}
use Rattle.eos_faults.proofs.gathered_laws.gathered_is_standing.Goals as goal

pub returns : goal.returns
returns c = λ topic number end batches stop f. (sound topic number end batches stop f, whole topic number end batches stop f)
