use Rattle.eos_fold.proofs.NextByOffset.{next_by_offset}
use Rattle.eos_fold.proofs.batch_laws.next_marker.Goals as goal

pub returns : goal.returns
returns c = next_by_offset
