use Rattle.eos_disk.proofs.ListedBack.{reads_back}
use Rattle.eos_disk.proofs.written_laws.reads_back.Goals as goal

pub returns : goal.returns
returns c = reads_back
