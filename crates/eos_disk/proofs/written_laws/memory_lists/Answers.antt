use Rattle.eos_disk.proofs.InMemory.{memory_lists}
use Rattle.eos_disk.proofs.written_laws.memory_lists.Goals as goal

pub returns : goal.returns
returns c = memory_lists
