use Rattle.eos_disk.proofs.JustWritten.{just_written}
use Rattle.eos_disk.proofs.written_laws.just_written.Goals as goal

pub returns : goal.returns
returns c = just_written
