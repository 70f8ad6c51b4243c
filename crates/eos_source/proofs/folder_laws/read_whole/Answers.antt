use Rattle.eos_source.proofs.StandsWhole.{stands_whole}
use Rattle.eos_source.proofs.folder_laws.read_whole.Goals as goal

pub returns : goal.returns
returns c = stands_whole
