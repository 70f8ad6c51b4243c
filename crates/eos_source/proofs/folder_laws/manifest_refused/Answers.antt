use Rattle.eos_source.proofs.RefusalsNamed.{manifest_refused}
use Rattle.eos_source.proofs.folder_laws.manifest_refused.Goals as goal

pub returns : goal.returns
returns c = manifest_refused
