use Rattle.eos_source.proofs.RefusalsNamed.{named_below}
use Rattle.eos_source.proofs.folder_laws.named_below.Goals as goal

pub returns : goal.returns
returns c = named_below
