use Rattle.eos_source_check.proofs.KnownAgain.{there}
use Rattle.eos_source_check.proofs.kept_list_laws.known.Goals as goal

pub returns : goal.returns
returns c = λ known said shape evidence again k of a. there known said shape evidence again k of a
