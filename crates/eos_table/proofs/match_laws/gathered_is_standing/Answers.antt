use Rattle.eos_table.proofs.PlacesSound.{sound}
use Rattle.eos_table.proofs.PlacesWhole.{all_whole}
use Rattle.eos_table.proofs.match_laws.gathered_is_standing.Goals as goal

pub returns : goal.returns
returns c = λ ds ps f. (sound ds ps f, all_whole ds ps f)
