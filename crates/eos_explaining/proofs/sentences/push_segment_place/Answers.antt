use Rattle.eos_explaining.specs.Sentences.{segment_place}
use Rattle.eos_explaining.proofs.LastCalls.{last}
use Rattle.eos_explaining.proofs.sentences.push_segment_place.Goals as goal

pub returns : goal.returns
unfolding segment_place
returns c = last _ _ _ c.in_ok-push_name.ensures c.push_value.ensures
