use Rattle.eos_explaining.specs.Sentences.{kind_text}
use Rattle.eos_explaining.proofs.LastCalls.{last}
use Rattle.eos_explaining.proofs.sentences.push_kind.Goals as goal

pub returns : goal.returns
unfolding kind_text
returns c = last _ _ _ c.in_ok-push_text.ensures (last _ _ _ c.in_ok-push_text-2.ensures (last _ _ _ c.in_ok-push_text-3.ensures (last _ _ _ c.in_ok-push_text-4.ensures c.push_text-5.ensures)))
