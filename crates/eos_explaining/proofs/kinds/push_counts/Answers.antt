use Rattle.eos_explaining.specs.steps.Kinds.{counts_text}
use Rattle.eos_explaining.proofs.LastCalls.{last}
use Rattle.eos_explaining.proofs.kinds.push_counts.Goals as goal

pub returns : goal.returns
unfolding counts_text
returns c = last _ _ _ c.in_ok-push_value.ensures (last _ _ _ c.in_ok-push_text.ensures (last _ _ _ c.in_ok-push_kinds.ensures c.push_text-2.ensures))
