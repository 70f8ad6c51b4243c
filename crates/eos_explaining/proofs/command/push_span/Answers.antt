use Rattle.eos_explaining.specs.Commands.{span_text}
use Rattle.eos_explaining.proofs.LastCalls.{last}
use Rattle.eos_explaining.proofs.command.push_span.Goals as goal

pub returns : goal.returns
unfolding span_text
returns c = last _ _ _ c.in_ok-push_value.ensures (last _ _ _ c.in_ok-push_value-2.ensures c.push_text.ensures)
