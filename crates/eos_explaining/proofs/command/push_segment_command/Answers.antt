use Rattle.eos_explaining.specs.Commands.{segment_command}
use Rattle.eos_explaining.proofs.LastCalls.{last}
use Rattle.eos_explaining.proofs.command.push_segment_command.Goals as goal

pub returns : goal.returns
unfolding segment_command
returns c = last _ _ _ c.in_ok-push_text.ensures (last _ _ _ c.in_ok-push_path.ensures c.push_text-2.ensures)
