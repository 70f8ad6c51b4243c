use Rattle.eos_explaining.specs.Commands.{folder_command}
use Rattle.eos_explaining.proofs.LastCalls.{last}
use Rattle.eos_explaining.proofs.command.push_folder_command.Goals as goal

pub returns : goal.returns
unfolding folder_command
returns c = last _ _ _ c.in_ok-push_text.ensures (last _ _ _ c.in_ok-push_partition_path.ensures c.push_text-2.ensures)
