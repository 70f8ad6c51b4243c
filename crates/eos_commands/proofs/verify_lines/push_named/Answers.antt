use Rattle.eos_text.proofs.Appended.{then}
use Rattle.eos_commands.proofs.verify_lines.push_named.Goals as goal

pub returns : goal.returns
returns c = then (then c.in_ok-push_text.ensures c.in_ok-push_text-2.ensures) c.in_ok-push_text-3.ensures
