use Rattle.std.proofs.Common.{◌≡◌, ◌≤◌, take}
use Rattle.eos_commands.specs.VerifyingLines.{count_of}
use Rattle.eos_commands.proofs.verify_lines.count_of.Given as goal

abbrev pub invariant-loop-it : goal.invariant-loop-it
invariant-loop-it l = (l.count ≡ count_of (take l.it-index l.found) l.asked) × (l.count ≤ l.it-index)
