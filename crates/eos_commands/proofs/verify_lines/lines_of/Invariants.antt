use Rattle.std.proofs.Common.{◌≡◌, take, string_bytes}
use Rattle.eos_commands.specs.VerifyingLines.{lines_of}
use Rattle.eos_commands.proofs.verify_lines.lines_of.Given as goal

abbrev pub invariant-loop-it : goal.invariant-loop-it
invariant-loop-it l = string_bytes l.text ≡ lines_of (take l.it-index l.found)
