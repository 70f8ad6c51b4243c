-- The ends so far, and those that the lines that are left say.
use Rattle.std.proofs.Common.{◌≡◌, ◌≤◌, ◌+◌, length}
use Rattle.eos_manifest.specs.Divided.{lines_of}
use Rattle.eos_manifest.specs.Lines.{ends_from}
use Rattle.eos_manifest.proofs.TextPieces.{with_ends}
use Rattle.eos_manifest.proofs.offset_line.read_ends.Given as goal

abbrev pub invariant-loop-rest : goal.invariant-loop-rest
invariant-loop-rest l = record {
  said : ends_from 1 (lines_of l.text) ≡ with_ends l.ends.items (ends_from l.number (lines_of l.rest));
  few : l.number + length l.rest ≤ 1 + length l.text;
}

abbrev pub decreases-loop-rest : goal.decreases-loop-rest
decreases-loop-rest l = length l.rest
