-- The segments so far stand behind those before.
use Rattle.std.proofs.Common.{◌≡◌, ◌++◌, take}
use Rattle.eos_simulate.proofs.copied.push_files.Given as goal

abbrev pub invariant-loop-segment : goal.invariant-loop-segment
invariant-loop-segment l = l.files ≡ l.fn.files ++ take l.segment-index l.segments
