use Rattle.std.proofs.Common.{◌≡◌, ◌++◌, ◌+ℤ◌, pos, drop, string_bytes}
use Rattle.eos_segment.specs.Choosing.{chosen_records}
use Rattle.eos_segment.proofs.chosen.push_records.Given as goal

abbrev pub invariant-loop-place : goal.invariant-loop-place
invariant-loop-place l =
    string_bytes l.out ++ chosen_records l.options l.batch (l.batch.base_offset +ℤ pos l.place) (drop l.place l.batch.records)
    ≡ string_bytes l.fn.out ++ chosen_records l.options l.batch l.batch.base_offset l.batch.records
