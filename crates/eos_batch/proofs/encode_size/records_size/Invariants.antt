use Rattle.std.proofs.Common.{◌≡◌, ◌+◌, ◌<◌, ◌^◌, length, drop}
use Rattle.eos_batch.specs.Encoding.{records_text}
use Rattle.eos_batch.specs.steps.Writing.{capped}
use Rattle.eos_batch.proofs.encode_size.records_size.Given as goal

abbrev pub invariant-loop-place : goal.invariant-loop-place
invariant-loop-place l = record {
  fits : l.size < 2 ^ 64;
  so_far : capped (l.size + length (records_text l.place (drop l.place l.records))) ≡ capped (length (records_text 0 l.records));
}
