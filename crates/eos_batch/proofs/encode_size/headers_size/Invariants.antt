use Rattle.std.proofs.Common.{◌≡◌, ◌+◌, ◌<◌, ◌^◌, length, drop}
use Rattle.eos_batch.specs.Encoding.{headers_text}
use Rattle.eos_batch.specs.steps.Writing.{capped}
use Rattle.eos_batch.proofs.encode_size.headers_size.Given as goal

abbrev pub invariant-loop-header : goal.invariant-loop-header
invariant-loop-header l = record {
  fits : l.size < 2 ^ 64;
  so_far : capped (l.size + length (headers_text (drop l.header-index l.headers))) ≡ capped (length (headers_text l.headers));
}
