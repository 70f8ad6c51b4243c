use Rattle.std.proofs.Common.{◌≡◌, ◌≤◌, ◌^◌, ◌++◌, length, drop}
use Rattle.eos_batch.specs.Encoding.{headers_text}
use Rattle.eos_batch.proofs.encode_record.write_headers.Given as goal

abbrev pub invariant-loop-header : goal.invariant-loop-header
invariant-loop-header l = record {
  size : length (headers_text (drop l.header-index l.headers)) ≤ 2 ^ 30;
  so_far : l.out.items ++ headers_text (drop l.header-index l.headers) ≡ l.fn.out.items ++ headers_text l.headers;
}
