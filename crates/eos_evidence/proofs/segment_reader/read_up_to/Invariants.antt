-- What was read so far is what the reader gave, at most one byte past the limit.
use Rattle.std.proofs.Common.{◌≡◌, ◌≤◌, ◌+◌, ◌-◌, length, vec_len}
use Rattle.std.specs.Io.KnownBytes.{Consumes}
use Rattle.eos_evidence.specs.declared.segment_reader.TheConstants.{CHUNK}
use Rattle.eos_evidence.proofs.segment_reader.read_up_to.Given as goal

abbrev pub invariant-loop-chunk : goal.invariant-loop-chunk
invariant-loop-chunk g l = record {
  taken : Consumes (g.R.Read.remaining l.initial.reader) (g.R.Read.remaining l.reader) l.bytes.items;
  within : vec_len l.bytes ≤ l.limit + 1;
  room : length l.chunk ≡ CHUNK;
}

abbrev pub decreases-loop-chunk : goal.decreases-loop-chunk
decreases-loop-chunk g l = l.limit + 1 - vec_len l.bytes
