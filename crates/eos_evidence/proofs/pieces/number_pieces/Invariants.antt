-- The places that were written are those of the partitions that were passed.
use Rattle.std.proofs.Common.{◌≡◌, ◌<◌, ℕ, length, take, slice_index, vec_len}
use Rattle.eos_evidence.specs.Evidence.{segments_of}
use Rattle.eos_evidence.proofs.pieces.number_pieces.Given as goal

abbrev pub invariant-loop-at : goal.invariant-loop-at
invariant-loop-at l = record {
  as_many : vec_len l.firsts ≡ length l.partitions;
  each : (k : ℕ) → k < l.at → slice_index l.firsts.items k ≡ length (segments_of (take k l.partitions));
  first : l.first ≡ length (segments_of (take l.at l.partitions));
}
