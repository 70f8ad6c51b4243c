-- What was read so far was fed, at most one byte past the limit.
use Rattle.std.proofs.Common.{◌≡◌, ◌≤◌, ◌+◌, ◌-◌, ℕ, List, [], length}
use Rattle.std.specs.Io.KnownBytes.{Consumes}
use Rattle.eos_evidence.specs.declared.segment_reader.TheConstants.{MAX_SEGMENT_BYTES}
use Rattle.eos_fold.specs.declared.reader.TheConstants.{CHUNK}
use Rattle.eos_fold.proofs.reader.read_by.Given as goal

abbrev pub invariant-loop-fed : goal.invariant-loop-fed
invariant-loop-fed g l = record {
  taken : (bytes : List ℕ) × Consumes (g.R.Read.remaining l.initial.reader) (g.R.Read.remaining l.reader) bytes × (length bytes ≡ l.fed)
      × (g.F.ByteFold.holds l.told l.fn.fold [] [] → g.F.ByteFold.holds l.told l.feed.fold bytes l.feed.waiting);
  within : l.fed ≤ MAX_SEGMENT_BYTES + 1;
  room : length l.chunk ≡ CHUNK;
}

abbrev pub decreases-loop-fed : goal.decreases-loop-fed
decreases-loop-fed g l = MAX_SEGMENT_BYTES + 1 - l.fed
