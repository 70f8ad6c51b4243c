use Rattle.std.proofs.Common.{◌≡◌, ℕ, ◌-◌, ◌<◌, map}
use Rattle.std.specs.List.{range_with_len}
use Rattle.eos_machine.specs.Batches.{AreTexts}
use Rattle.eos_machine.specs.Evidences.{batches_at, segment_at, log_segments, adding}
use Rattle.eos_log_writer.proofs.segments.add_log.Given as goal

abbrev pub invariant-loop-i : goal.invariant-loop-i
invariant-loop-i l =
    (adding l.fn.builder (log_segments l.config l.leaders.place l.leaders.elections.now l.log) ≡ adding l.builder (map (segment_at l.config l.leaders.place l.leaders.elections.now l.log) (range_with_len l.i (l.count - l.i))))
    × ((k : ℕ) → k < l.i → AreTexts (batches_at l.config l.leaders.place l.leaders.elections.now l.log k))
