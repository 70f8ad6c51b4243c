use Rattle.std.proofs.Common.{◌≡◌, ◌+◌, vec_len}
use Rattle.eos_drive.proofs.threads.paired.Given as goal

abbrev pub invariant-loop-pass : goal.invariant-loop-pass
invariant-loop-pass g l = (vec_len l.all + vec_len l.passes ≡ vec_len l.fn.passes) × (vec_len l.scripts ≡ vec_len l.passes)

abbrev pub decreases-loop-pass : goal.decreases-loop-pass
decreases-loop-pass g l = vec_len l.passes
