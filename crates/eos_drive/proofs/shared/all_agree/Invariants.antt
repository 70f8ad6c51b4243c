use Rattle.std.proofs.Common.{take}
use Rattle.eos_drive.specs.Replay.{Agree}
use Rattle.eos_drive.proofs.shared.all_agree.Given as goal

abbrev pub invariant-loop-pass : goal.invariant-loop-pass
invariant-loop-pass g l = Agree l.entries (take l.pass-index l.passes)
