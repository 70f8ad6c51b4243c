use Rattle.std.proofs.Common.{◌≡◌, length, take}
use Rattle.eos_evidence.specs.Evidence.{segments_of}
use Rattle.eos_source.proofs.share.pieces_of.Given as goal

abbrev pub invariant-loop-i : goal.invariant-loop-i
invariant-loop-i l = l.pieces ≡ length (segments_of (take l.i l.shapes))
