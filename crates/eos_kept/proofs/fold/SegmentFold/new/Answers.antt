use Rattle.std.proofs.Common.{refl}
use Rattle.eos_kept.proofs.ChunkSteps.{chunk_none}
use Rattle.eos_kept.proofs.fold.SegmentFold.new.Goals as goal

pub returns : goal.returns
returns g c = λ keep. chunk_none keep c.args.begin c.args.sequenced _ c.new.ensures.begin c.new.ensures.sequenced c.new.ensures.stop (record { keeps = c.new.ensures.keeps; continuous = tt }) c.new-2.ensures.items c.new-3.ensures refl
