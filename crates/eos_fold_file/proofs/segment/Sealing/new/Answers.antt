use Rattle.std.proofs.Common.{refl}
use Rattle.eos_reading.proofs.FoldSteps.{fold_none}
use Rattle.eos_reading.proofs.SealSteps.{no_seals}
use Rattle.eos_fold_file.proofs.segment.Sealing.new.Goals as goal

pub returns : goal.returns
returns g c = λ keep. record { folds = fold_none keep _ c.new.ensures.items c.new-2.ensures refl refl refl; sealed = no_seals _ _ c.new.ensures.items c.new-3.ensures.items }
