use Rattle.std.proofs.Common.{sym, subst}
use Rattle.eos_reading.specs.Records.{ReadsBack}
use Rattle.eos_reading.proofs.ClaimHeaders.{back}
use Rattle.eos_reading.proofs.texts.TextsReading.keep.Goals as goal

pub push-requires : goal.push-requires
push-requires c = subst ReadsBack (sym c.view_claim.ensures) (back c.into_headers.result)
