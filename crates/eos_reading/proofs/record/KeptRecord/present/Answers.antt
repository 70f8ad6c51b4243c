use Rattle.std.proofs.Common.{refl}
use Rattle.eos_claims.specs.Headers.{claim_of}
use Rattle.eos_reading.proofs.record.KeptRecord.present.Goals as goal

pub invariant_of-result : goal.invariant_of-result
unfolding claim_of
invariant_of-result c = refl
