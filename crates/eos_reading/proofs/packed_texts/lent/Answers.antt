use Rattle.std.proofs.Common.{refl}
use Rattle.eos_claims.specs.Headers.{claim_of}
use Rattle.eos_reading.proofs.packed_texts.lent.Goals as goal

pub of_text-requires : goal.of_text-requires
unfolding claim_of
of_text-requires c = refl
