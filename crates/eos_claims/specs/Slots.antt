-- What a claim stands for whose topic is lent.
use Rattle.eos_claims.specs.declared.claim.Claim.{Claim}
use Rattle.eos_claims.specs.declared.claim.ClaimRef.{ClaimRef}

abbrev pub plain_claim : ClaimRef → Claim
plain_claim c = record { topic = c.topic.now; partition = c.partition; offset = c.offset; output = c.output; of = c.of }
