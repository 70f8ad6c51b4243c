-- What is kept of the record of an output: its claim, with the place of its topic among those that are asked for. A claim of
-- another topic is kept whole, so that nothing of it is lost.
use Rattle.std.specs.Prelude.{ℕ, ℤ, List, Option, Some, None, option_map}
use Rattle.std.specs.List.{slice_get}
use Rattle.eos_claims.specs.declared.claim.Claim.{Claim}
use Rattle.eos_claims.specs.Slots.{plain_claim}
use Rattle.eos_reading.specs.NameIndexes.{index_of}
use Rattle.eos_reading.specs.declared.output.AskedClaim.{AskedClaim}
use Rattle.eos_reading.specs.declared.output.OutputRef.{OutputRef}
use Rattle.eos_reading.specs.declared.output.OutputRef.TheVariants as lent

pub data KeptOutput : Type 0 where
  -- its headers are no claim
  Unclaimed : KeptOutput
  -- its claim is of an input of one of the topics that are asked for: the topic's place among them
  Asked : (partition : ℤ) → (output of topic offset : ℕ) → KeptOutput
  -- its claim is of an input of another topic
  Foreign : (claim : Claim) → KeptOutput

-- of a claim whose topic has this place
abbrev pub output_at : Option ℕ → Claim → KeptOutput
output_at None c = Foreign c
output_at (Some topic) c = Asked c.partition c.output c.of topic c.offset

abbrev pub kept_output : List (List ℕ) → Option Claim → KeptOutput
kept_output topics None = Unclaimed
kept_output topics (Some c) = output_at (index_of topics c.topic) c

-- the claim that was kept so
abbrev pub claim_kept : List (List ℕ) → KeptOutput → Option Claim
claim_kept topics Unclaimed = None
claim_kept topics (Asked partition output of topic offset) =
    option_map (λ name. record { topic = name; partition = partition; offset = offset; output = output; of = of }) (slice_get topics topic)
claim_kept topics (Foreign c) = Some c

-- ---- as it is said

abbrev pub asked_output : AskedClaim → KeptOutput
asked_output a = Asked a.partition a.output a.of a.topic a.offset

abbrev pub output_said : OutputRef → KeptOutput
output_said lent.Unclaimed = Unclaimed
output_said (lent.Asked a) = asked_output a
output_said (lent.Foreign c) = Foreign (plain_claim c)
