-- What is kept of a record's headers, as bytes of a fold file: of an output's its claim, with the place of its topic among those that
-- were asked for, or with the topic itself; of a record of Kafka's own logs its claim, if it has one.
use Rattle.std.specs.Prelude.{ℕ, zero, suc, ℤ, pos, negsuc, Bool, true, nat_lt, List, ◌++◌, Option, Some, None, Result, Ok, Err}
use Rattle.eos_base.specs.Fallible.{◌>>=◌}
use Rattle.eos_wire.specs.Numbers.{i8_text}
use Rattle.eos_wire.specs.Writing.{varlong_of}
use Rattle.eos_claims.specs.declared.claim.Claim.{Claim}
use Rattle.eos_reading.specs.Outputs.{KeptOutput, Unclaimed, Asked, Foreign}
use Rattle.eos_fold_file.specs.declared.fault.FoldFault.{FoldFault}
use Rattle.eos_fold_file.specs.declared.fault.FoldFault.TheVariants as faults
use Rattle.eos_fold_file.specs.declared.claim.ClaimNumbers.{ClaimNumbers}
use Rattle.eos_fold_file.specs.Numbers.{u64_text, bytes_text, kind_from, i32_from, u64_from, u32_from, bytes_from}

-- ---- claims

abbrev pub numbers_of : Claim → ClaimNumbers
numbers_of c = record { partition = c.partition; offset = c.offset; output = c.output; of = c.of }

abbrev pub numbers_text : ClaimNumbers → List ℕ
numbers_text n = varlong_of n.partition ++ (u64_text n.offset ++ (u64_text n.output ++ u64_text n.of))

abbrev pub claim_text : Claim → List ℕ
claim_text c = bytes_text c.topic ++ numbers_text (numbers_of c)

unfoldable pub numbers_from : List ℕ → Result (ClaimNumbers × List ℕ) FoldFault
numbers_from bytes = do
  partition ← i32_from bytes
  offset ← u64_from partition.1
  output ← u32_from offset.1
  of ← u32_from output.1
  Ok (record { partition = partition.0; offset = offset.0; output = output.0; of = of.0 }, of.1)

abbrev pub claim_with : List ℕ → ClaimNumbers → Claim
claim_with topic n = record { topic = topic; partition = n.partition; offset = n.offset; output = n.output; of = n.of }

unfoldable pub claim_from : List ℕ → Result (Claim × List ℕ) FoldFault
claim_from bytes = do
  topic ← bytes_from bytes
  numbers ← numbers_from topic.1
  Ok (claim_with topic.0 numbers.0, numbers.1)

-- ---- of an output

abbrev pub output_text : KeptOutput → List ℕ
output_text Unclaimed = i8_text (pos 0)
output_text (Asked partition output of topic offset) =
    i8_text (pos 1) ++ (u64_text topic ++ numbers_text (record { partition = partition; offset = offset; output = output; of = of }))
output_text (Foreign c) = i8_text (pos 2) ++ claim_text c

-- the place of a topic is one of so many
abbrev pub is_placed : ℕ → KeptOutput → Bool
is_placed count Unclaimed = true
is_placed count (Asked partition output of topic offset) = nat_lt topic count
is_placed count (Foreign c) = true

abbrev pub asked_with : ℕ → ClaimNumbers → KeptOutput
asked_with topic n = Asked n.partition n.output n.of topic n.offset

unfoldable pub asked_from : List ℕ → Result (KeptOutput × List ℕ) FoldFault
asked_from bytes = do
  topic ← u64_from bytes
  numbers ← numbers_from topic.1
  Ok (asked_with topic.0 numbers.0, numbers.1)

unfoldable pub foreign_from : List ℕ → Result (KeptOutput × List ℕ) FoldFault
foreign_from bytes = do
  claim ← claim_from bytes
  Ok (Foreign claim.0, claim.1)

abbrev pub output_of : ℤ × List ℕ → Result (KeptOutput × List ℕ) FoldFault
output_of (pos zero, bytes) = Ok (Unclaimed, bytes)
output_of (pos (suc zero), bytes) = asked_from bytes
output_of (pos (suc (suc zero)), bytes) = foreign_from bytes
output_of (pos (suc (suc (suc n))), bytes) = Err faults.Record
output_of (negsuc n, bytes) = Err faults.Record

unfoldable pub output_from : List ℕ → Result (KeptOutput × List ℕ) FoldFault
output_from bytes = kind_from bytes >>= output_of

-- ---- of Kafka's own logs

-- what is kept of a record: its key, its value, and the claim in its headers, where there is one
pub record FoldText : Type 0 where
  pub key : Option (List ℕ)
  pub value : Option (List ℕ)
  pub claim : Option Claim

abbrev pub optional_claim_text : Option Claim → List ℕ
optional_claim_text None = i8_text (pos 0)
optional_claim_text (Some c) = i8_text (pos 1) ++ claim_text c

unfoldable pub some_claim_from : List ℕ → Result (Option Claim × List ℕ) FoldFault
some_claim_from bytes = do
  claim ← claim_from bytes
  Ok (Some claim.0, claim.1)

abbrev pub optional_claim_of : ℤ × List ℕ → Result (Option Claim × List ℕ) FoldFault
optional_claim_of (pos zero, bytes) = Ok (None, bytes)
optional_claim_of (pos (suc zero), bytes) = some_claim_from bytes
optional_claim_of (pos (suc (suc n)), bytes) = Err faults.Record
optional_claim_of (negsuc n, bytes) = Err faults.Record

unfoldable pub optional_claim_from : List ℕ → Result (Option Claim × List ℕ) FoldFault
optional_claim_from bytes = kind_from bytes >>= optional_claim_of
