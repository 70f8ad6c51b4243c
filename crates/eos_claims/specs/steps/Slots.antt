-- What was seen of the five headers, header by header: the steps of reading a claim in one pass.
use Rattle.std.specs.Borrow.{Bor}
use Rattle.std.specs.Prelude.{ℕ, pos, List, Option, Some, None, option_map, codes, if◌then◌else◌}
use Rattle.eos_batch.specs.declared.record.Header.{Header}
use Rattle.eos_claims.specs.declared.claim.Claim.{Claim}
use Rattle.eos_claims.specs.declared.claim.Slots.{Slots}
use Rattle.eos_claims.specs.Headers.{◌>>=◌, int32, int64}
use Rattle.std.specs.Bool.{nat_eq}
use Rattle.std.specs.Cmp.Lexicographic.{pointwise}

-- nothing, or a value, which is spoiled where it is null or there was more than one
abbrev pub Slot : Type 0
Slot = Option (Option (List ℕ))

abbrev pub put : Slot → Option (List ℕ) → Slot
put None value = Some value
put (Some seen) value = Some None

abbrev pub kept : List ℕ → List ℕ → Option (List ℕ) → Slot → Slot
kept name key value slot = if pointwise nat_eq key name then put slot value else slot

abbrev pub the : Slot → Option (List ℕ)
the None = None
the (Some value) = value

-- the number in a slot
abbrev pub int32_in : Slot → Option ℕ
int32_in slot = the slot >>= int32

abbrev pub int64_in : Slot → Option ℕ
int64_in slot = the slot >>= int64

pub record Kept : Type 0 where
  pub topic : Slot
  pub partition : Slot
  pub offset : Slot
  pub output : Slot
  pub of : Slot

abbrev pub blank : Kept
blank = record { topic = None; partition = None; offset = None; output = None; of = None }

abbrev pub keep : Kept → Header → Kept
keep s h = record {
  topic = kept (codes "eo.topic") h.key h.value s.topic;
  partition = kept (codes "eo.partition") h.key h.value s.partition;
  offset = kept (codes "eo.offset") h.key h.value s.offset;
  output = kept (codes "eo.output") h.key h.value s.output;
  of = kept (codes "eo.of") h.key h.value s.of;
}

unfoldable pub claim_in : Kept → Option Claim
claim_in s = do
  topic ← the s.topic
  partition ← the s.partition >>= int32
  offset ← the s.offset >>= int64
  output ← the s.output >>= int32
  of ← the s.of >>= int32
  Some (record { topic = topic; partition = pos partition; offset = offset; output = output; of = of })

abbrev pub plain_value : Option (Bor (List ℕ)) → Option (List ℕ)
plain_value value = option_map (λ s. s.now) value

abbrev pub plain_slot : Option (Option (Bor (List ℕ))) → Slot
plain_slot slot = option_map plain_value slot

abbrev pub plain_slots : Slots → Kept
plain_slots s = record { topic = plain_slot s.topic; partition = plain_slot s.partition; offset = plain_slot s.offset; output = plain_slot s.output; of = plain_slot s.of }
