-- The keys and values of Kafka's own logs, as bytes of a fold file. Those of neighbours begin alike, so of each is written how many
-- of its first bytes it shares with the last of its kind that wasn't null, and its rest: front coding. No more than 127 bytes are
-- shared, and of a long text not the last sixteenth, so a text is at most 16 times as long as what stands of it.
use Rattle.std.specs.Prelude.{ℕ, zero, suc, ◌^◌, ◌+◌, ◌-◌, ◌/◌, min, ℤ, pos, negsuc, Bool, nat_eq, nat_lt, ◌==◌, ◌&&◌, List, [], ◌∷◌, ◌++◌, length, take, drop, Option, Some, None, Result, Ok, Err}
use Rattle.std.specs.List.{common_prefix_len}
use Rattle.eos_base.specs.Fallible.{◌>>=◌, must}
use Rattle.eos_wire.specs.Numbers.{i8_text}
use Rattle.eos_fold_file.specs.declared.fault.FoldFault.{FoldFault}
use Rattle.eos_fold_file.specs.declared.fault.FoldFault.TheVariants as faults
use Rattle.eos_fold_file.specs.Numbers.{bytes_text, kind_from, bytes_from}
use Rattle.eos_fold_file.specs.Records.{FoldText, optional_claim_text, optional_claim_from}

-- how many first bytes a text of so many can share: of what stands of it, its kind and its length are two bytes, so it is at most 16
-- times as long as that
abbrev pub most_shared : ℕ → ℕ
most_shared len = min 127 (len + 1 - len / 16)

-- how many first bytes a text shares with the one before
abbrev pub shared : List ℕ → List ℕ → ℕ
shared before text = common_prefix_len nat_eq (take (most_shared (length text)) before) text

-- the last text that isn't null
abbrev pub last_text : List ℕ → Option (List ℕ) → List ℕ
last_text before None = before
last_text before (Some text) = text

-- ---- what is written

abbrev pub shared_text : List ℕ → Option (List ℕ) → List ℕ
shared_text before None = i8_text (negsuc 0)
shared_text before (Some text) = i8_text (pos (shared before text)) ++ bytes_text (drop (shared before text) text)

-- a record behind this key and this value
abbrev pub key_value_text : List ℕ → List ℕ → FoldText → List ℕ
key_value_text key value t = shared_text key t.key ++ (shared_text value t.value ++ optional_claim_text t.claim)

abbrev pub key_values_text : List ℕ → List ℕ → List FoldText → List ℕ
key_values_text key value [] = []
key_values_text key value (t ∷ ts) = key_value_text key value t ++ key_values_text (last_text key t.key) (last_text value t.value) ts

-- ---- reading

-- a text shares as many bytes as it can, and its length fits its field
abbrev pub is_joined : List ℕ → ℕ → List ℕ → Bool
is_joined before count text = (shared before text == count) && nat_lt (length text) (2 ^ 63)

-- so many bytes of the text before, and the rest
abbrev pub joined : List ℕ → ℕ → List ℕ → Result (List ℕ) FoldFault
joined before count rest = must (is_joined before count (take count before ++ rest)) faults.Record (take count before ++ rest)

unfoldable pub rest_from : List ℕ → ℕ → List ℕ → Result (Option (List ℕ) × List ℕ) FoldFault
rest_from before count bytes = do
  rest ← bytes_from bytes
  text ← joined before count rest.0
  Ok (Some text, rest.1)

abbrev pub shared_of : List ℕ → ℤ × List ℕ → Result (Option (List ℕ) × List ℕ) FoldFault
shared_of before (pos count, bytes) = rest_from before count bytes
shared_of before (negsuc zero, bytes) = Ok (None, bytes)
shared_of before (negsuc (suc n), bytes) = Err faults.Record

unfoldable pub shared_from : List ℕ → List ℕ → Result (Option (List ℕ) × List ℕ) FoldFault
shared_from before bytes = kind_from bytes >>= shared_of before

unfoldable pub key_value_from : List ℕ → List ℕ → List ℕ → Result (FoldText × List ℕ) FoldFault
key_value_from key_before value_before bytes = do
  key ← shared_from key_before bytes
  value ← shared_from value_before key.1
  claim ← optional_claim_from value.1
  Ok (record { key = key.0; value = value.0; claim = claim.0 }, claim.1)

unfoldable pub key_values_from : List ℕ → List ℕ → ℕ → List ℕ → Result (List FoldText × List ℕ) FoldFault
key_values_from key value zero bytes = Ok ([], bytes)
key_values_from key value (suc n) bytes = do
  first ← key_value_from key value bytes
  others ← key_values_from (last_text key first.0.key) (last_text value first.0.value) n first.1
  Ok (first.0 ∷ others.0, others.1)
