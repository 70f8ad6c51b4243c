-- Which bytes are a key or a value of `__consumer_offsets`, as Kafka's schemas OffsetCommitKey (versions 0 and 1) and
-- OffsetCommitValue (versions 0 to 3) lay them out: expireTimestamp is of version 1 alone (dropped by KIP-211), leaderEpoch
-- came with version 3 (KIP-320). Numbers are big-endian, INT16, INT32 and INT64 being the two's complement in 2, 4 and 8 bytes.
use Rattle.std.specs.Prelude.{◌≡◌, ◌≢◌, ◌⊎◌, ℕ, ℤ, pos, negsuc, ◌≤ℤ◌, FitsSigned, Bool, true, false, List, [], ◌++◌}
use Rattle.std.specs.Ordering.{int_eq}
use Rattle.std.specs.Int.{w16, w32, w64}
use Rattle.eos_wire.specs.Numbers.{i16_text, i32_text, i64_text}
use Rattle.eos_wire.specs.declared.form.Form.TheVariants.{Plain}
use Rattle.eos_wire.specs.Texts.{IsStringText}
use Rattle.eos_offsets.specs.declared.key.OffsetKey.{OffsetKey}

-- the metadata: a string, or the length -1, which stands for an empty one
abbrev pub IsMetadata : List ℕ → Type 0
IsMetadata text = ((bytes : List ℕ) × IsStringText Plain text bytes) ⊎ (text ≡ i16_text (negsuc 0))

-- a field that only some versions have
abbrev pub IfPresent : Bool → (List ℕ → Type 0) → List ℕ → Type 0
IfPresent true IsField text = IsField text
IfPresent false IsField text = text ≡ []

abbrev pub IsInt32 : List ℕ → Type 0
IsInt32 text = (number : ℤ) × FitsSigned w32 number × (text ≡ i32_text number)

abbrev pub IsInt64 : List ℕ → Type 0
IsInt64 text = (number : ℤ) × FitsSigned w64 number × (text ≡ i64_text number)

-- version INT16 (0 or 1), group STRING, topic STRING, partition INT32
pub record IsKeyText (text : List ℕ) (key : OffsetKey) : Type 0 where
  pub version : ℤ
  pub group : List ℕ
  pub topic : List ℕ
  pub version_known : (version ≡ pos 0) ⊎ (version ≡ pos 1)
  pub group_text : IsStringText Plain group key.group
  pub topic_text : IsStringText Plain topic key.topic
  pub partition_fits : FitsSigned w32 key.partition
  pub parts : text ≡ i16_text version ++ (group ++ (topic ++ i32_text key.partition))

-- a key of another version, as that of the group's metadata: of no commit, whatever follows
pub record IsOtherKeyText (text : List ℕ) : Type 0 where
  pub version : ℤ
  pub rest : List ℕ
  pub version_fits : FitsSigned w16 version
  pub not_0 : version ≢ pos 0
  pub not_1 : version ≢ pos 1
  pub parts : text ≡ i16_text version ++ rest

-- version INT16 (0 to 3), offset INT64, leaderEpoch INT32 (version 3), metadata STRING, commitTimestamp INT64,
-- expireTimestamp INT64 (version 1)
pub record IsValueText (text : List ℕ) (offset : ℤ) : Type 0 where
  pub version : ℤ
  pub leader_epoch : List ℕ
  pub metadata : List ℕ
  pub commit_timestamp : List ℕ
  pub expire_timestamp : List ℕ
  pub version_from : pos 0 ≤ℤ version
  pub version_to : version ≤ℤ pos 3
  pub offset_fits : FitsSigned w64 offset
  pub leader_epoch_text : IfPresent (int_eq version (pos 3)) IsInt32 leader_epoch
  pub metadata_text : IsMetadata metadata
  pub commit_timestamp_text : IsInt64 commit_timestamp
  pub expire_timestamp_text : IfPresent (int_eq version (pos 1)) IsInt64 expire_timestamp
  pub parts : text ≡ i16_text version ++ (i64_text offset ++ (leader_epoch ++ (metadata ++ (commit_timestamp ++ expire_timestamp))))
