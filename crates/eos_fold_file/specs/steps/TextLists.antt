-- How the records of Kafka's own logs lie in a fold: as reading a log keeps them, and beside them claims that no headers say.
use Rattle.std.specs.Prelude.{◌≡◌, ◌≤◌, List, [], ◌∷◌, length, option_map, Option, Some, None, All, ⊤}
use Rattle.std.specs.Option.{option_or}
use Rattle.eos_batch.specs.declared.record.Record.{Record}
use Rattle.eos_claims.specs.declared.claim.Claim.{Claim}
use Rattle.eos_claims.specs.Headers.{claim_of}
use Rattle.eos_claims.specs.Slots.{plain_claim}
use Rattle.eos_reading.specs.Records.{wanted_record, ReadsBack}
use Rattle.eos_reading.specs.declared.wanted.Wanted.TheVariants as wants
use Rattle.eos_fold_file.specs.Records.{FoldText}
use Rattle.eos_fold_file.specs.declared.fold_texts.TextRef.{TextRef}

abbrev pub plain_text : TextRef → FoldText
plain_text t = record { key = option_map (λ s. s.now) t.key; value = option_map (λ s. s.now) t.value; claim = option_map plain_claim t.claim }

-- the claim is the one beside, where there is one, or the one in the headers
abbrev pub text_with : Record → Option Claim → FoldText
text_with r claim = record { key = r.key; value = r.value; claim = option_or claim (claim_of r.headers) }

-- the claims beside are of the first records
abbrev pub texts_of : List Record → List (Option Claim) → List FoldText
texts_of [] claims = []
texts_of (r ∷ rs) [] = text_with r None ∷ texts_of rs []
texts_of (r ∷ rs) (c ∷ cs) = text_with r c ∷ texts_of rs cs

-- it has no more than what is wanted of it
abbrev pub IsBare : Record → Type 0
IsBare r = r ≡ wanted_record wants.Texts r

abbrev pub IsUnsaid : Option Claim → Type 0
IsUnsaid None = ⊤
IsUnsaid (Some c) = ReadsBack (Some c) → ⊥

pub record AreTexts (records : List Record) (claims : List (Option Claim)) : Type 0 where
  pub bare : All IsBare records
  pub few : length claims ≤ length records
  pub unsaid : All IsUnsaid claims
