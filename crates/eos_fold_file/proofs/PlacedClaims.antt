-- The place of each kept claim is one of a topic.
use Rattle.std.proofs.Common.{◌≡◌, inl, inr, ℕ, suc, ◌<◌, Bool, true, false, cond, List, [], ◌∷◌, length, Option, Some, None, refl, ◌∙◌, arith}
use Rattle.std.specs.Prelude.{nat_eq}
use Rattle.std.specs.List.{position_or_len, list_all}
use Rattle.std.specs.Cmp.Lexicographic.{pointwise}
use Rattle.std.proofs.lemmas.Bool.{cases_lt, lt-ltb, le-ltb}
use Rattle.std.proofs.lemmas.List.Folds.{list_all-append}
use Rattle.eos_batch.specs.declared.batch.Batch.{Batch}
use Rattle.eos_batch.specs.declared.record.Record.{Record}
use Rattle.eos_batch.specs.Attributes.{is_control}
use Rattle.eos_batch.specs.Offsets.{offset_of}
use Rattle.eos_claims.specs.declared.claim.Claim.{Claim}
use Rattle.eos_claims.specs.Headers.{claim_of}
use Rattle.eos_reading.specs.Kept.{kept_from, kept_in, kept_of}
use Rattle.eos_reading.specs.NameIndexes.{index_of}
use Rattle.eos_reading.specs.Outputs.{KeptOutput, output_at, kept_output}
use Rattle.eos_fold_file.specs.Records.{is_placed}

place_within : (names : List (List ℕ)) (name : List ℕ) (k : ℕ) → index_of names name ≡ Some k → k < length names
place_within names name k e = elim (cases_lt (position_or_len test names) (length names)) [
  | inl l ↦ let at : position_or_len test names ≡ k = let f = rw (lt-ltb _ _ l) at e in cc in omega (arith, l, at)
  | inr r ↦ absurd (let f = rw (le-ltb _ _ r) at e in cc)
]
  where
    test : List ℕ → Bool
    test one = pointwise nat_eq one name

output_placed : (topics : List (List ℕ)) (claim : Option Claim) → is_placed (length topics) (kept_output topics claim) ≡ true
output_placed topics None = refl
output_placed topics (Some c) = by (index_of topics c.topic) refl
  where
    by : (place : Option ℕ) → index_of topics c.topic ≡ place → is_placed (length topics) (output_at place c) ≡ true
    by None e = refl
    by (Some k) e = lt-ltb k (length topics) (place_within topics c.topic k e)

abbrev keep : List (List ℕ) → ℕ → Record → KeptOutput
keep topics offset r = kept_output topics (claim_of r.headers)

from_placed : (topics : List (List ℕ)) (at : ℕ) (rs : List Record) → list_all (is_placed (length topics)) (kept_from (keep topics) at rs) ≡ true
from_placed topics at [] = refl
from_placed topics at (r ∷ rs) = rw (output_placed topics (claim_of r.headers), from_placed topics (suc at) rs) refl

in_placed : (topics : List (List ℕ)) (b : Batch) → list_all (is_placed (length topics)) (kept_in (keep topics) b) ≡ true
in_placed topics b = one (is_control b.attributes)
  where
    one : (c : Bool) → list_all (is_placed (length topics)) (cond c [] (kept_from (keep topics) (offset_of b) b.records)) ≡ true
    one true = refl
    one false = from_placed topics (offset_of b) b.records

pub all_placed : (topics : List (List ℕ)) (bs : List Batch) → list_all (is_placed (length topics)) (kept_of (λ offset r. kept_output topics (claim_of r.headers)) bs) ≡ true
all_placed topics [] = refl
all_placed topics (b ∷ bs) =
    list_all-append (is_placed (length topics)) (kept_in (keep topics) b) (kept_of (keep topics) bs) ∙ rw (in_placed topics b, all_placed topics bs) refl
