-- A claim in a record's headers: five headers, each exactly once, beside which others may stand.
use Rattle.std.specs.Prelude.{ℕ, ℤ, pos, negsuc, List, [], ◌∷◌, Option, Some, None, Bool, codes, if◌then◌else◌}
use Rattle.std.specs.Bool.{nat_eq}
use Rattle.std.specs.Cmp.Lexicographic.{pointwise}
use Rattle.eos_wire.specs.Numbers.{i32_at, i64_at}
use Rattle.eos_batch.specs.declared.record.Header.{Header}
use Rattle.eos_claims.specs.declared.claim.Claim.{Claim}

infixl 10 ◌>>=◌
abbrev pub ◌>>=◌ : {A B : Type 0} → Option A → (A → Option B) → Option B
(Some x) >>= f = f x
None >>= f = None

abbrev pub is_key : List ℕ → Header → Bool
is_key key h = pointwise nat_eq h.key key

-- the values under a key, in order
abbrev pub values_of : List ℕ → List Header → List (Option (List ℕ))
values_of key [] = []
values_of key (h ∷ hs) = if is_key key h then h.value ∷ values_of key hs else values_of key hs

-- the one there is, where it isn't null
abbrev pub once : List (Option (List ℕ)) → Option (List ℕ)
once [] = None
once (value ∷ []) = value
once (value ∷ other ∷ values) = None

abbrev pub the_value : List ℕ → List Header → Option (List ℕ)
the_value key headers = once (values_of key headers)

-- a number that takes the whole value and isn't below 0
abbrev pub natural : Option (ℤ × List ℕ) → Option ℕ
natural None = None
natural (Some (pos n, [])) = Some n
natural (Some (pos n, b ∷ bs)) = None
natural (Some (negsuc n, rest)) = None

abbrev pub int32 : List ℕ → Option ℕ
int32 value = natural (i32_at value)

abbrev pub int64 : List ℕ → Option ℕ
int64 value = natural (i64_at value)

unfoldable pub claim_of : List Header → Option Claim
claim_of headers = do
  topic ← the_value (codes "eo.topic") headers
  partition ← the_value (codes "eo.partition") headers >>= int32
  offset ← the_value (codes "eo.offset") headers >>= int64
  output ← the_value (codes "eo.output") headers >>= int32
  of ← the_value (codes "eo.of") headers >>= int32
  Some (record { topic = topic; partition = pos partition; offset = offset; output = output; of = of })
