-- Batches without a gap, and one batch more.
use Rattle.std.proofs.Common.{◌≡◌, ℕ, suc, ◌+◌, ◌^◌, ◌≤◌, ◌+ℤ◌, subst, List, [], ◌∷◌, ◌++◌, length, refl, ap, ◌∙◌, arith, ℤ, pos, negsuc, ◌≤ℤ◌}
use Rattle.std.specs.Prelude.{unsigned_abs, ◌==◌, if◌then◌else◌}
use Rattle.std.proofs.lemmas.Int.{ints}
use Rattle.eos_batch.specs.declared.batch.Batch.{Batch}
use Rattle.eos_batch.specs.Offsets.{offset_of}
use Rattle.eos_touch.specs.Front.{records_in, begin_of, next_offset, ContinuesFrom, IsContinuous}

pub records_in-push : (bs : List Batch) (b : Batch) → records_in (bs ++ b ∷ []) ≡ records_in bs + length b.records
records_in-push [] b = omega arith
records_in-push (x ∷ xs) b = omega (arith, records_in-push xs b)

pub records_in-append : (xs ys : List Batch) → records_in (xs ++ ys) ≡ records_in xs + records_in ys
records_in-append [] ys = omega arith
records_in-append (x ∷ xs) ys = omega (arith, records_in-append xs ys)

pub abs_pos : (z : ℤ) → pos 0 ≤ℤ z → z ≡ pos (unsigned_abs z)
abs_pos (pos n) h = refl
abs_pos (negsuc n) h = absurd (omega (arith, ints))

-- the offset at which a batch goes on: the first may begin anywhere
abbrev pub expected : List Batch → Batch → ℕ
expected [] b = offset_of b
expected (x ∷ xs) b = next_offset (x ∷ xs)

later : (n kept offset m : ℕ) → n ≡ suc m → (if n == 0 then offset else kept) ≡ kept
later n kept offset m e = grind arith

pub continues-push : (n : ℕ) (bs : List Batch) (b : Batch) → ContinuesFrom n bs → b.base_offset ≡ pos (n + records_in bs) → ContinuesFrom n (bs ++ b ∷ [])
continues-push n [] b h e = let z : n + 0 ≡ n = omega arith in (e ∙ ap pos z, tt)
continues-push n (x ∷ xs) b h e =
    let z : n + (length x.records + records_in xs) ≡ n + length x.records + records_in xs = omega arith in
    (h.0, continues-push (n + length x.records) xs b h.1 (e ∙ ap pos z))

pub continues-last : (n : ℕ) (bs : List Batch) (b : Batch) → ContinuesFrom n (bs ++ b ∷ []) → b.base_offset ≡ pos (n + records_in bs)
continues-last n [] b h = let z : n ≡ n + 0 = omega arith in h.0 ∙ ap pos z
continues-last n (x ∷ xs) b h =
    let z : n + length x.records + records_in xs ≡ n + (length x.records + records_in xs) = omega arith in
    continues-last (n + length x.records) xs b h.1 ∙ ap pos z

pub continues-cut : (n : ℕ) (xs : List Batch) (b : Batch) (ys : List Batch) → ContinuesFrom n (xs ++ b ∷ ys) → ContinuesFrom n (xs ++ b ∷ [])
continues-cut n [] b ys h = (h.0, tt)
continues-cut n (x ∷ xs) b ys h = (h.0, continues-cut (n + length x.records) xs b ys h.1)

pub goes_on : (before : List Batch) (b : Batch) → IsContinuous before → pos 0 ≤ℤ b.base_offset → offset_of b ≡ expected before b → IsContinuous (before ++ b ∷ [])
goes_on [] b h low e = (abs_pos b.base_offset low, tt)
goes_on (x ∷ xs) b h low e = continues-push (offset_of x) (x ∷ xs) b h (abs_pos b.base_offset low ∙ ap pos e)

pub expects : (before : List Batch) (b : Batch) → IsContinuous (before ++ b ∷ []) → offset_of b ≡ expected before b
expects [] b h = refl
expects (x ∷ xs) b h = ap unsigned_abs (continues-last (offset_of x) (x ∷ xs) b h)

-- a part of what has no gap
pub continuous-cut : (xs : List Batch) (b : Batch) (ys : List Batch) → IsContinuous (xs ++ b ∷ ys) → IsContinuous (xs ++ b ∷ [])
continuous-cut [] b ys h = (h.0, tt)
continuous-cut (x ∷ xs) b ys h = continues-cut (offset_of x) (x ∷ xs) b ys h

pub next_offset-push : (before : List Batch) (b : Batch) → offset_of b ≡ expected before b → next_offset (before ++ b ∷ []) ≡ offset_of b + length b.records
next_offset-push [] b e = omega arith
next_offset-push (x ∷ xs) b e = omega (arith, e, records_in-push (x ∷ xs) b)

-- what the walk keeps, and what its first batch sets
pub expected_is : (before : List Batch) (b : Batch) (n next offset : ℕ) → n ≡ length before → next ≡ next_offset before → offset ≡ offset_of b
    → (if n == 0 then offset else next) ≡ expected before b
expected_is [] b n next offset e f g = rw e g
expected_is (x ∷ xs) b n next offset e f g = later n next offset (length xs) e ∙ f

pub begin_of-push : (before : List Batch) (b : Batch) (n begin offset : ℕ) → n ≡ length before → begin ≡ begin_of before → offset ≡ offset_of b
    → (if n == 0 then offset else begin) ≡ begin_of (before ++ b ∷ [])
begin_of-push [] b n begin offset e f g = rw e g
begin_of-push (x ∷ xs) b n begin offset e f g = later n begin offset (length xs) e ∙ f

-- a batch whose last offset fits
pub fits_on : (base : ℤ) (next n : ℕ) → base ≡ pos next → (base +ℤ pos n) ≤ℤ pos (2 ^ 63) → next + n ≤ 2 ^ 63
fits_on base next n e h = let g : (pos next +ℤ pos n) ≤ℤ pos (2 ^ 63) = subst (λ (z : ℤ). (z +ℤ pos n) ≤ℤ pos (2 ^ 63)) e h in omega (arith, ints, g)
