-- What the look-ups answer.
use Rattle.std.proofs.Common.{◌≡◌, ◌⊎◌, ℕ, zero, suc, ◌+◌, ◌≤◌, ◌<◌, ℤ, pos, List, [], ◌∷◌, fold, Option, Some, None, refl, sym, ap, ◌∙◌, inl, inr, true, false, Bool, ◌&&◌, ◌||◌, cond, if◌then◌else◌, arith, IsPermutation}
use Rattle.std.specs.Prelude.{int_lt}
use Rattle.std.specs.List.{filter, list_any}
use Rattle.std.specs.Ordering.{is_eq}
use Rattle.std.specs.declared.cmp.Ordering.{Ordering}
use Rattle.std.proofs.lemmas.Bool.{cases_lt}
use Rattle.std.proofs.lemmas.Int.{ints}
use Rattle.std.proofs.lemmas.List.Sorted.{list_any-IsPermutation}
use Rattle.eos_base.specs.declared.partition_name.PartitionName.{PartitionName}
use Rattle.eos_base.specs.PartitionNames.{name_cmp}
use Rattle.eos_base.specs.Members.{is_found}
use Rattle.eos_claims.specs.declared.place.Place.{Place}
use Rattle.eos_claims.specs.Outputs.{Writer, Commit, last_offset, committed_offset}
use Rattle.eos_claims.specs.Candidates.{is_by, passes}
use Rattle.eos_faults.specs.steps.OutputFaultsGathered.{first_absent}
use Rattle.eos_faults.specs.steps.Tables.{next_offset, last_of, further, next_reach, goes_past, key_by, is_reached}

-- ---- committed offsets

abbrev or_else : ℤ → Option ℤ → ℤ
or_else z None = z
or_else z (Some y) = y

last_from : (n : PartitionName) (z : ℤ) (r : Option ℤ) (ms : List Commit) → or_else z (fold (next_offset n) r ms) ≡ last_offset (or_else z r) (filter (λ c. is_eq (name_cmp c.partition n)) ms)
last_from n z r [] = refl
last_from n z r (m ∷ ms) = go (λ q. last_from n z q ms) (is_eq (name_cmp m.partition n))
  where
    go : ((q : Option ℤ) → or_else z (fold (next_offset n) q ms) ≡ last_offset (or_else z q) (filter (λ c. is_eq (name_cmp c.partition n)) ms)) → (b : Bool)
        → or_else z (fold (next_offset n) (if b then Some m.offset else r) ms) ≡ last_offset (or_else z r) (cond b (m ∷ filter (λ c. is_eq (name_cmp c.partition n)) ms) (filter (λ c. is_eq (name_cmp c.partition n)) ms))
    go more true = more (Some m.offset)
    go more false = more r

below_zero : (o : ℕ) → false ≡ int_lt (pos o) (pos 0)
below_zero o = grind (arith, ints)

below_is : (o : ℕ) (last : Option ℤ) → goes_past o last ≡ int_lt (pos o) (or_else (pos 0) last)
below_is o None = below_zero o
below_is o (Some z) = refl

pub committed_is : (ms : List Commit) (i : Place) → goes_past i.offset (last_of ms i.partition) ≡ int_lt (pos i.offset) (committed_offset ms i.partition)
committed_is ms i = below_is i.offset (last_of ms i.partition) ∙ ap (int_lt (pos i.offset)) (last_from i.partition (pos 0) None ms)

-- ---- what was passed

further_past : (o : ℕ) (r : Option ℤ) (z : ℤ) → goes_past o (Some (further r z)) ≡ (goes_past o r || int_lt (pos o) z)
further_past o None z = refl
further_past o (Some y) z = go (int_lt y z) refl
  where
    go : (b : Bool) → int_lt y z ≡ b → int_lt (pos o) (if b then z else y) ≡ (int_lt (pos o) y || int_lt (pos o) z)
    go true e = grind (arith, ints)
    go false e = grind (arith, ints)

or_assoc : (a b c : Bool) → ((a || b) || c) ≡ (a || (b || c))
or_assoc true b c = refl
or_assoc false b c = refl

or_false : (a : Bool) → (a || false) ≡ a
or_false true = refl
or_false false = refl

one_past : (w : Writer) (i : Place) (r : Option ℤ) (m : Commit) → goes_past i.offset (next_reach w i.partition r m) ≡ (goes_past i.offset r || passes (Some w) i m)
one_past w i r m = go (is_by m.writer w) (is_eq (name_cmp m.partition i.partition))
  where
    go : (a b : Bool) → goes_past i.offset (if a && b then Some (further r m.offset) else r) ≡ (goes_past i.offset r || (a && (b && int_lt (pos i.offset) m.offset)))
    go true true = further_past i.offset r m.offset
    go true false = sym (or_false (goes_past i.offset r))
    go false b = sym (or_false (goes_past i.offset r))

past_from : (w : Writer) (i : Place) (r : Option ℤ) (ms : List Commit) → goes_past i.offset (fold (next_reach w i.partition) r ms) ≡ (goes_past i.offset r || list_any (passes (Some w) i) ms)
past_from w i r [] = sym (or_false (goes_past i.offset r))
past_from w i r (m ∷ ms) =
    past_from w i (next_reach w i.partition r m) ms
    ∙ (ap (λ b. b || list_any (passes (Some w) i) ms) (one_past w i r m) ∙ or_assoc (goes_past i.offset r) (passes (Some w) i m) (list_any (passes (Some w) i) ms))

none_passes : (i : Place) (ms : List Commit) → list_any (passes None i) ms ≡ false
none_passes i [] = refl
none_passes i (m ∷ ms) = none_passes i ms

pub passed_is : (w : Option Writer) (i : Place) (ms : List Commit) → is_reached (key_by w i.partition) i.offset ms ≡ list_any (passes w i) ms
passed_is None i ms = sym (none_passes i ms)
passed_is (Some w) i ms = past_from w i None ms

-- ---- the first number that isn't there

pub absent_at : (there : ℕ → Bool) (count n k : ℕ) → n ≤ k → k < n + count → ((m : ℕ) → n ≤ m → m < k → there m ≡ true) → there k ≡ false → first_absent there count n ≡ Some k
absent_at there zero n k from below before e = absurd (omega (arith, from, below))
absent_at there (suc count) n k from below before e =
    go (λ lt. absent_at there count (n + 1) k (omega (arith, lt)) (omega (arith, below)) (λ m le. before m (omega (arith, le))) e) (there n) refl
  where
    here_or_later : (n < k) ⊎ (k ≤ n)
    here_or_later = cases_lt n k

    go : (n < k → first_absent there count (n + 1) ≡ Some k) → (b : Bool) → there n ≡ b → (if b then first_absent there count (n + 1) else Some n) ≡ Some k
    go more true t = elim here_or_later [
      | inl lt ↦ more lt
      | inr ge ↦
          let same : n ≡ k = omega (arith, from, ge) in
          let bad : true ≡ false = sym t ∙ (ap there same ∙ e) in
          absurd cc
    ]
    go more false t = elim here_or_later [
      | inl lt ↦ let bad : false ≡ true = sym t ∙ before n (omega arith) lt in absurd cc
      | inr ge ↦ let same : n ≡ k = omega (arith, from, ge) in ap Some same
    ]

pub absent_never : (there : ℕ → Bool) (count n : ℕ) → ((m : ℕ) → n ≤ m → m < n + count → there m ≡ true) → first_absent there count n ≡ None
absent_never there zero n all = refl
absent_never there (suc count) n all =
    ap (λ b. if b then first_absent there count (n + 1) else Some n) (all n (omega arith) (omega arith))
    ∙ absent_never there count (n + 1) (λ m le lt. all m (omega (arith, le)) (omega (arith, lt)))

-- ---- sources and inputs

pub found_among : {X : Type 0} (cmp : X → X → Ordering) (xs ys : List X) (k : X) → IsPermutation xs ys → is_found cmp ys k ≡ is_found cmp xs k
found_among cmp xs ys k perm = sym (list_any-IsPermutation (λ y. is_eq (cmp y k)) xs ys perm)
