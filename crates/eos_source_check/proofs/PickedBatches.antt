-- Batches that are looked for in a segment's bytes, chunk by chunk.
use Rattle.std.proofs.Common.{◌≡◌, ◌⊎◌, ℕ, zero, suc, ◌+◌, ◌-◌, ◌<◌, ◌≤◌, List, [], ◌∷◌, ◌++◌, length, map, take, drop, get_or, Option, Some, None, true, refl, sym, ap, subst, ◌∙◌, inl, inr, arith, drop-drop, is_some}
use Rattle.std.specs.Prelude.{slice_get, slice_set}
use Rattle.std.proofs.lemmas.List.{length-map, drop_all, drop-append-le, take_all}
use Rattle.eos_base.specs.Members.{Has}
use Rattle.eos_batch.specs.declared.batch.Batch.{Batch}
use Rattle.eos_batch.specs.Reading.{batch_at}
use Rattle.eos_fold.proofs.MoreBytes.{batch_more, batch_none}
use Rattle.eos_source_check.specs.steps.Picking.{told_of, told_at}
use Rattle.eos_source_check.specs.steps.Picking.{IsAheadIf, AreAhead, IsToldAt, IsPickedAt, ArePickedSoFar, ArePickedAt, mixed}

-- ---- what more bytes tell

either : (m n : ℕ) → (m ≤ n) ⊎ (n ≤ m)
either zero n = inl (omega arith)
either (suc m) zero = inr (omega arith)
either (suc m) (suc n) = elim (either m n) [
  | inl le ↦ inl (omega (arith, le))
  | inr le ↦ inr (omega (arith, le))
]

pub none_past : (bytes : List ℕ) (byte : ℕ) → length bytes ≤ byte → told_at bytes (Some byte) ≡ None
none_past bytes byte past = ap (λ xs. told_of (batch_at xs)) (drop_all byte bytes past) ∙ ap told_of batch_none

more_at : (fed more : List ℕ) (byte : ℕ) → (byte ≤ length fed) ⊎ (length fed ≤ byte) → (told_at fed (Some byte) ≡ None → ⊥) → told_at (fed ++ more) (Some byte) ≡ told_at fed (Some byte)
more_at fed more byte (inl le) told =
    ap (λ xs. told_of (batch_at xs)) (drop-append-le byte fed more le) ∙ ap told_of (batch_more (drop byte fed) more (λ e. told (ap told_of e)))
more_at fed more byte (inr le) told = absurd (told (none_past fed byte le))

-- what is known stays so
pub told_more : (fed more : List ℕ) (byte : Option ℕ) → (told_at fed byte ≡ None → ⊥) → told_at (fed ++ more) byte ≡ told_at fed byte
told_more fed more None told = refl
told_more fed more (Some byte) told = more_at fed more byte (either byte (length fed)) told

some_none : (a : Option Batch) → ◌≡◌ {A = Option (Option Batch)} (Some a) None → ⊥
some_none a e = cc e

-- ---- one batch

there : (passed byte at : ℕ) (buffer bytes : List ℕ) → at ≡ byte - passed → buffer ≡ drop passed bytes → passed ≤ byte → drop at buffer ≡ drop byte bytes
there passed byte at buffer bytes is here le =
    let all : passed + at ≡ byte = omega (arith, is, le) in
    ap (drop at) here ∙ (drop-drop at passed bytes ∙ ap (λ (n : ℕ). drop n bytes) all)

pub told_none : (passed byte at : ℕ) (buffer : List ℕ) → at ≡ byte - passed → length buffer ≤ at → IsToldAt passed buffer (Some byte) None
told_none passed byte at buffer is past = λ bytes here ahead.
    sym (ap (λ xs. told_of (batch_at xs)) (sym (there passed byte at buffer bytes is here ahead)) ∙ none_past buffer at past)

-- it was known
pub picked_was : (passed taken : ℕ) (buffer : List ℕ) (byte : Option ℕ) (old : Option (Option Batch)) → true ≡ is_some old → IsPickedAt passed buffer byte old old taken
picked_was passed taken buffer byte old some = λ fed more here is ahead.
    let told : told_at fed byte ≡ None → ⊥ = λ none. not_none old some (is ∙ none) in
    let same = told_more fed more byte told in
    (is ∙ sym same, λ none. absurd (told (sym same ∙ none)))
  where
    not_none : (o : Option (Option Batch)) → true ≡ is_some o → o ≡ None → ⊥
    not_none None some none = cc some
    not_none (Some x) some none = some_none x none

-- ---- one after the other

set_next : (all fed : List ℕ) (wanted : List (Option ℕ)) (i : ℕ) (byte : Option ℕ) → slice_get wanted i ≡ Some byte → slice_set (mixed all fed i wanted) i (told_at all byte) ≡ mixed all fed (suc i) wanted
set_next all fed [] i byte at = absurd cc
set_next all fed (w ∷ ws) zero byte at =
    let same : w ≡ byte = cc in
    ap (λ b. told_at all b ∷ map (told_at fed) ws) (sym same)
set_next all fed (w ∷ ws) (suc i) byte at = ap (λ (l : List (Option (Option Batch))). told_at all w ∷ l) (set_next all fed ws i byte at)

get_next : (all fed : List ℕ) (wanted : List (Option ℕ)) (i : ℕ) (byte : Option ℕ) → slice_get wanted i ≡ Some byte → slice_get (mixed all fed i wanted) i ≡ Some (told_at fed byte)
get_next all fed [] i byte at = absurd cc
get_next all fed (w ∷ ws) zero byte at = cc
get_next all fed (w ∷ ws) (suc i) byte at = get_next all fed ws i byte at

length_mixed : (all fed : List ℕ) (wanted : List (Option ℕ)) (i : ℕ) → length (mixed all fed i wanted) ≡ length wanted
length_mixed all fed wanted zero = length-map wanted (told_at fed)
length_mixed all fed [] (suc i) = refl
length_mixed all fed (w ∷ ws) (suc i) = ap suc (length_mixed all fed ws i)

all_mixed : (all fed : List ℕ) (wanted : List (Option ℕ)) (i : ℕ) → length wanted ≤ i → mixed all fed i wanted ≡ map (told_at all) wanted
all_mixed all fed [] zero le = refl
all_mixed all fed [] (suc i) le = refl
all_mixed all fed (w ∷ ws) zero le = absurd (omega (arith, le))
all_mixed all fed (w ∷ ws) (suc i) le = ap (λ (l : List (Option (Option Batch))). told_at all w ∷ l) (all_mixed all fed ws i (omega (arith, le)))

pub there_is : {A : Type 0} (xs : List A) (i : ℕ) → i < length xs → (x : A) × (slice_get xs i ≡ Some x)
there_is [] i lt = absurd (omega (arith, lt))
there_is (x ∷ xs) zero lt = (x, refl)
there_is (x ∷ xs) (suc i) lt = there_is xs i (omega (arith, lt))

pub same_read : (xs : List (Option (Option Batch))) (n : ℕ) (x y : Option (Option Batch)) → x ≡ get_or xs n x → slice_get xs n ≡ Some y → x ≡ y
same_read [] n x y is at = absurd cc
same_read (z ∷ zs) zero x y is at = is ∙ cc
same_read (z ∷ zs) (suc n) x y is at = same_read zs n x y is at

has_next : (wanted : List (Option ℕ)) (i : ℕ) (byte one : Option ℕ) → slice_get wanted i ≡ Some byte → Has (take (suc i) wanted) one → Has (take i wanted) one ⊎ (byte ≡ one)
has_next [] i byte one at has = absurd cc
has_next (w ∷ ws) zero byte one at (inl same) = inr cc
has_next (w ∷ ws) zero byte one at (inr none) = absurd none
has_next (w ∷ ws) (suc i) byte one at (inl same) = inl (inl same)
has_next (w ∷ ws) (suc i) byte one at (inr has) = elim (has_next ws i byte one at has) [
  | inl before ↦ inl (inr before)
  | inr same ↦ inr same
]

has_at : (wanted : List (Option ℕ)) (i : ℕ) (byte : Option ℕ) → slice_get wanted i ≡ Some byte → Has wanted byte
has_at [] i byte at = absurd cc
has_at (w ∷ ws) zero byte at = inl cc
has_at (w ∷ ws) (suc i) byte at = inr (has_at ws i byte at)

pub length_set : (xs : List (Option (Option Batch))) (i : ℕ) (x : Option (Option Batch)) → length (slice_set xs i x) ≡ length xs
length_set [] i x = refl
length_set (y ∷ ys) zero x = refl
length_set (y ∷ ys) (suc i) x = ap suc (length_set ys i x)

less_ahead : (bytes : List ℕ) (m n : ℕ) (byte : Option ℕ) → m ≤ n → IsAheadIf bytes n byte → IsAheadIf bytes m byte
less_ahead bytes m n None le ahead = λ none. tt
less_ahead bytes m n (Some byte) le ahead = λ none. let at = ahead none in omega (arith, at, le)

pub one_picked : (i passed taken one less : ℕ) (buffer : List ℕ) (wanted : List (Option ℕ)) (old now after : List (Option (Option Batch))) (asked : Option ℕ) (was told : Option (Option Batch)) → i < length now → was ≡ get_or now i was
    → ((byte : Option ℕ) → slice_get wanted i ≡ Some byte → asked ≡ byte) → IsPickedAt passed buffer asked was told one → after ≡ slice_set now i told → less ≤ taken → less ≤ one
    → ArePickedSoFar i passed buffer wanted old now taken → ArePickedSoFar (i + 1) passed buffer wanted old after less
one_picked i passed taken one less buffer wanted old now after asked was told lt is names picked set a b so = λ fed more here are ahead.
    let before = so fed more here are ahead in
    let all = fed ++ more in
    let inside : i < length wanted = subst (λ (n : ℕ). i < n) (ap length before.0 ∙ length_mixed all fed wanted i) lt in
    let t = there_is wanted i inside in
    let byte = t.0 in
    let own : asked ≡ byte = names byte t.1 in
    let old_is : was ≡ told_at fed byte = same_read now i was (told_at fed byte) is (ap (λ (l : List (Option (Option Batch))). slice_get l i) before.0 ∙ get_next all fed wanted i byte t.1) in
    let one_is = subst (λ (b : Option ℕ). IsPickedAt passed buffer b was told one) own picked fed more here old_is (ahead byte (has_at wanted i byte t.1)) in
    let next : suc i ≡ i + 1 = omega arith in
    let listed : after ≡ mixed all fed (suc i) wanted = set ∙ ((λ k. slice_set (before.0 k) i (one_is.0 k)) ∙ set_next all fed wanted i byte t.1) in (
      listed ∙ ap (λ (n : ℕ). mixed all fed n wanted) next,
      λ x has. elim (has_next wanted i byte x t.1 (subst (λ (n : ℕ). Has (take n wanted) x) (sym next) has)) [
        | inl earlier ↦ less_ahead all (passed + less) (passed + taken) x (omega (arith, a)) (before.1 x earlier)
        | inr same ↦ less_ahead all (passed + less) (passed + one) x (omega (arith, b)) (subst (IsAheadIf all (passed + one)) same one_is.1)
      ],
    )

pub all_picked : (i passed taken : ℕ) (buffer : List ℕ) (wanted : List (Option ℕ)) (old new : List (Option (Option Batch))) → length new ≤ i → ArePickedSoFar i passed buffer wanted old new taken → ArePickedAt passed buffer wanted old new taken
all_picked i passed taken buffer wanted old new done so = λ fed more here are ahead.
    let s = so fed more here are ahead in
    let all = fed ++ more in
    let le : length wanted ≤ i = subst (λ (n : ℕ). n ≤ i) (ap length s.0 ∙ length_mixed all fed wanted i) done in
    (s.0 ∙ all_mixed all fed wanted i le, subst (AreAhead all (passed + taken)) (take_all i wanted le) s.1)

-- ---- a chunk

-- ---- before any byte was read

pub nothing_more : (wanted : List (Option ℕ)) (i : ℕ) (byte : Option ℕ) (now grown whole : List (Option (Option Batch))) (told : Option (Option Batch)) → drop i wanted ≡ byte ∷ drop (i + 1) wanted → told ≡ told_at [] byte → grown ≡ now ++ told ∷ []
    → now ++ map (told_at []) (drop i wanted) ≡ whole → grown ++ map (told_at []) (drop (i + 1) wanted) ≡ whole
nothing_more wanted i byte now grown whole told next is more so =
    ap (λ (l : List (Option (Option Batch))). l ++ map (told_at []) (drop (i + 1) wanted)) more
    ∙ (append_one now told (map (told_at []) (drop (i + 1) wanted)) ∙ ((λ k. now ++ (is k ∷ map (told_at []) (drop (i + 1) wanted))) ∙ (sym (ap (λ (ws : List (Option ℕ)). now ++ map (told_at []) ws) next) ∙ so)))
  where
    append_one : (xs : List (Option (Option Batch))) (x : Option (Option Batch)) (ys : List (Option (Option Batch))) → (xs ++ x ∷ []) ++ ys ≡ xs ++ (x ∷ ys)
    append_one [] x ys = refl
    append_one (z ∷ zs) x ys = ap (λ (l : List (Option (Option Batch))). z ∷ l) (append_one zs x ys)

drop_short : (byte : ℕ) → told_at [] (Some byte) ≡ None
drop_short byte = none_past [] byte (omega arith)

pub nothing_at : (byte : ℕ) → None ≡ told_at [] (Some byte)
nothing_at byte = sym (drop_short byte)
