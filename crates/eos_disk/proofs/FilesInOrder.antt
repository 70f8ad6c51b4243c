-- The files of a partition by base: exactly those that the names of its folder say.
use Rattle.std.proofs.Common.{◌≡◌, ◌≢◌, ◌<◌, ℕ, suc, ℤ, List, [], ◌∷◌, ◌++◌, length, take, drop, slice_index_or, ◌+◌, ◌-◌, Option, None, Some, refl, sym, ap, ◌∙◌, subst, inl, inr, false, arith, IsPermutation, IsSorted}
use Rattle.std.proofs.lemmas.Bool.{cases_lt}
use Rattle.std.proofs.lemmas.Cmp.{int_cmp_total, int_ranked}
use Rattle.std.proofs.lemmas.List.Elements.{All-from_recursion, recursion_from_All}
use Rattle.std.proofs.lemmas.List.Sorted.{All-permutation, IsPermutation-sym}
use Rattle.std.specs.List.{AllByRecursion}
use Rattle.std.specs.List.Sorted.{IsStrictlySortedBy}
use Rattle.std.specs.Ordering.{int_cmp, is_lt, ordering_reverse}
use Rattle.std.specs.declared.cmp.Ordering.{Ordering}
use Rattle.std.specs.declared.cmp.Ordering.TheVariants.{Less, Equal, Greater}
use Rattle.eos_base.specs.Members.{Has}
use Rattle.eos_base.proofs.Membership.{flat_has, has_flat, only}
use Rattle.eos_disk.specs.Entries.{Entry}
use Rattle.eos_evidence.specs.declared.ends.End.{End}
use Rattle.eos_disk.specs.declared.names.FileName.{FileName}
use Rattle.eos_disk.specs.Names.{file_in_name}
use Rattle.eos_disk.specs.Paths.{path_of_end}
use Rattle.eos_disk.specs.Shapes.{IsSaid, AreFilesIn, IsListed, by_base, file_list, files_said, AreByBase, IsFound}
use Rattle.eos_disk.proofs.FilesMore.{all_left}
use Rattle.eos_disk.specs.steps.Listing.{IsApart, AreApart}

-- ---- each base once

less_of : (a b : ℤ) → is_lt (int_cmp b a) ≡ false → a ≢ b → int_cmp a b ≡ Less
less_of a b low apart = go (int_cmp a b) refl
  where
    go : (o : Ordering) → int_cmp a b ≡ o → int_cmp a b ≡ Less
    go Less e = e
    go Equal e = absurd (apart (int_ranked a b Equal (sym e)))
    go Greater e =
        let turned : int_cmp b a ≡ Less = int_cmp_total.antisymm b a ∙ ap ordering_reverse e in
        absurd (cc (low, turned))

sorted_rest : (f : FileName) (fs : List FileName) → IsSorted by_base (f ∷ fs) → IsSorted by_base fs
sorted_rest f fs s k d le lt =
    let step : suc k + 1 ≡ suc (k + 1) = omega arith in
    subst (λ (n : ℕ). is_lt (by_base (slice_index_or (f ∷ fs) n d) (slice_index_or fs k d)) ≡ false) step (s (suc k) d (omega arith) (omega (arith, lt)))

above : (f g : FileName) (fs : List FileName) → by_base f g ≡ Less → AllByRecursion (λ y. by_base g y ≡ Less) fs → AllByRecursion (λ y. by_base f y ≡ Less) fs
above f g [] less all = tt
above f g (h ∷ hs) less all = (int_cmp_total.trans f.base g.base h.base less all.0, above f g hs less all.1)

rises : (files : List FileName) → IsSorted by_base files → AreApart files → IsStrictlySortedBy by_base files
unfolding IsStrictlySortedBy
rises [] s a = tt
rises (f ∷ []) s a = (tt, tt)
rises (f ∷ g ∷ fs) s a =
    let rest = rises (g ∷ fs) (sorted_rest f (g ∷ fs) s) a.1 in
    let less : by_base f g ≡ Less = less_of f.base g.base (s 0 f (omega arith) (omega arith)) a.0 in
    ((less, above f g fs less rest.0), rest)

-- ---- the same members

each_of : {X : Type 0} (P : X → Type 0) (xs : List X) → ((x : X) → Has xs x → P x) → AllByRecursion P xs
each_of P [] h = tt
each_of P (x ∷ xs) h = (h x (inl refl), each_of P xs (λ y k. h y (inr k)))

at : {X : Type 0} (P : X → Type 0) (xs : List X) → AllByRecursion P xs → (y : X) → Has xs y → P y
at P [] h y k = absurd k
at P (x ∷ xs) h y (inl e) = subst P e h.0
at P (x ∷ xs) h y (inr k) = at P xs h.1 y k

pub permuted : {X : Type 0} (xs ys : List X) → IsPermutation xs ys → (x : X) → Has ys x → Has xs x
permuted xs ys p x h = at (Has xs) ys (recursion_from_All (Has xs) ys (All-permutation (Has xs) xs ys p (All-from_recursion (Has xs) xs (each_of (Has xs) xs (λ y k. k))))) x h

in_list : (o : Option FileName) (file : FileName) → Has (file_list o) file → o ≡ Some file
in_list None file h = absurd h
in_list (Some g) file h = ap Some (only g file h)

pub has_said : (names : List (List ℕ)) (file : FileName) → Has (files_said names) file → IsSaid names file
has_said names file h =
    let from = flat_has (λ name. file_list (file_in_name name)) names file h in
    (from.0, from.1, in_list (file_in_name from.0) file from.2)

pub said_has : (names : List (List ℕ)) (file : FileName) → IsSaid names file → Has (files_said names) file
said_has names file said =
    has_flat (λ name. file_list (file_in_name name)) names said.0 file said.1 (subst (λ (o : Option FileName). Has (file_list o) file) (sym said.2) (inl refl))

all_files : (names : List (List ℕ)) (files : List FileName) → AreByBase names files → AreApart files → AreFilesIn names files
all_files names files are apart = record {
  rises = rises files are.sorted apart;
  members = λ file. (
    λ h. has_said names file (permuted (files_said names) files are.same file h),
    λ said. permuted files (files_said names) (IsPermutation-sym (files_said names) files are.same) file (said_has names file said),
  );
}

pub found_listed : (holds : List ℕ → Entry) (folder : List ℕ) (e : End) (files : List FileName) → IsFound holds (path_of_end folder e) files → AreApart files → IsListed holds folder e files
found_listed holds folder e files found apart = record { names = found.names; stands = found.stands; all = all_files found.names files found.are apart }

-- ---- from the places

pub apart_next : (files : List FileName) (i : ℕ) → ((k : ℕ) → k < i → IsApart (drop k files)) → IsApart (take (length files - i) (drop i files)) → (k : ℕ) → k < i + 1 → IsApart (drop k files)
apart_next files i each last k lt = elim (cases_lt k i) [
  | inl less ↦ each k less
  | inr more ↦ (let same : i ≡ k = omega (arith, lt, more) in subst (λ (n : ℕ). IsApart (drop n files)) same (subst IsApart (all_left files i) last))
]

pub apart_all : (files : List FileName) → ((k : ℕ) → k < length files → IsApart (drop k files)) → AreApart files
apart_all [] each = tt
apart_all (f ∷ fs) each = (each 0 (omega arith), apart_all fs (λ k lt. each (suc k) (omega (arith, lt))))

-- a front of them, each of another base than what follows
pub front_rises : (taken later : List FileName) → IsSorted by_base (taken ++ later) → ((k : ℕ) → k < length taken → IsApart (drop k (taken ++ later))) → IsStrictlySortedBy by_base taken
unfolding IsStrictlySortedBy
front_rises [] later s apart = tt
front_rises (f ∷ []) later s apart = (tt, tt)
front_rises (f ∷ g ∷ fs) later s apart =
    let rest = front_rises (g ∷ fs) later (sorted_rest f (g ∷ (fs ++ later)) s) (λ k lt. apart (suc k) (omega (arith, lt))) in
    let less : by_base f g ≡ Less = less_of f.base g.base (s 0 f (omega arith) (omega arith)) (apart 0 (omega arith)) in
    ((less, above f g fs less rest.0), rest)
