-- A fold has no more records than its segment has bytes.
use Rattle.std.proofs.Common.{◌≡◌, ℕ, ◌+◌, ◌*◌, ◌≤◌, ◌^◌, Bool, true, false, not, ◌&&◌, min, List, [], ◌∷◌, sym, ap, ◌∙◌, arith, inl, inr}
use Rattle.std.specs.Prelude.{IsTrue}
use Rattle.std.proofs.lemmas.Bool.{lt-ltb, cases_lt}
use Rattle.std.proofs.lemmas.List.Sums.{sum_by-cons}
use Rattle.eos_fold_file.specs.declared.file.FoldFile.{FoldFile}
use Rattle.eos_fold_file.specs.declared.head.FoldHead.{FoldHead}
use Rattle.eos_fold_file.specs.Files.{record_count, size_sum, fits_bytes}
use Rattle.eos_fold_file.specs.Heads.{is_count_possible, is_size_possible, is_producer_possible, is_possible}
use Rattle.eos_fold_file.specs.Legal.{Each, IsLegalHead, IsLegal}

neither : (a b c : Bool) → b ≡ false → (a && (b && c)) ≡ true → ⊥
neither true b c e q = let r : false ≡ true = sym (ap (λ (x : Bool). x && c) e) ∙ q in cc
neither false b c e q = cc

one_within : (h : FoldHead) → IsTrue (is_possible h) → h.count ≤ h.size
one_within h possible = elim (cases_lt h.size (61 + 7 * h.count)) [
  | inl l ↦ absurd (neither (is_count_possible h) (is_size_possible h) (is_producer_possible h) (ap not (lt-ltb h.size (61 + 7 * h.count) l)) possible)
  | inr r ↦ omega (arith, r)
]

all_within : (hs : List FoldHead) → Each IsLegalHead hs → record_count hs ≤ size_sum hs
all_within [] e = omega arith
all_within (h ∷ hs) e =
    let counts = sum_by-cons (λ (x : FoldHead). x.count) h hs in
    let sizes = sum_by-cons (λ (x : FoldHead). x.size) h hs in
    omega (arith, counts, sizes, one_within h e.0.possible, all_within hs e.1)

sizes_within : (bytes : ℕ) (hs : List FoldHead) → IsTrue (fits_bytes bytes hs) → size_sum hs ≤ bytes
sizes_within bytes hs fits = elim (cases_lt (min bytes (2 ^ 63)) (size_sum hs)) [
  | inl l ↦ absurd (let r : false ≡ true = sym (ap not (lt-ltb (min bytes (2 ^ 63)) (size_sum hs) l)) ∙ fits in cc)
  | inr r ↦ omega (arith, r)
]

pub records_within : (f : FoldFile) → IsLegal f → record_count f.heads ≤ f.bytes
records_within f legal = let fits = sizes_within f.bytes f.heads legal.sizes in omega (arith, fits, all_within f.heads legal.heads)
