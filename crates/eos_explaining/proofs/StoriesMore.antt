-- Stories that are told one after the other.
use Rattle.std.proofs.Common.{◌≡◌, ◌+◌, ℕ, zero, suc, List, [], ◌∷◌, ◌++◌, Some, String, Global, map, take, slice_get, sym, ap, subst, arith, string_bytes}
use Rattle.std.proofs.lemmas.List.{map-append}
use Rattle.eos_sought.specs.declared.folded.Folded.{Folded}
use Rattle.eos_source.specs.Said.{Known}
use Rattle.eos_evidence.specs.Evidence.{EvidenceParts}
use Rattle.eos_verdict.specs.declared.verdict.Verdict.{Verdict}
use Rattle.eos_explaining.specs.declared.story.About.{About}
use Rattle.eos_explaining.specs.steps.Again.{AreKept, IsToldBy, AreToldBy}

one_more : (xs : List Verdict) (i : ℕ) (v : Verdict) → slice_get xs i ≡ Some v → take (suc i) xs ≡ take i xs ++ (v ∷ [])
one_more [] i v is = cc
one_more (x ∷ xs) zero v is = cc
one_more (x ∷ xs) (suc i) v is = ap (λ (l : List Verdict). x ∷ l) (one_more xs i v is)

-- what is told by some partitions is told by more
pub still_told : (known : ℕ → Known) (shape : EvidenceParts) (before after : List Folded) (about : About) (v : Verdict) (t : List ℕ) → AreKept before after → IsToldBy known shape before about v t → IsToldBy known shape after about v t
still_told known shape before after about v t kept told = record {
  also = told.also;
  read_also = told.read_also;
  told = λ e is spec has there. told.told e is spec (λ f here. has f (kept f here)) there;
}

then_one : (known : ℕ → Known) (shape : EvidenceParts) (before after : List Folded) (about : About) (vs : List Verdict) (ts : List (List ℕ)) (v : Verdict) (t : List ℕ) → AreKept before after → AreToldBy known shape before about vs ts → IsToldBy known shape after about v t
    → AreToldBy known shape after about (vs ++ (v ∷ [])) (ts ++ (t ∷ []))
then_one known shape before after about [] [] v t kept are is = (is, tt)
then_one known shape before after about [] (x ∷ ts) v t kept are is = absurd are
then_one known shape before after about (w ∷ vs) [] v t kept are is = absurd are
then_one known shape before after about (w ∷ vs) (x ∷ ts) v t kept are is = (still_told known shape before after about w x kept are.0, then_one known shape before after about vs ts v t kept are.1 is)

pub told_more : (known : ℕ → Known) (shape : EvidenceParts) (before after : List Folded) (about : About) (told : List Verdict) (texts : List (String Global)) (i : ℕ) (v : Verdict) (text : String Global) → AreKept before after
    → AreToldBy known shape before about (take i told) (map string_bytes texts) → slice_get told i ≡ Some v → IsToldBy known shape after about v (string_bytes text)
    → AreToldBy known shape after about (take (i + 1) told) (map string_bytes (texts ++ (text ∷ [])))
told_more known shape before after about told texts i v text kept are at is =
    let next : i + 1 ≡ suc i = omega arith in
    let more = then_one known shape before after about (take i told) (map string_bytes texts) v (string_bytes text) kept are is in
    let of_texts = subst (λ (ts : List (List ℕ)). AreToldBy known shape after about (take i told ++ (v ∷ [])) ts) (sym (map-append string_bytes texts (text ∷ []))) more in
    let of_told = subst (λ (vs : List Verdict). AreToldBy known shape after about vs (map string_bytes (texts ++ (text ∷ [])))) (sym (one_more told i v at)) of_texts in
    subst (λ (n : ℕ). AreToldBy known shape after about (take n told) (map string_bytes (texts ++ (text ∷ [])))) (sym next) of_told
