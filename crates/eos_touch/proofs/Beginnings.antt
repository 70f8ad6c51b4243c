-- Two beginnings of the same bytes: one begins the other.
use Rattle.std.proofs.Common.{◌≡◌, ℕ, ◌⊎◌, inl, inr, List, [], ◌∷◌, ◌++◌, length, drop, refl, sym, ap, subst, ◌∙◌}
use Rattle.std.proofs.Math.Seq.{drop-append_seam}
use Rattle.eos_batch.specs.declared.batch.Batch.{Batch}
use Rattle.eos_batch.specs.Rules.{IsCounted}
use Rattle.eos_batch.specs.Text.{IsBatchText}
use Rattle.eos_batch.specs.Segment.{Splits}
use Rattle.eos_touch.specs.Front.{IsNext}
use Rattle.eos_touch.proofs.BatchReading.{ok_is, reads_first}

-- ys goes on after xs, whose rest is r
pub record GoesOn (xs : List Batch) (r : List ℕ) (ys : List Batch) : Type 0 where
  pub next : Batch
  pub more : List Batch
  pub parts : ys ≡ xs ++ next ∷ more
  pub there : IsNext r next

abbrev pub Compared : List Batch → List ℕ → List Batch → List ℕ → Type 0
Compared xs r ys s = GoesOn xs r ys ⊎ (((xs ≡ ys) × (r ≡ s)) ⊎ GoesOn ys s xs)

rest_is : (bytes text more : List ℕ) → bytes ≡ text ++ more → drop (length text) bytes ≡ more
rest_is bytes text more e = ap (drop (length text)) e ∙ drop-append_seam text more

goes_on-cons : (x y : Batch) (xs : List Batch) (r : List ℕ) (ys : List Batch) → x ≡ y → GoesOn xs r ys → GoesOn (x ∷ xs) r (y ∷ ys)
goes_on-cons x y xs r ys e g = record { next = g.next; more = g.more; parts = let p = g.parts in cc; there = g.there }

compared-cons : (x y : Batch) (xs : List Batch) (r : List ℕ) (ys : List Batch) (s : List ℕ) → x ≡ y → Compared xs r ys s → Compared (x ∷ xs) r (y ∷ ys) s
compared-cons x y xs r ys s e (inl g) = inl (goes_on-cons x y xs r ys e g)
compared-cons x y xs r ys s e (inr (inl g)) = inr (inl (let p = g.0 in cc, g.1))
compared-cons x y xs r ys s e (inr (inr g)) = inr (inr (goes_on-cons y x ys s xs (sym e) g))

pub compared : (bytes : List ℕ) (xs : List Batch) (r : List ℕ) (ys : List Batch) (s : List ℕ) → Splits bytes xs r → Splits bytes ys s → Compared xs r ys s
compared bytes [] r [] s h k = inr (inl (refl, sym h ∙ k))
compared bytes [] r (y ∷ ys) s h k = inl (record { next = y; more = ys; parts = refl; there = (k.0, k.1, k.2, sym h ∙ k.3) })
compared bytes (x ∷ xs) r [] s h k = inr (inr (record { next = x; more = xs; parts = refl; there = (h.0, h.1, h.2, sym k ∙ h.3) }))
compared bytes (x ∷ xs) r (y ∷ ys) s h k =
    let e = ok_is (x, length h.0) (y, length k.0) (sym (reads_first bytes x h.0 h.1 h.2 h.3) ∙ reads_first bytes y k.0 k.1 k.2 k.3) in
    let first : x ≡ y = ap (λ (p : Batch × ℕ). p.0) e in
    let size : length h.0 ≡ length k.0 = ap (λ (p : Batch × ℕ). p.1) e in
    let others : h.1 ≡ k.1 = sym (rest_is bytes h.0 h.1 h.3) ∙ (ap (λ (n : ℕ). drop n bytes) size ∙ rest_is bytes k.0 k.1 k.3) in
    compared-cons x y xs r ys s first (compared k.1 xs r ys s (subst (λ (m : List ℕ). Splits m xs r) others h.4) k.4)

-- one batch more
pub splits-push : (bytes : List ℕ) (xs : List Batch) (rest : List ℕ) (b : Batch) (text more : List ℕ) → Splits bytes xs rest → IsBatchText text b → rest ≡ text ++ more → Splits bytes (xs ++ b ∷ []) more
splits-push bytes [] rest b text more h t e = (text, more, t, h ∙ e, refl)
splits-push bytes (x ∷ xs) rest b text more h t e = (h.0, h.1, h.2, h.3, splits-push h.1 xs rest b text more h.4 t e)

pub splits-counted : (bytes : List ℕ) (xs : List Batch) (b : Batch) (ys : List Batch) (rest : List ℕ) → Splits bytes (xs ++ b ∷ ys) rest → IsCounted b
splits-counted bytes [] b ys rest h = h.2.counted
splits-counted bytes (x ∷ xs) b ys rest h = splits-counted h.1 xs b ys rest h.4
