-- A walk along the front of a segment.
use Rattle.std.proofs.Common.{◌≡◌, ◌↔◌, ℕ, ◌+◌, ◌<◌, ◌≤◌, pos, List, [], ◌∷◌, ◌++◌, true, false, Bool, length, drop, Option, Some, None, Ok, refl, sym, ap, subst, ◌∙◌, arith, length-drop, MatchOption}
use Rattle.std.proofs.lemmas.List.{drop_all}
use Rattle.eos_wire.specs.Numbers.{IsBytes, i64_at}
use Rattle.eos_batch.specs.declared.batch.Batch.{Batch}
use Rattle.eos_batch.specs.Reading.{frame_at, batch_at}
use Rattle.eos_batch.specs.Segment.{Splits}
use Rattle.eos_batch.proofs.SegmentTexts.{step_at}
use Rattle.eos_manifest.specs.Front.{Runs, HasNoNext, IsFrontTo}
use Rattle.eos_manifest.specs.steps.Pieces.{IsNext}

-- what a step along the segment answers
abbrev pub Answer : List ℕ → ℕ → ℕ → Option (ℕ × ℕ) → Type 0
Answer bytes at next r = MatchOption r (HasNoNext next (drop at bytes)) (λ s. IsNext bytes at next s.0 s.1)

-- what a walk answers
abbrev pub Reaches : ℕ → List ℕ → ℕ → Bool → Type 0
Reaches from bytes end whole = (rest : List ℕ) × IsFrontTo from bytes end rest × ((whole ≡ true) ↔ (rest ≡ []))

-- what was walked
abbrev pub Walked : ℕ → List ℕ → ℕ → ℕ → Type 0
Walked from bytes at next = (batches : List Batch) × Splits bytes batches (drop at bytes) × Runs from batches next

pub stops : (from : ℕ) (bytes : List ℕ) (at next : ℕ) (r : Option (ℕ × ℕ)) → at < length bytes → Walked from bytes at next → r ≡ None → Answer bytes at next r → Reaches from bytes next false
stops from bytes at next r within walked none said = (
  drop at bytes,
  record { batches = walked.0; texts = walked.1; runs = walked.2; none_more = subst (Answer bytes at next) none said },
  (
    (λ (e : false ≡ true). absurd (cc e)),
    (λ (e : drop at bytes ≡ []). absurd (omega (arith, length-drop at bytes, ap length e))),
  ),
)

nothing_read : (x : Batch × ℕ) → batch_at [] ≡ Ok x → ⊥
unfolding batch_at frame_at i64_at
nothing_read x e = cc

pub ends : (from : ℕ) (bytes : List ℕ) (at next : ℕ) → length bytes ≤ at → Walked from bytes at next → Reaches from bytes next true
ends from bytes at next all walked =
    let none : drop at bytes ≡ [] = drop_all at bytes all in (
      drop at bytes,
      record { batches = walked.0; texts = walked.1; runs = walked.2; none_more = λ b size e. absurd (nothing_read (b, size) (ap batch_at (sym none) ∙ e)) },
      ((λ (e : true ≡ true). none), (λ (e : drop at bytes ≡ []). refl)),
    )

runs_more : (from : ℕ) (bs : List Batch) (next : ℕ) (b : Batch) (after : ℕ) → Runs from bs next → b.base_offset ≡ pos next → after ≡ next + length b.records → Runs from (bs ++ b ∷ []) after
runs_more from [] next b after r stands goes = (stands ∙ ap pos (sym r), ap (λ n. n + length b.records) r ∙ sym goes)
runs_more from (x ∷ xs) next b after r stands goes = (r.0, runs_more (from + length x.records) xs next b after r.1 stands goes)

pub goes_on : (from : ℕ) (bytes : List ℕ) (at next size after : ℕ) (r : Option (ℕ × ℕ)) → IsBytes bytes → at ≤ length bytes → Walked from bytes at next → r ≡ Some (size, after) → Answer bytes at next r → Walked from bytes (at + size) after
goes_on from bytes at next size after r fits within walked is said =
    let n : IsNext bytes at next size after = subst (Answer bytes at next) is said in
    let s = step_at bytes walked.0 at n.batch size fits within walked.1 n.read in
    (walked.0 ++ n.batch ∷ [], s.splits, runs_more from walked.0 next n.batch after walked.2 n.stands n.goes_on)

pub stays_within : (bytes : List ℕ) (at next size after : ℕ) (r : Option (ℕ × ℕ)) → r ≡ Some (size, after) → Answer bytes at next r → (1 ≤ size) × (at + size ≤ length bytes)
stays_within bytes at next size after r is said =
    let n : IsNext bytes at next size after = subst (Answer bytes at next) is said in
    (n.some, n.within)
