-- Mistakes that are made one after the other, and files that are added or copied so.
use Rattle.std.proofs.Common.{◌≡◌, ℕ, ◌+◌, ◌<◌, ◌≤◌, true, List, [], ◌∷◌, ◌++◌, drop, length, get_or, Option, Some, Result, Ok, sym, ap, ◌∙◌, append_assoc}
use Rattle.std.proofs.lemmas.Bool.{cond-true}
use Rattle.std.proofs.lemmas.List.{drop_all, drop_more}
use Rattle.eos_base.specs.Fallible.{◌>>=◌}
use Rattle.eos_evidence.specs.declared.segment.Segment.{Segment}
use Rattle.eos_evidence.specs.declared.fault.AddFault.{AddFault}
use Rattle.eos_evidence.specs.Evidence.{EvidenceParts, added}
use Rattle.eos_machine.specs.Evidences.{adding}
use Rattle.eos_simulate.specs.declared.copied.Copied.{Copied}
use Rattle.eos_simulate.specs.declared.mistake.Mistake.{Mistake}
use Rattle.eos_simulate.specs.Collecting.{after_mistakes, after_mistake, can_make}

-- the mistakes from i on bring from here what all of them bring
abbrev pub GoesOn : List Mistake → Option Copied → ℕ → Copied → Type 0
GoesOn ms all i now = after_mistakes (drop i ms) now ≡ all

made_first : (m : Mistake) (ms : List Mistake) (c : Copied) → can_make m c ≡ true → after_mistakes (m ∷ ms) c ≡ after_mistakes ms (after_mistake m c)
unfolding after_mistakes
made_first m ms c can = cond-true _ _ _ can

pub one_made : (ms : List Mistake) (all : Option Copied) (i : ℕ) (m d : Mistake) (now next : Copied) → i < length ms → m ≡ get_or ms i d → can_make m now ≡ true → next ≡ after_mistake m now
    → GoesOn ms all i now → GoesOn ms all (i + 1) next
one_made ms all i m d now next lt is can made h =
    let split : drop i ms ≡ m ∷ drop (i + 1) ms = drop_more ms i d lt ∙ ap (λ (x : Mistake). x ∷ drop (i + 1) ms) (sym is) in
    ap (after_mistakes (drop (i + 1) ms)) made ∙ (sym (made_first m (drop (i + 1) ms) now can) ∙ (sym (ap (λ (xs : List Mistake). after_mistakes xs now) split) ∙ h))

pub all_made : (ms : List Mistake) (all : Option Copied) (i : ℕ) (now : Copied) → length ms ≤ i → GoesOn ms all i now → all ≡ Some now
unfolding after_mistakes
all_made ms all i now end h = sym h ∙ ap (λ (xs : List Mistake). after_mistakes xs now) (drop_all i ms end)

-- the files from i on lead from here to where all of them lead
abbrev pub AddsOn : List Segment → Result EvidenceParts AddFault → ℕ → EvidenceParts → Type 0
AddsOn fs all i now = adding now (drop i fs) ≡ all

pub one_added : (fs : List Segment) (all : Result EvidenceParts AddFault) (i : ℕ) (f copied : Segment) (now next : EvidenceParts) → i < length fs → f ≡ get_or fs i f → copied ≡ f → added now copied ≡ Ok next
    → AddsOn fs all i now → AddsOn fs all (i + 1) next
one_added fs all i f copied now next lt is same a h =
    let split : drop i fs ≡ f ∷ drop (i + 1) fs = drop_more fs i f lt ∙ ap (λ (x : Segment). x ∷ drop (i + 1) fs) (sym is) in
    let first : added now f ≡ Ok next = ap (added now) (sym same) ∙ a in
    sym (ap (λ (r : Result EvidenceParts AddFault). r >>= λ k. adding k (drop (i + 1) fs)) first) ∙ (sym (ap (adding now) split) ∙ h)

pub all_added : (fs : List Segment) (all : Result EvidenceParts AddFault) (i : ℕ) (now : EvidenceParts) → length fs ≤ i → AddsOn fs all i now → all ≡ Ok now
all_added fs all i now end h = sym h ∙ ap (adding now) (drop_all i fs end)

-- two files more
pub two_more : (old mid new : List Segment) (a b x y : Segment) → new ≡ mid ++ b ∷ [] → mid ≡ old ++ a ∷ [] → a ≡ x → b ≡ y → new ≡ old ++ x ∷ y ∷ []
two_more old mid new a b x y last first p q =
    last ∙ (ap (λ (ss : List Segment). ss ++ b ∷ []) first ∙ (append_assoc old (a ∷ []) (b ∷ [])
    ∙ (ap (λ (s : Segment). old ++ s ∷ b ∷ []) p ∙ ap (λ (s : Segment). old ++ x ∷ s ∷ []) q)))
