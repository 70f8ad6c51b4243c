-- The heads of batches at the front of bytes: one batch more, further bytes, and further batches.
use Rattle.std.proofs.Common.{◌≡◌, ℕ, ◌+◌, List, [], ◌∷◌, ◌++◌, length, drop, Ok, refl, sym, ap, subst, ◌∙◌, append_assoc}
use Rattle.std.proofs.lemmas.List.{drop-drop, drop_at}
use Rattle.eos_wire.specs.Numbers.{IsBytes}
use Rattle.eos_batch.specs.declared.batch.Batch.{Batch}
use Rattle.eos_batch.specs.declared.head.BatchHead.{BatchHead}
use Rattle.eos_batch.specs.Heads.{head_of}
use Rattle.eos_batch.specs.Text.{IsBatchText}
use Rattle.eos_batch.specs.Reading.{batch_at}
use Rattle.eos_batch.specs.Segment.{Splits}
use Rattle.eos_batch.proofs.BatchTexts.{IsBytes-drop, batch_sound}
use Rattle.eos_reading.specs.Heads.{HasHeads}

pub has_splits : (bytes : List ℕ) (bs : List Batch) (hs : List BatchHead) (rest : List ℕ) → HasHeads bytes bs hs rest → Splits bytes bs rest
has_splits bytes [] [] rest s = s
has_splits bytes [] (h ∷ hs) rest s = absurd s
has_splits bytes (b ∷ bs) [] rest s = absurd s
has_splits bytes (b ∷ bs) (h ∷ hs) rest s = (s.0, s.1, s.2, s.3, has_splits s.1 bs hs rest s.5)

heads_push : (bytes : List ℕ) (bs : List Batch) (hs : List BatchHead) (rest text more : List ℕ) (b : Batch) (h : BatchHead) → HasHeads bytes bs hs rest → IsBatchText text b → rest ≡ text ++ more → h ≡ head_of b (length text)
    → HasHeads bytes (bs ++ b ∷ []) (hs ++ h ∷ []) more
heads_push bytes [] [] rest text more b h s t e is = (text, more, t, s ∙ e, is, refl)
heads_push bytes [] (g ∷ gs) rest text more b h s t e is = absurd s
heads_push bytes (x ∷ xs) [] rest text more b h s t e is = absurd s
heads_push bytes (x ∷ xs) (g ∷ gs) rest text more b h s t e is = (s.0, s.1, s.2, s.3, s.4, heads_push s.1 xs gs rest text more b h s.5 t e is)

pub heads_at : (bytes : List ℕ) (bs : List Batch) (hs : List BatchHead) (at : ℕ) (b : Batch) (h : BatchHead) → IsBytes bytes → HasHeads bytes bs hs (drop at bytes) → batch_at (drop at bytes) ≡ Ok (b, h.size) → h ≡ head_of b h.size
    → HasHeads bytes (bs ++ b ∷ []) (hs ++ h ∷ []) (drop (at + h.size) bytes)
heads_at bytes bs hs at b h fits s e is =
    let t = batch_sound (drop at bytes) (b, h.size) (IsBytes-drop at bytes fits) e in
    let left : drop (at + h.size) bytes ≡ t.rest = sym (drop-drop h.size at bytes) ∙ (ap (drop h.size) t.parts ∙ drop_at t.text t.rest h.size (sym t.len)) in
    subst (HasHeads bytes (bs ++ b ∷ []) (hs ++ h ∷ [])) (sym left) (heads_push bytes bs hs (drop at bytes) t.text t.rest b h s t.holds t.parts (is ∙ ap (head_of b) t.len))

pub heads_more : (fed : List ℕ) (bs : List Batch) (hs : List BatchHead) (rest more : List ℕ) → HasHeads fed bs hs rest → HasHeads (fed ++ more) bs hs (rest ++ more)
heads_more fed [] [] rest more s = ap (λ (xs : List ℕ). xs ++ more) s
heads_more fed [] (h ∷ hs) rest more s = absurd s
heads_more fed (b ∷ bs) [] rest more s = absurd s
heads_more fed (b ∷ bs) (h ∷ hs) rest more s =
    (s.0, s.1 ++ more, s.2, ap (λ (xs : List ℕ). xs ++ more) s.3 ∙ append_assoc s.0 s.1 more, s.4, heads_more s.1 bs hs rest more s.5)

pub heads_join : (fed : List ℕ) (bs cs : List Batch) (hs gs : List BatchHead) (rest last : List ℕ) → HasHeads fed bs hs rest → HasHeads rest cs gs last → HasHeads fed (bs ++ cs) (hs ++ gs) last
heads_join fed [] cs [] gs rest last s t = subst (λ (xs : List ℕ). HasHeads xs cs gs last) (sym s) t
heads_join fed [] cs (h ∷ hs) gs rest last s t = absurd s
heads_join fed (b ∷ bs) cs [] gs rest last s t = absurd s
heads_join fed (b ∷ bs) cs (h ∷ hs) gs rest last s t = (s.0, s.1, s.2, s.3, s.4, heads_join s.1 bs cs hs gs rest last s.5 t)
