-- Reading a segment batch by batch.
--
-- A program that reads with `next_batch` at a place `at` keeps `Splits bytes batches (drop at bytes)`, where `batches`
-- are those so far, in its loop. `splits_none` begins it at 0. After an Ok with (b, k), `step_at` gives it for one
-- batch more at the place `at + k`, which is within the bytes and further on, so `length bytes - at` falls. At the
-- end `drop at bytes` is `[]`, by `drop_all`; at a fault `stops_at` gives `StopsAt`. Both with `Splits` are
-- `IsSegmentText`. The items of a `Bytes` are bytes by a call with no body, as `are_bytes` beside `decode_segment`.
use Rattle.std.proofs.Common.{◌≡◌, ◌≢◌, ℕ, ◌+◌, ◌<◌, ◌≤◌, List, [], ◌∷◌, ◌++◌, length, take, drop, Option, Some, None, Ok, Err, refl, sym, ap, subst, ◌∙◌, arith}
use Rattle.std.proofs.lemmas.List.{drop-drop, drop_at, length-append, length-drop, length-take}
use Rattle.eos_wire.specs.Numbers.{IsBytes, i64_at}
use Rattle.eos_batch.specs.declared.fault.BatchFault.{BatchFault}
use Rattle.eos_batch.specs.declared.fault.BatchFault.TheVariants as faults
use Rattle.eos_batch.specs.declared.batch.Batch.{Batch}
use Rattle.eos_batch.specs.Text.{IsBatchText, HasTextAt}
use Rattle.eos_batch.specs.Reading.{frame_at, batch_at}
use Rattle.eos_batch.specs.Segment.{Splits, StopsAt}
use Rattle.eos_batch.proofs.BatchTexts.{IsBytes-drop, batch_sound, batch_whole, batch_prefix_free, text_length}

pub splits_none : (bytes : List ℕ) → Splits bytes [] (drop 0 bytes)
splits_none bytes = refl

pub splits_push : (bytes : List ℕ) (bs : List Batch) (rest text : List ℕ) (b : Batch) (more : List ℕ) → Splits bytes bs rest → IsBatchText text b → rest ≡ text ++ more → Splits bytes (bs ++ b ∷ []) more
splits_push bytes [] rest text b more s t e = (text, more, t, s ∙ e, refl)
splits_push bytes (x ∷ xs) rest text b more s t e = (s.0, s.1, s.2, s.3, splits_push s.1 xs rest text b more s.4 t e)

-- one batch more, at a place further on
pub record Step (bytes : List ℕ) (bs : List Batch) (at : ℕ) (b : Batch) (k : ℕ) : Type 0 where
  pub splits : Splits bytes (bs ++ b ∷ []) (drop (at + k) bytes)
  pub within : at + k ≤ length bytes
  pub some : 61 ≤ k

pub step_at : (bytes : List ℕ) (bs : List Batch) (at : ℕ) (b : Batch) (k : ℕ) → IsBytes bytes → at ≤ length bytes → Splits bytes bs (drop at bytes) → batch_at (drop at bytes) ≡ Ok (b, k) → Step bytes bs at b k
step_at bytes bs at b k fits le s e =
    let t = batch_sound (drop at bytes) (b, k) (IsBytes-drop at bytes fits) e in
    let left : drop (at + k) bytes ≡ t.rest = sym (drop-drop k at bytes) ∙ (ap (drop k) t.parts ∙ drop_at t.text t.rest k (sym t.len)) in
    record {
      splits = subst (Splits bytes (bs ++ b ∷ [])) (sym left) (splits_push bytes bs (drop at bytes) t.text b t.rest s t.holds t.parts);
      within = omega (arith, t.len, ap length t.parts, length-append t.text t.rest, length-drop at bytes);
      some = omega (arith, t.len, text_length t.text b t.holds);
    }

pub stops_at : (bytes : List ℕ) (at : ℕ) (fault : BatchFault) → at < length bytes → batch_at (drop at bytes) ≡ Err fault → fault ≢ faults.OutOfMemory → StopsAt bytes (drop at bytes) (Some (at, fault))
stops_at bytes at fault lt e real =
    (λ (none : drop at bytes ≡ []). omega (arith, length-drop at bytes, ap length none), omega (arith, length-drop at bytes), e, real)

-- ---- no list of batches is longer

nothing_read : (x : Batch × ℕ) → batch_at [] ≡ Ok x → ⊥
unfolding batch_at frame_at i64_at
nothing_read x e = cc

none_more : (bytes rest : List ℕ) (stop : Option (ℕ × BatchFault)) (x : Batch × ℕ) → StopsAt bytes rest stop → batch_at rest ≡ Ok x → ⊥
none_more bytes rest None x s e = nothing_read x (ap batch_at (sym s) ∙ e)
none_more bytes rest (Some stop) x s e = let f : Err stop.1 ≡ Ok x = sym s.2 ∙ e in cc

pub longest : (bytes start rest : List ℕ) (stop : Option (ℕ × BatchFault)) (bs cs : List Batch) (more : List ℕ) → StopsAt start rest stop → Splits bytes bs rest → Splits bytes cs more → length cs ≤ length bs
longest bytes start rest stop bs [] more halt s t = omega arith
longest bytes start rest stop [] (c ∷ cs) more halt s t =
    absurd (none_more start rest stop (c, length t.0) halt (ap batch_at (sym s ∙ t.3) ∙ batch_whole t.0 c t.1 t.2))
longest bytes start rest stop (b ∷ bs) (c ∷ cs) more halt s t =
    let p = batch_prefix_free s.0 t.0 s.1 t.1 b c s.2 t.2 (sym s.3 ∙ t.3) in
    let h = longest s.1 start rest stop bs cs more halt s.4 (subst (λ (xs : List ℕ). Splits xs cs more) (sym p.2) t.4) in
    omega (arith, h)

-- a text that stands there is not empty
pub text_takes : (bytes : List ℕ) (at k : ℕ) (b : Batch) → HasTextAt bytes at b k → 1 ≤ k
text_takes bytes at k b t = omega (arith, text_length (take k (drop at bytes)) b t.1, length-take k (drop at bytes))
