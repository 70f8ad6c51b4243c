-- The laws of batches and their texts: what is read is a text, each text is read, and no text begins another.
use Rattle.std.proofs.Common.{◌≡◌, ℕ, zero, suc, ◌+◌, ◌^◌, ◌<◌, ◌≤◌, List, [], ◌∷◌, ◌++◌, length, take, drop, Result, Ok, Err, refl, sym, ap, subst, ◌∙◌, append_assoc, arith, ℤ, pos}
use Rattle.std.proofs.lemmas.List.{take_at, drop_at, take-append-drop, length-append, length-drop, length-take-le}
use Rattle.eos_wire.specs.Crc.{crc32c_of}
use Rattle.eos_wire.specs.Numbers.{IsBytes, i8_text, i32_text, i64_text, u32_text}
use Rattle.eos_wire.proofs.NumberTexts.{length-i8_text, length-i16_text, length-i32_text, length-i64_text, length-u32_text}
use Rattle.std.specs.Prelude.{IfOk}
use Rattle.eos_batch.specs.declared.fault.BatchFault.{BatchFault}
use Rattle.eos_batch.specs.declared.fault.BatchFault.TheVariants as faults
use Rattle.eos_batch.specs.declared.batch.Batch.{Batch}
use Rattle.eos_batch.specs.Marker.{has_right_control}
use Rattle.eos_batch.specs.Rules.{has_right_producer, IsControlRight, IsProducerRight}
use Rattle.eos_batch.specs.Text.{IsCoveredText, IsBatchText, HasTextAt}
use Rattle.eos_batch.specs.Answers.{Answers}
use Rattle.eos_batch.specs.Reading.{frame_at, sealed_at, covered_at, batch_at}
use Rattle.eos_batch.proofs.TextParts.{bind_ok, ok_is, must_bind}
use Rattle.eos_batch.proofs.BatchParts.{FrameTaken, SealTaken, CoveredTaken, frame_sound, frame_whole, sealed_sound, sealed_whole, covered_sound, covered_whole}

pub IsBytes-drop : (n : ℕ) (xs : List ℕ) → IsBytes xs → IsBytes (drop n xs)
IsBytes-drop zero xs h = h
IsBytes-drop (suc n) [] h = h
IsBytes-drop (suc n) (x ∷ xs) h = IsBytes-drop n xs (λ i. h (suc i))

-- ---- what is read is a text

pub record BatchTaken (bytes : List ℕ) (x : Batch × ℕ) : Type 0 where
  pub text : List ℕ
  pub rest : List ℕ
  pub parts : bytes ≡ text ++ rest
  pub len : x.1 ≡ length text
  pub holds : IsBatchText text x.0

sealed_length : (leader : ℤ) (crc : ℕ) (covered : List ℕ) → length (i32_text leader ++ (i8_text (pos 2) ++ (u32_text crc ++ covered))) ≡ 9 + length covered
sealed_length leader crc covered = simp (length-append, length-i32_text, length-i8_text, length-u32_text) (omega arith)

framed_length : (base : ℤ) (n : ℕ) (body : List ℕ) → length (i64_text base ++ (i32_text (pos n) ++ body)) ≡ 12 + length body
framed_length base n body = simp (length-append, length-i64_text, length-i32_text) (omega arith)

assembled : (bytes : List ℕ) (f s : ℤ × List ℕ) (b : Batch) → FrameTaken bytes f → SealTaken f.1 s → CoveredTaken f.0 s.0 s.1 b → IsControlRight b → IsProducerRight b → BatchTaken bytes (b, 12 + length f.1)
assembled bytes f s b tf ts tc control producer =
    let nine : length f.1 ≡ 9 + length s.1 = ap length ts.parts ∙ sealed_length s.0 (crc32c_of s.1) s.1 in
    let regroup : (i64_text f.0 ++ (i32_text (pos (length f.1)) ++ f.1)) ++ tf.rest ≡ i64_text f.0 ++ (i32_text (pos (length f.1)) ++ (f.1 ++ tf.rest)) = simp append_assoc in
    record {
      text = i64_text f.0 ++ (i32_text (pos (length f.1)) ++ f.1);
      rest = tf.rest;
      parts = tf.parts ∙ sym regroup;
      len = sym (framed_length f.0 (length f.1) f.1);
      holds = record {
        covered = s.1;
        covered_text = tc.text;
        length_fits = rw (← nine) tf.length_fits;
        checksum_fits = ts.checksum_fits;
        widths = tc.widths tf.base_fits ts.leader_fits;
        plain = tc.plain;
        counted = tc.counted;
        control = control;
        producer = producer;
        parts = rw (tc.base_is, tc.leader_is, ← nine, ← ts.parts) refl;
      };
    }

pub batch_sound : (bytes : List ℕ) (x : Batch × ℕ) → IsBytes bytes → batch_at bytes ≡ Ok x → BatchTaken bytes x
unfolding batch_at
batch_sound bytes x fits e =
    let f = bind_ok (frame_at bytes) _ x e in
    let s = bind_ok (sealed_at f.0.1) _ x f.2 in
    let b = bind_ok (covered_at f.0.0 s.0.0 s.0.1) _ x s.2 in
    let c = must_bind (has_right_control b.0) faults.Control b.0 _ x b.2 in
    let p = must_bind (has_right_producer b.0) faults.Producer b.0 _ x c.1 in
    let tf = frame_sound bytes f.0 fits f.1 in
    let ts = sealed_sound f.0.1 s.0 tf.body_fits s.1 in
    let tc = covered_sound f.0.0 s.0.0 s.0.1 b.0 ts.covered_fits b.1 in
    subst (BatchTaken bytes) (ok_is (b.0, 12 + length f.0.1) x p.1) (assembled bytes f.0 s.0 b.0 tf ts tc c.0 p.0)

-- ---- each text is read, whatever follows

covered_length : (text : List ℕ) (b : Batch) → IsCoveredText text b → 40 ≤ length text
covered_length text b t = rw t.parts (simp (length-append, length-i16_text, length-i32_text, length-i64_text) (omega arith))

pub batch_whole : (text : List ℕ) (b : Batch) (rest : List ℕ) → IsBatchText text b → batch_at (text ++ rest) ≡ Ok (b, length text)
unfolding batch_at
batch_whole text b rest h =
    let body = i32_text b.leader_epoch ++ (i8_text (pos 2) ++ (u32_text (crc32c_of h.covered) ++ h.covered)) in
    let nine : length body ≡ 9 + length h.covered = sealed_length b.leader_epoch (crc32c_of h.covered) h.covered in
    let long : 49 ≤ length body = omega (arith, nine, covered_length h.covered b h.covered_text) in
    let small : length body < 2 ^ 31 = omega (arith, nine, h.length_fits) in
    let is : text ≡ i64_text b.base_offset ++ (i32_text (pos (length body)) ++ body) = rw (h.parts, nine) refl in
    let regroup : (i64_text b.base_offset ++ (i32_text (pos (length body)) ++ body)) ++ rest ≡ i64_text b.base_offset ++ (i32_text (pos (length body)) ++ (body ++ rest)) = simp append_assoc in
    let e : text ++ rest ≡ i64_text b.base_offset ++ (i32_text (pos (length body)) ++ (body ++ rest)) = ap (λ (xs : List ℕ). xs ++ rest) is ∙ regroup in
    let len : length text ≡ 12 + length body = ap length is ∙ framed_length b.base_offset (length body) body in
    rw (
      e,
      frame_whole b.base_offset body rest h.widths.base_offset long small,
      sealed_whole b.leader_epoch h.covered h.widths.leader_epoch h.checksum_fits,
      covered_whole b h.covered h.covered_text h.widths h.plain h.counted,
      h.control,
      h.producer,
    )
    (ap (λ (n : ℕ). Ok (b, n)) (sym len))

-- a batch's text has bytes
pub text_length : (text : List ℕ) (b : Batch) → IsBatchText text b → 61 ≤ length text
text_length text b h =
    rw h.parts (simp (length-append, length-i8_text, length-i32_text, length-i64_text, length-u32_text) (omega (arith, covered_length h.covered b h.covered_text)))

-- ---- no text begins another

pub batch_prefix_free : (a b x y : List ℕ) (r s : Batch) → IsBatchText a r → IsBatchText b s → a ++ x ≡ b ++ y → (a ≡ b) × (r ≡ s) × (x ≡ y)
batch_prefix_free a b x y r s f g e =
    let both : (r, length a) ≡ (s, length b) = ok_is (r, length a) (s, length b) (sym (batch_whole a r x f) ∙ (ap batch_at e ∙ batch_whole b s y g)) in
    let same : length a ≡ length b = ap (λ (p : Batch × ℕ). p.1) both in
    let cut : take (length a) (a ++ x) ≡ take (length b) (b ++ y) = rw (e, same) refl in
    let left : drop (length a) (a ++ x) ≡ drop (length b) (b ++ y) = rw (e, same) refl in (
      sym (take_at a x (length a) refl) ∙ (cut ∙ take_at b y (length b) refl),
      ap (λ (p : Batch × ℕ). p.0) both,
      sym (drop_at a x (length a) refl) ∙ (left ∙ drop_at b y (length b) refl),
    )

-- ---- the bytes at a place

pub text_at : (bytes : List ℕ) (at : ℕ) (x : Batch × ℕ) → IsBytes (drop at bytes) → at ≤ length bytes → batch_at (drop at bytes) ≡ Ok x → HasTextAt bytes at x.0 x.1
text_at bytes at x fits le e =
    let t = batch_sound (drop at bytes) x fits e in
    let front : take x.1 (drop at bytes) ≡ t.text = ap (take x.1) t.parts ∙ take_at t.text t.rest x.1 (sym t.len) in
    (omega (arith, t.len, ap length t.parts, length-append t.text t.rest, length-drop at bytes), subst (λ (xs : List ℕ). IsBatchText xs x.0) (sym front) t.holds)

pub read_at : (bytes : List ℕ) (at : ℕ) (b : Batch) (k : ℕ) → HasTextAt bytes at b k → batch_at (drop at bytes) ≡ Ok (b, k)
read_at bytes at b k h =
    let len : length (take k (drop at bytes)) ≡ k = length-take-le k (drop at bytes) (omega (arith, h.0, length-drop at bytes)) in
    ap batch_at (sym (take-append-drop k (drop at bytes))) ∙ (batch_whole (take k (drop at bytes)) b (drop k (drop at bytes)) h.1 ∙ ap (λ (n : ℕ). Ok (b, n)) len)

pub answers_text : (bytes : List ℕ) (at : ℕ) (r : Result (Batch × ℕ) BatchFault) → IsBytes (drop at bytes) → at ≤ length bytes → Answers r (batch_at (drop at bytes)) → IfOk r (λ x. HasTextAt bytes at x.0 x.1)
answers_text bytes at (Ok x) fits le e = text_at bytes at x fits le e
answers_text bytes at (Err f) fits le e = tt
