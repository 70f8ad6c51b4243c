-- What is read of a batch before its records, and where these begin.
use Rattle.std.proofs.Common.{◌≡◌, ℕ, ◌+◌, ◌-◌, ◌≤◌, Bool, true, false, List, ◌++◌, length, take, drop, slice_range, Result, Ok, Err, refl, sym, ap, subst, ◌∙◌, append_assoc, arith, ℤ, pos, negsuc, ◌+ℤ◌}
use Rattle.std.proofs.lemmas.List.{take_at, drop_at, drop-drop, length-append, length-drop}
use Rattle.std.specs.Prelude.{nat_abs, int_lt, ◌&&◌}
use Rattle.std.specs.Ordering.{int_eq}
use Rattle.eos_wire.specs.Crc.{crc32c_of}
use Rattle.eos_wire.specs.Numbers.{IsBytes, i8_text, i16_text, i32_text, i64_text, u32_text}
use Rattle.eos_wire.proofs.NumberTexts.{length-i32_text, length-i64_text}
use Rattle.eos_batch.specs.declared.fault.BatchFault.{BatchFault}
use Rattle.eos_batch.specs.declared.fault.BatchFault.TheVariants as faults
use Rattle.eos_batch.specs.declared.decode.Head.{Head}
use Rattle.eos_batch.specs.Attributes.{is_compressed}
use Rattle.eos_base.specs.Fallible.{◌>>=◌}
use Rattle.eos_batch.specs.Reading.{used_up, with_records, frame_at, sealed_at, head_at, count_fits, offsets_fit, records_at, covered_at, batch_at}
use Rattle.eos_batch.specs.Places.{IsOpened}
use Rattle.eos_batch.proofs.BatchTexts.{IsBytes-drop}
use Rattle.eos_batch.proofs.BatchParts.{FrameTaken, SealTaken, HeadTaken, counted, frame_sound, sealed_sound, head_sound}
use Rattle.eos_batch.proofs.RecordPlaces.{Left, left}

record Framed (bytes : List ℕ) (at : ℕ) (body : List ℕ) : Type 0 where
  pub is : slice_range bytes (at + 12) (at + (12 + length body)) ≡ body
  pub inside : at + (12 + length body) ≤ length bytes

framed : (bytes : List ℕ) (at : ℕ) (frame : ℤ × List ℕ) → at ≤ length bytes → FrameTaken (drop at bytes) frame → Framed bytes at frame.1
framed bytes at frame le t =
    let front : List ℕ = i64_text frame.0 ++ i32_text (pos (length frame.1)) in
    let twelve : length front ≡ 12 = simp (length-append, length-i64_text, length-i32_text) refl in
    let parts : drop at bytes ≡ front ++ (frame.1 ++ t.rest) = t.parts ∙ sym (append_assoc (i64_text frame.0) (i32_text (pos (length frame.1))) (frame.1 ++ t.rest)) in
    let after : drop (at + 12) bytes ≡ frame.1 ++ t.rest = sym (drop-drop 12 at bytes) ∙ (ap (drop 12) parts ∙ drop_at front (frame.1 ++ t.rest) 12 twelve) in
    let size : at + (12 + length frame.1) - (at + 12) ≡ length frame.1 = omega arith in
    record {
      is = ap (λ (n : ℕ). take n (drop (at + 12) bytes)) size ∙ (ap (take (length frame.1)) after ∙ take_at frame.1 t.rest (length frame.1) refl);
      inside = omega (arith, length-drop at bytes, ap length parts, length-append front (frame.1 ++ t.rest), length-append frame.1 t.rest, twelve);
    }

head_parts : (base leader : ℤ) (covered : List ℕ) (head : Head × List ℕ) → HeadTaken base leader covered head → (front : List ℕ) × (covered ≡ front ++ head.1)
head_parts base leader covered head t = (
  i16_text head.0.batch.attributes ++ (i32_text head.0.last_offset_delta ++ (i64_text head.0.batch.base_timestamp ++ (i64_text head.0.batch.max_timestamp
      ++ (i64_text head.0.batch.producer ++ (i16_text head.0.batch.epoch ++ (i32_text head.0.batch.sequence ++ i32_text head.0.count)))))),
  t.parts ∙ sym (simp append_assoc),
)

seal_parts : (body : List ℕ) (seal : ℤ × List ℕ) → SealTaken body seal → (front : List ℕ) × (body ≡ front ++ seal.1)
seal_parts body seal t =
    (i32_text seal.0 ++ (i8_text (pos 2) ++ u32_text (crc32c_of seal.1)), t.parts ∙ sym (simp append_assoc))

pub record Begun (bytes : List ℕ) (at : ℕ) (body rest : List ℕ) : Type 0 where
  pub inside : at + (12 + length body) ≤ length bytes
  pub left : Left bytes (at + 12) (at + (12 + length body)) rest

pub begun : (bytes : List ℕ) (at : ℕ) (frame seal : ℤ × List ℕ) (head : Head × List ℕ) → IsBytes bytes → at ≤ length bytes
    → frame_at (drop at bytes) ≡ Ok frame → sealed_at frame.1 ≡ Ok seal → head_at frame.0 seal.0 seal.1 ≡ Ok head → Begun bytes at frame.1 head.1
begun bytes at frame seal head fits le f s h =
    let tf = frame_sound (drop at bytes) frame (IsBytes-drop at bytes fits) f in
    let ts = sealed_sound frame.1 seal tf.body_fits s in
    let th = head_sound frame.0 seal.0 seal.1 head ts.covered_fits h in
    let fr = framed bytes at frame le tf in
    let sp = seal_parts frame.1 seal ts in
    let hp = head_parts frame.0 seal.0 seal.1 head th in
    let all : slice_range bytes (at + 12) (at + (12 + length frame.1)) ≡ (sp.0 ++ hp.0) ++ head.1 =
    fr.is ∙ (sp.1 ∙ (ap (λ (xs : List ℕ). sp.0 ++ xs) hp.1 ∙ sym (append_assoc sp.0 hp.0 head.1))) in
    record { inside = fr.inside; left = left bytes (at + 12) (at + (12 + length frame.1)) (sp.0 ++ hp.0) head.1 (omega arith) fr.inside all }

assoc : {A B C : Type 0} (r : Result A BatchFault) (f : A → B) (g : B → Result C BatchFault) → ((r >>= λ x. Ok (f x)) >>= g) ≡ (r >>= λ x. g (f x))
assoc (Ok x) f g = refl
assoc (Err e) f g = refl

pub opened : (bytes : List ℕ) (at : ℕ) (frame seal : ℤ × List ℕ) (head : Head × List ℕ) (n : ℕ) → IsBytes bytes → at ≤ length bytes
    → frame_at (drop at bytes) ≡ Ok frame → sealed_at frame.1 ≡ Ok seal → head_at frame.0 seal.0 seal.1 ≡ Ok head
    → is_compressed head.0.batch.attributes ≡ false → count_fits head.0 ≡ true → offsets_fit head.0 ≡ true → head.0.count ≡ pos n
    → IsOpened bytes at (record { batch = head.0.batch; count = n; begin = at + (12 + length frame.1) - length head.1; end = at + (12 + length frame.1) })
unfolding batch_at covered_at
opened bytes at frame seal head n fits le f s h plain count offsets is =
    let b = begun bytes at frame seal head fits le f s h in
    let some = subst (λ (z : ℤ). (int_lt (pos 0) z && int_eq z (head.0.last_offset_delta +ℤ pos 1)) ≡ true) is count in
    let k = counted head.0.batch.base_offset head.0.last_offset_delta n some offsets in
    let size : at + (12 + length frame.1) - at ≡ 12 + length frame.1 = omega arith in
    record {
      after = omega (arith, b.left.after);
      within = omega (arith, b.left.fits);
      inside = b.inside;
      some = k.some;
      first = k.first;
      last = k.end;
      goes_on = rw (f, s, h, plain, count, offsets, is, size, b.left.is)
          (assoc (records_at n 0 head.1 >>= used_up faults.Trailing) (with_records head.0.batch) _);
    }

pub inside : (bytes : List ℕ) (at : ℕ) (frame : ℤ × List ℕ) → IsBytes bytes → at ≤ length bytes → frame_at (drop at bytes) ≡ Ok frame → at + (12 + length frame.1) ≤ length bytes
inside bytes at frame fits le f = (framed bytes at frame le (frame_sound (drop at bytes) frame (IsBytes-drop at bytes fits) f)).inside

pub offsets_fail : (bytes : List ℕ) (frame seal : ℤ × List ℕ) (head : Head × List ℕ) → frame_at bytes ≡ Ok frame → sealed_at frame.1 ≡ Ok seal → head_at frame.0 seal.0 seal.1 ≡ Ok head
    → is_compressed head.0.batch.attributes ≡ false → count_fits head.0 ≡ true → offsets_fit head.0 ≡ false → batch_at bytes ≡ Err faults.Count
unfolding batch_at covered_at
offsets_fail bytes frame seal head f s h plain count offsets = rw (f, s, h, plain, count, offsets) refl

pos_count : (z : ℤ) (b : Bool) → (int_lt (pos 0) z && b) ≡ true → z ≡ pos (nat_abs z)
pos_count (pos n) b e = refl
pos_count (negsuc n) b e = absurd cc

pub count_is : (head : Head) → count_fits head ≡ true → head.count ≡ pos (nat_abs head.count)
count_is head e = pos_count head.count (int_eq head.count (head.last_offset_delta +ℤ pos 1)) e

pub counts_fail : (bytes : List ℕ) (frame seal : ℤ × List ℕ) (head : Head × List ℕ) → frame_at bytes ≡ Ok frame → sealed_at frame.1 ≡ Ok seal → head_at frame.0 seal.0 seal.1 ≡ Ok head
    → is_compressed head.0.batch.attributes ≡ false → count_fits head.0 ≡ false → batch_at bytes ≡ Err faults.Count
unfolding batch_at covered_at
counts_fail bytes frame seal head f s h plain count = rw (f, s, h, plain, count) refl
