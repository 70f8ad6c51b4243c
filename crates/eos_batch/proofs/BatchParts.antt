-- The parts of a batch that reading takes: the frame, what seals it, its head, and what the checksum covers.
use Rattle.std.proofs.Common.{◌≡◌, ℕ, ◌-◌, ◌^◌, ◌<◌, ◌≤◌, Bool, true, false, ltb, eqb, not, ◌&&◌, List, [], ◌++◌, length, take, drop, Ok, refl, sym, ap, subst, ◌∙◌, arith, rules, ℤ, pos, negsuc, ◌+ℤ◌, ◌≤ℤ◌, FitsSigned}
use Rattle.std.specs.Prelude.{int_lt, int_le}
use Rattle.std.specs.Ordering.{int_eq}
use Rattle.std.specs.Int.{w8, w16, w32, w64}
use Rattle.std.proofs.lemmas.Int.{ints}
use Rattle.std.proofs.lemmas.Bool.{eqb-true, eq-eqb, le-ltb, ltb-false, not-true}
use Rattle.std.proofs.lemmas.Bool.Decides.{Decides-int_eq}
use Rattle.std.proofs.lemmas.List.{append-nil, nil_from_length, take_at, take-append-drop, length-append, length-take-le}
use Rattle.eos_wire.specs.Crc.{crc32c_of}
use Rattle.eos_wire.specs.Numbers.{IsBytes, i8_text, i16_text, i32_text, i64_text, u32_text, i8_at, i16_at, i32_at, i64_at, u32_at}
use Rattle.eos_wire.proofs.NumberTexts.{TakesNumber, IsBytes-append_left, IsBytes-append_right, i8_sound, i16_sound, i32_sound, i64_sound, u32_sound, i8_whole, i16_whole, i32_whole, i64_whole, u32_whole}
use Rattle.eos_batch.specs.declared.fault.BatchFault.TheVariants as faults
use Rattle.eos_batch.specs.declared.record.Record.{Record}
use Rattle.eos_batch.specs.declared.batch.Batch.{Batch}
use Rattle.eos_batch.specs.declared.decode.Head.{Head}
use Rattle.eos_batch.specs.Attributes.{is_compressed}
use Rattle.eos_batch.specs.Rules.{IsCounted, HasWidths}
use Rattle.eos_batch.specs.Text.{AreRecordTexts, IsCoveredText}
use Rattle.eos_base.specs.Fallible.{or_fault}
use Rattle.eos_batch.specs.Reading.{length_from, frame_at, sealed_at, head_at, count_fits, offsets_fit, records_at, all_records_at, with_records, covered_at}
use Rattle.eos_batch.proofs.TextParts.{bind_ok, done, ok_is, must_ok, must_bind, or_fault_ok}
use Rattle.eos_batch.proofs.RecordTexts.{records_sound, records_whole}

and-true : (a b : Bool) → (a && b) ≡ true → (a ≡ true) × (b ≡ true)
and-true true b e = (refl, e)
and-true false b e = absurd cc

-- ---- the frame: base offset, length, and so many bytes

pub record FrameTaken (bytes : List ℕ) (frame : ℤ × List ℕ) : Type 0 where
  pub rest : List ℕ
  pub base_fits : FitsSigned w64 frame.0
  pub length_fits : length frame.1 < 2 ^ 31
  pub parts : bytes ≡ i64_text frame.0 ++ (i32_text (pos (length frame.1)) ++ (frame.1 ++ rest))
  pub body_fits : IsBytes frame.1
  pub rest_fits : IsBytes rest

small_pos : (n : ℕ) → FitsSigned w32 (pos n) → n < 2 ^ 31
small_pos n fits = omega (arith, ints, fits)

pub pos_fits : (n : ℕ) → n < 2 ^ 31 → FitsSigned w32 (pos n)
pos_fits n lt = search rules

length_from_ok : (z : ℤ) (n : ℕ) → length_from z ≡ Ok n → z ≡ pos n
length_from_ok (pos m) n e = ap pos (must_ok (not (ltb m 49)) faults.Length m n e).1
length_from_ok (negsuc m) n e = absurd cc

framed : (bytes : List ℕ) (b l : ℤ × List ℕ) (n : ℕ) → TakesNumber (FitsSigned w64) i64_text bytes b → TakesNumber (FitsSigned w32) i32_text b.1 l → l.0 ≡ pos n → n ≤ length l.1 → FrameTaken bytes (b.0, take n l.1)
framed bytes b l n tb tl is le =
    let len : length (take n l.1) ≡ n = length-take-le n l.1 le in
    let both : IsBytes (take n l.1 ++ drop n l.1) = subst IsBytes (sym (take-append-drop n l.1)) tl.rest_fits in
    let small : n < 2 ^ 31 = small_pos n (subst (FitsSigned w32) is tl.small) in
    let number : i32_text l.0 ≡ i32_text (pos (length (take n l.1))) = ap i32_text (is ∙ ap pos (sym len)) in
    record {
      rest = drop n l.1;
      base_fits = tb.small;
      length_fits = rw len small;
      parts = tb.parts ∙ ap (λ (xs : List ℕ). i64_text b.0 ++ xs) (tl.parts ∙ (ap (λ (t : List ℕ). t ++ l.1) number ∙ ap (λ (ys : List ℕ). i32_text (pos (length (take n l.1))) ++ ys) (sym (take-append-drop n l.1))));
      body_fits = IsBytes-append_left (take n l.1) (drop n l.1) both;
      rest_fits = IsBytes-append_right (take n l.1) (drop n l.1) both;
    }

pub frame_sound : (bytes : List ℕ) (x : ℤ × List ℕ) → IsBytes bytes → frame_at bytes ≡ Ok x → FrameTaken bytes x
unfolding frame_at
frame_sound bytes x fits e =
    let b = bind_ok (or_fault faults.Truncated (i64_at bytes)) _ x e in
    let l = bind_ok (or_fault faults.Truncated (i32_at b.0.1)) _ x b.2 in
    let n = bind_ok (length_from l.0.0) _ x l.2 in
    let g = must_ok (not (ltb (length l.0.1) n.0)) faults.Truncated (b.0.0, take n.0 l.0.1) x n.2 in
    let long : n.0 ≤ length l.0.1 = ltb-false _ _ (not-true _ g.0) in
    let tb = i64_sound bytes b.0 fits (or_fault_ok faults.Truncated (i64_at bytes) b.0 b.1) in
    let tl = i32_sound b.0.1 l.0 tb.rest_fits (or_fault_ok faults.Truncated (i32_at b.0.1) l.0 l.1) in
    subst (FrameTaken bytes) g.1 (framed bytes b.0 l.0 n.0 tb tl (length_from_ok l.0.0 n.0 n.1) long)

pub frame_whole : (base : ℤ) (body rest : List ℕ) → FitsSigned w64 base → 49 ≤ length body → length body < 2 ^ 31 → frame_at (i64_text base ++ (i32_text (pos (length body)) ++ (body ++ rest))) ≡ Ok (base, body)
unfolding frame_at
frame_whole base body rest base_fits long small =
    rw (
      i64_whole base (i32_text (pos (length body)) ++ (body ++ rest)) base_fits,
      i32_whole (pos (length body)) (body ++ rest) (pos_fits (length body) small),
      le-ltb (length body) 49 long,
      le-ltb (length (body ++ rest)) (length body) (omega (arith, length-append body rest)),
      take_at body rest (length body) refl,
    )
    refl

-- ---- the seal: leader epoch, magic and checksum

pub record SealTaken (bytes : List ℕ) (x : ℤ × List ℕ) : Type 0 where
  pub leader_fits : FitsSigned w32 x.0
  pub checksum_fits : crc32c_of x.1 < 2 ^ 32
  pub parts : bytes ≡ i32_text x.0 ++ (i8_text (pos 2) ++ (u32_text (crc32c_of x.1) ++ x.1))
  pub covered_fits : IsBytes x.1

sealed : (bytes : List ℕ) (l m : ℤ × List ℕ) (c : ℕ × List ℕ) → TakesNumber (FitsSigned w32) i32_text bytes l → TakesNumber (FitsSigned w8) i8_text l.1 m → TakesNumber (λ n. n < 2 ^ 32) u32_text m.1 c → m.0 ≡ pos 2 → c.0 ≡ crc32c_of c.1 → SealTaken bytes (l.0, c.1)
sealed bytes l m c tl tm tc magic crc =
    record {
      leader_fits = tl.small;
      checksum_fits = subst (λ (n : ℕ). n < 2 ^ 32) crc tc.small;
      parts = tl.parts ∙ ap (λ (xs : List ℕ). i32_text l.0 ++ xs) (tm.parts ∙ (ap (λ (z : ℤ). i8_text z ++ m.1) magic ∙ ap (λ (ys : List ℕ). i8_text (pos 2) ++ ys) (tc.parts ∙ ap (λ (n : ℕ). u32_text n ++ c.1) crc)));
      covered_fits = tc.rest_fits;
    }

pub sealed_sound : (bytes : List ℕ) (x : ℤ × List ℕ) → IsBytes bytes → sealed_at bytes ≡ Ok x → SealTaken bytes x
unfolding sealed_at
sealed_sound bytes x fits e =
    let l = bind_ok (or_fault faults.Truncated (i32_at bytes)) _ x e in
    let m = bind_ok (or_fault faults.Truncated (i8_at l.0.1)) _ x l.2 in
    let g = must_bind (int_eq m.0.0 (pos 2)) faults.Magic m.0 _ x m.2 in
    let c = bind_ok (or_fault faults.Truncated (u32_at m.0.1)) _ x g.1 in
    let q = must_ok (eqb c.0.0 (crc32c_of c.0.1)) faults.Crc (l.0.0, c.0.1) x c.2 in
    let tl = i32_sound bytes l.0 fits (or_fault_ok faults.Truncated (i32_at bytes) l.0 l.1) in
    let tm = i8_sound l.0.1 m.0 tl.rest_fits (or_fault_ok faults.Truncated (i8_at l.0.1) m.0 m.1) in
    let tc = u32_sound m.0.1 c.0 tm.rest_fits (or_fault_ok faults.Truncated (u32_at m.0.1) c.0 c.1) in
    subst (SealTaken bytes) q.1 (sealed bytes l.0 m.0 c.0 tl tm tc ((Decides-int_eq m.0.0 (pos 2)).0 g.0) (eqb-true _ _ q.0))

pub sealed_whole : (leader : ℤ) (covered : List ℕ) → FitsSigned w32 leader → crc32c_of covered < 2 ^ 32 → sealed_at (i32_text leader ++ (i8_text (pos 2) ++ (u32_text (crc32c_of covered) ++ covered))) ≡ Ok (leader, covered)
unfolding sealed_at
sealed_whole leader covered leader_fits checksum_fits =
    rw (
      i32_whole leader (i8_text (pos 2) ++ (u32_text (crc32c_of covered) ++ covered)) leader_fits,
      i8_whole (pos 2) (u32_text (crc32c_of covered) ++ covered) (search rules),
      u32_whole (crc32c_of covered) covered checksum_fits,
      eq-eqb (crc32c_of covered) (crc32c_of covered) refl,
    )
    refl

-- ---- the head: the other fields before the records

pub record HeadTaken (base leader : ℤ) (bytes : List ℕ) (x : Head × List ℕ) : Type 0 where
  pub base_is : x.0.batch.base_offset ≡ base
  pub leader_is : x.0.batch.leader_epoch ≡ leader
  pub widths : FitsSigned w64 base → FitsSigned w32 leader → HasWidths x.0.batch
  pub last_fits : FitsSigned w32 x.0.last_offset_delta
  pub count_small : FitsSigned w32 x.0.count
  pub parts : bytes
      ≡ i16_text x.0.batch.attributes ++ (i32_text x.0.last_offset_delta ++ (i64_text x.0.batch.base_timestamp ++ (i64_text x.0.batch.max_timestamp
      ++ (i64_text x.0.batch.producer ++ (i16_text x.0.batch.epoch ++ (i32_text x.0.batch.sequence ++ (i32_text x.0.count ++ x.1)))))))
  pub rest_fits : IsBytes x.1

abbrev head_made : ℤ → ℤ → ℤ × List ℕ → ℤ × List ℕ → ℤ × List ℕ → ℤ × List ℕ → ℤ × List ℕ → ℤ × List ℕ → ℤ × List ℕ → ℤ × List ℕ → Head × List ℕ
head_made base leader a l t m p h s c =
    (record { last_offset_delta = l.0; count = c.0; batch = record { base_offset = base; leader_epoch = leader; attributes = a.0; base_timestamp = t.0; max_timestamp = m.0; producer = p.0; epoch = h.0; sequence = s.0; records = [] } }, c.1)

-- the fields that were taken one after the other are a head
head_taken : (base leader : ℤ) (bytes : List ℕ) (a l t m p h s c : ℤ × List ℕ) (x : Head × List ℕ) → TakesNumber (FitsSigned w16) i16_text bytes a → TakesNumber (FitsSigned w32) i32_text a.1 l
    → TakesNumber (FitsSigned w64) i64_text l.1 t → TakesNumber (FitsSigned w64) i64_text t.1 m → TakesNumber (FitsSigned w64) i64_text m.1 p → TakesNumber (FitsSigned w16) i16_text p.1 h
    → TakesNumber (FitsSigned w32) i32_text h.1 s → TakesNumber (FitsSigned w32) i32_text s.1 c → done (head_made base leader a l t m p h s c) ≡ done x → HeadTaken base leader bytes x
head_taken base leader bytes a l t m p h s c x ta tl tt' tm tp th ts tc is =
    subst (HeadTaken base leader bytes) (ok_is (head_made base leader a l t m p h s c) x is) (record {
      base_is = refl;
      leader_is = refl;
      widths = λ b r. record { base_offset = b; leader_epoch = r; attributes = ta.small; base_timestamp = tt'.small; max_timestamp = tm.small; producer = tp.small; epoch = th.small; sequence = ts.small };
      last_fits = tl.small;
      count_small = tc.small;
      parts = ta.parts ∙ ap (λ (xs : List ℕ). i16_text a.0 ++ xs)
          (tl.parts ∙ ap (λ (xs : List ℕ). i32_text l.0 ++ xs)
          (tt'.parts ∙ ap (λ (xs : List ℕ). i64_text t.0 ++ xs)
          (tm.parts ∙ ap (λ (xs : List ℕ). i64_text m.0 ++ xs)
          (tp.parts ∙ ap (λ (xs : List ℕ). i64_text p.0 ++ xs)
          (th.parts ∙ ap (λ (xs : List ℕ). i16_text h.0 ++ xs)
          (ts.parts ∙ ap (λ (xs : List ℕ). i32_text s.0 ++ xs) tc.parts))))));
      rest_fits = tc.rest_fits;
    })

pub head_sound : (base leader : ℤ) (bytes : List ℕ) (x : Head × List ℕ) → IsBytes bytes → head_at base leader bytes ≡ Ok x → HeadTaken base leader bytes x
unfolding head_at
head_sound base leader bytes x fits e =
    let a = bind_ok (or_fault faults.Truncated (i16_at bytes)) _ x e in
    let l = bind_ok (or_fault faults.Truncated (i32_at a.0.1)) _ x a.2 in
    let t = bind_ok (or_fault faults.Truncated (i64_at l.0.1)) _ x l.2 in
    let m = bind_ok (or_fault faults.Truncated (i64_at t.0.1)) _ x t.2 in
    let p = bind_ok (or_fault faults.Truncated (i64_at m.0.1)) _ x m.2 in
    let h = bind_ok (or_fault faults.Truncated (i16_at p.0.1)) _ x p.2 in
    let s = bind_ok (or_fault faults.Truncated (i32_at h.0.1)) _ x h.2 in
    let c = bind_ok (or_fault faults.Truncated (i32_at s.0.1)) _ x s.2 in
    let ta = i16_sound bytes a.0 fits (or_fault_ok faults.Truncated (i16_at bytes) a.0 a.1) in
    let tl = i32_sound a.0.1 l.0 ta.rest_fits (or_fault_ok faults.Truncated (i32_at a.0.1) l.0 l.1) in
    let tt' = i64_sound l.0.1 t.0 tl.rest_fits (or_fault_ok faults.Truncated (i64_at l.0.1) t.0 t.1) in
    let tm = i64_sound t.0.1 m.0 tt'.rest_fits (or_fault_ok faults.Truncated (i64_at t.0.1) m.0 m.1) in
    let tp = i64_sound m.0.1 p.0 tm.rest_fits (or_fault_ok faults.Truncated (i64_at m.0.1) p.0 p.1) in
    let th = i16_sound p.0.1 h.0 tp.rest_fits (or_fault_ok faults.Truncated (i16_at p.0.1) h.0 h.1) in
    let ts = i32_sound h.0.1 s.0 th.rest_fits (or_fault_ok faults.Truncated (i32_at h.0.1) s.0 s.1) in
    let tc = i32_sound s.0.1 c.0 ts.rest_fits (or_fault_ok faults.Truncated (i32_at s.0.1) c.0 c.1) in
    head_taken base leader bytes a.0 l.0 t.0 m.0 p.0 h.0 s.0 c.0 x ta tl tt' tm tp th ts tc c.2

-- the fields of a batch, and so many records to come
abbrev pub head_of : Batch → ℤ → ℤ → Head
head_of b last count = record { last_offset_delta = last; count = count; batch = record b { records = [] } }

pub head_whole : (b : Batch) (last count : ℤ) (rest : List ℕ) → HasWidths b → FitsSigned w32 last → FitsSigned w32 count
    → head_at b.base_offset b.leader_epoch
    (i16_text b.attributes ++ (i32_text last ++ (i64_text b.base_timestamp ++ (i64_text b.max_timestamp
    ++ (i64_text b.producer ++ (i16_text b.epoch ++ (i32_text b.sequence ++ (i32_text count ++ rest))))))))
    ≡ Ok (head_of b last count, rest)
unfolding head_at
head_whole b last count rest w last_fits count_small =
    rw (
      i16_whole b.attributes (i32_text last ++ (i64_text b.base_timestamp ++ (i64_text b.max_timestamp ++ (i64_text b.producer ++ (i16_text b.epoch ++ (i32_text b.sequence ++ (i32_text count ++ rest))))))) w.attributes,
      i32_whole last (i64_text b.base_timestamp ++ (i64_text b.max_timestamp ++ (i64_text b.producer ++ (i16_text b.epoch ++ (i32_text b.sequence ++ (i32_text count ++ rest)))))) last_fits,
      i64_whole b.base_timestamp (i64_text b.max_timestamp ++ (i64_text b.producer ++ (i16_text b.epoch ++ (i32_text b.sequence ++ (i32_text count ++ rest))))) w.base_timestamp,
      i64_whole b.max_timestamp (i64_text b.producer ++ (i16_text b.epoch ++ (i32_text b.sequence ++ (i32_text count ++ rest)))) w.max_timestamp,
      i64_whole b.producer (i16_text b.epoch ++ (i32_text b.sequence ++ (i32_text count ++ rest))) w.producer,
      i16_whole b.epoch (i32_text b.sequence ++ (i32_text count ++ rest)) w.epoch,
      i32_whole b.sequence (i32_text count ++ rest) w.sequence,
      i32_whole count rest count_small,
    )
    refl

-- ---- what the checksum covers

record AllRecords (z : ℤ) (bytes : List ℕ) (rs : List Record) : Type 0 where
  count_is : z ≡ pos (length rs)
  texts : AreRecordTexts 0 bytes rs

all_records_sound : (z : ℤ) (bytes : List ℕ) (rs : List Record) → IsBytes bytes → all_records_at z bytes ≡ Ok rs → AllRecords z bytes rs
all_records_sound (pos n) bytes rs fits e =
    let b = bind_ok (records_at n 0 bytes) _ rs e in
    let q = must_ok (eqb (length b.0.1) 0) faults.Trailing b.0.0 rs b.2 in
    let t = records_sound n 0 bytes b.0 fits b.1 in
    let none : b.0.1 ≡ [] = nil_from_length b.0.1 (eqb-true (length b.0.1) 0 q.0) in
    let whole : t.0.text ≡ bytes = sym (t.0.parts ∙ (ap (λ (xs : List ℕ). t.0.text ++ xs) none ∙ append-nil t.0.text)) in
    record { count_is = ap pos (sym t.1 ∙ ap length q.1); texts = subst (λ (xs : List ℕ). AreRecordTexts 0 xs rs) whole (subst (AreRecordTexts 0 t.0.text) q.1 t.0.holds) }
all_records_sound (negsuc n) bytes rs fits e = absurd cc

all_records_whole : (bytes : List ℕ) (rs : List Record) → AreRecordTexts 0 bytes rs → all_records_at (pos (length rs)) bytes ≡ Ok rs
all_records_whole bytes rs texts =
    let e : records_at (length rs) 0 bytes ≡ Ok (rs, []) = ap (records_at (length rs) 0) (sym (append-nil bytes)) ∙ records_whole 0 bytes rs [] texts in
    rw e refl

pub record Counted (base last : ℤ) (n : ℕ) : Type 0 where
  pub some : 1 ≤ n
  pub last_is : last ≡ pos (n - 1)
  pub first : pos 0 ≤ℤ base
  pub end : (base +ℤ pos n) ≤ℤ pos (2 ^ 63)

pub counted : (base last : ℤ) (n : ℕ) → (int_lt (pos 0) (pos n) && int_eq (pos n) (last +ℤ pos 1)) ≡ true → (int_le (pos 0) base && int_le (base +ℤ last) (pos (2 ^ 63 - 1))) ≡ true → Counted base last n
counted base last n e f =
    let a = and-true (int_lt (pos 0) (pos n)) (int_eq (pos n) (last +ℤ pos 1)) e in
    let b = and-true (int_le (pos 0) base) (int_le (base +ℤ last) (pos (2 ^ 63 - 1))) f in
    let some : int_lt (pos 0) (pos n) ≡ true = a.0 in
    let first : int_le (pos 0) base ≡ true = b.0 in
    let end : int_le (base +ℤ last) (pos (2 ^ 63 - 1)) ≡ true = b.1 in
    let s : 1 ≤ n = grind (arith, ints) in
    let l : pos n ≡ last +ℤ pos 1 = (Decides-int_eq (pos n) (last +ℤ pos 1)).0 a.1 in
    let g : pos 0 ≤ℤ base = grind (arith, ints) in
    let h : (base +ℤ last) ≤ℤ pos (2 ^ 63 - 1) = grind (arith, ints) in
    record { some = s; last_is = omega (arith, ints, l, s); first = g; end = omega (arith, ints, l, h) }

counts_again : (base : ℤ) (n : ℕ) → 1 ≤ n → (int_lt (pos 0) (pos n) && int_eq (pos n) (pos (n - 1) +ℤ pos 1)) ≡ true
counts_again base n some =
    let l : pos n ≡ pos (n - 1) +ℤ pos 1 = omega (arith, ints) in
    let e : int_eq (pos n) (pos (n - 1) +ℤ pos 1) ≡ true = (Decides-int_eq (pos n) (pos (n - 1) +ℤ pos 1)).1 l in
    let p : int_lt (pos 0) (pos n) ≡ true = grind (arith, ints) in
    rw (p, e) refl

fits_again : (base : ℤ) (n : ℕ) → 1 ≤ n → pos 0 ≤ℤ base → (base +ℤ pos n) ≤ℤ pos (2 ^ 63) → (int_le (pos 0) base && int_le (base +ℤ pos (n - 1)) (pos (2 ^ 63 - 1))) ≡ true
fits_again base n some first end =
    let p : int_le (pos 0) base ≡ true = grind (arith, ints) in
    let h : (base +ℤ pos (n - 1)) ≤ℤ pos (2 ^ 63 - 1) = omega (arith, ints) in
    let q : int_le (base +ℤ pos (n - 1)) (pos (2 ^ 63 - 1)) ≡ true = grind (arith, ints) in
    rw (p, q) refl

pub record CoveredTaken (base leader : ℤ) (bytes : List ℕ) (b : Batch) : Type 0 where
  pub base_is : b.base_offset ≡ base
  pub leader_is : b.leader_epoch ≡ leader
  pub widths : FitsSigned w64 base → FitsSigned w32 leader → HasWidths b
  pub plain : is_compressed b.attributes ≡ false
  pub counted : IsCounted b
  pub text : IsCoveredText bytes b

covered : (base leader : ℤ) (bytes : List ℕ) (h : Head × List ℕ) (rs : List Record) → HeadTaken base leader bytes h → is_compressed h.0.batch.attributes ≡ false → AllRecords h.0.count h.1 rs → Counted h.0.batch.base_offset h.0.last_offset_delta (length rs)
    → CoveredTaken base leader bytes (with_records h.0.batch rs)
covered base leader bytes h rs t plain r c =
    record {
      base_is = t.base_is;
      leader_is = t.leader_is;
      widths = λ b l. let w = t.widths b l in record { base_offset = w.base_offset; leader_epoch = w.leader_epoch; attributes = w.attributes; base_timestamp = w.base_timestamp; max_timestamp = w.max_timestamp; producer = w.producer; epoch = w.epoch; sequence = w.sequence };
      plain = plain;
      counted = record { some = c.some; fits = small_pos (length rs) (subst (FitsSigned w32) r.count_is t.count_small); first = c.first; last = c.end };
      text = record { records = h.1; records_text = r.texts; parts = rw (← c.last_is, ← r.count_is) t.parts };
    }

pub covered_sound : (base leader : ℤ) (bytes : List ℕ) (b : Batch) → IsBytes bytes → covered_at base leader bytes ≡ Ok b → CoveredTaken base leader bytes b
unfolding covered_at
covered_sound base leader bytes b fits e =
    let h = bind_ok (head_at base leader bytes) _ b e in
    let p = must_bind (not (is_compressed h.0.0.batch.attributes)) faults.Compressed h.0 _ b h.2 in
    let c = must_bind (count_fits h.0.0) faults.Count h.0 _ b p.1 in
    let o = must_bind (offsets_fit h.0.0) faults.Count h.0 _ b c.1 in
    let r = bind_ok (all_records_at h.0.0.count h.0.1) _ b o.1 in
    let th = head_sound base leader bytes h.0 fits h.1 in
    let tr = all_records_sound h.0.0.count h.0.1 r.0 th.rest_fits r.1 in
    let n = counted h.0.0.batch.base_offset h.0.0.last_offset_delta (length r.0) (subst (λ (z : ℤ). (int_lt (pos 0) z && int_eq z (h.0.0.last_offset_delta +ℤ pos 1)) ≡ true) tr.count_is c.0) o.0 in
    subst (CoveredTaken base leader bytes) (ok_is (with_records h.0.0.batch r.0) b r.2) (covered base leader bytes h.0 r.0 th (not-true _ p.0) tr n)

pub covered_whole : (b : Batch) (bytes : List ℕ) → IsCoveredText bytes b → HasWidths b → is_compressed b.attributes ≡ false → IsCounted b → covered_at b.base_offset b.leader_epoch bytes ≡ Ok b
unfolding covered_at
covered_whole b bytes t w plain c =
    let n = length b.records in
    let fits : FitsSigned w32 (pos (length b.records)) = pos_fits (length b.records) c.fits in
    let last : FitsSigned w32 (pos (length b.records - 1)) = pos_fits (length b.records - 1) (omega (arith, c.fits)) in
    rw (
      t.parts,
      head_whole b (pos (length b.records - 1)) (pos (length b.records)) t.records w last fits,
      plain,
      counts_again b.base_offset (length b.records) c.some,
      fits_again b.base_offset (length b.records) c.some c.first c.last,
      all_records_whole t.records b.records t.records_text,
    )
    refl
