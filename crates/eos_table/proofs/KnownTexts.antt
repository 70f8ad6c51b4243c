-- A value of the transaction log, by the text of its partitions.
use Rattle.std.proofs.Common.{◌≡◌, ℕ, Bool, true, false, List, [], ◌∷◌, ◌++◌, length, take, drop, to_z, of_z, Some, Ok, refl, sym, ap, ◌∙◌, subst, append_assoc, arith, ℤ, ◌+◌, ◌-◌, min, inl, inr}
use Rattle.std.specs.Prelude.{pos, FitsSigned, All}
use Rattle.std.specs.Int.{w16, w32, w64}
use Rattle.std.proofs.lemmas.List.{length-append, append-nil, nil_from_length, take_at, drop_at}
use Rattle.std.proofs.lemmas.Int.{to_z-of_z}
use Rattle.std.proofs.lemmas.List.Elements.{All-nil, All-cons}
use Rattle.eos_base.specs.declared.record_fault.RecordFault.{RecordFault}
use Rattle.eos_base.specs.declared.record_fault.RecordFault.TheVariants as faults
use Rattle.eos_base.specs.Fallible.{must}
use Rattle.eos_base.specs.Records.{present}
use Rattle.eos_wire.specs.Numbers.{IsBytes, bytes_at, i8_text, i16_text, i32_text, i64_text, i8_at, i16_at, i32_at, i64_at}
use Rattle.eos_wire.specs.Texts.{AreTexts, IsSectionText}
use Rattle.eos_wire.specs.FieldWriting.{section_text}
use Rattle.eos_wire.specs.declared.form.Form.{Form}
use Rattle.eos_wire.specs.declared.form.Form.TheVariants.{Plain, Flexible}
use Rattle.eos_wire.proofs.NumberTexts.{i8_sound, i16_sound, i32_sound, i64_sound, IsBytes-append_right, length-i8_text, length-i16_text, length-i32_text, length-i64_text}
use Rattle.eos_wire.proofs.Takes.{cut_sound, ok_is}
use Rattle.eos_txnlog.specs.declared.partitions.TopicPartitions.{TopicPartitions}
use Rattle.eos_txnlog.specs.declared.value.TxnValue.{TxnValue}
use Rattle.eos_txnlog.specs.Status.{status_number}
use Rattle.eos_txnlog.specs.Text.{form_of, IsNumberText, IsTopicText, IsPartitionsText, IsBodyText, IsValueText}
use Rattle.eos_txnlog.specs.steps.Text.{FitNumbers}
use Rattle.eos_txnlog.specs.Reading.{read_value}
use Rattle.eos_txnlog.specs.Writing.{fits_partitions, partitions_text, head_text, tail_text, value_text, write_value}
use Rattle.eos_txnlog.proofs.ValueTexts.{value_whole}
use Rattle.eos_txnlog.proofs.WrittenTexts.{partitions_written}
use Rattle.eos_table.specs.steps.Known.{version_of, with_set, IsAround, IsSetText}

known : (form : Form) → form_of (version_of form) ≡ Some form
known Plain = refl
known Flexible = refl

-- ---- a text that was read before is read again

head_first : (a b c d x : List ℕ) → a ++ (b ++ (c ++ (d ++ x))) ≡ (a ++ (b ++ (c ++ d))) ++ x
head_first a b c d x = simp append_assoc

pub around_value : (form : Form) (bytes text section : List ℕ) (v r : TxnValue) (ps : List TopicPartitions) → IsAround form bytes text section v → IsSetText form text ps → r ≡ with_set v ps → read_value bytes ≡ Ok r
around_value form bytes text section v r ps a s is =
    let end : List ℕ = text ++ (i64_text v.last_update ++ (i64_text v.start ++ section)) in
    let body : IsBodyText form (head_text v ++ end) (with_set v ps) = record {
      partitions = text;
      section = section;
      head_fits = record { producer = a.head.producer; epoch = a.head.epoch; timeout = a.head.timeout };
      tail_fits = record { last_update = a.tail.last_update; start = a.tail.start };
      partitions_text = subst (λ (t : List ℕ). IsPartitionsText form t ps) (sym s.is) (partitions_written form ps s.fits s.numbers);
      section_text = a.tagged;
      parts = sym (head_first (i64_text v.producer) (i16_text v.epoch) (i32_text v.timeout) (i8_text (status_number v.status)) end);
    } in
    let whole : IsValueText bytes (with_set v ps) = record { version = version_of form; form = form; body = head_text v ++ end; known = known form; body_text = body; parts = a.parts } in
    subst (λ (z : TxnValue). read_value bytes ≡ Ok z) (sym is) (value_whole bytes (with_set v ps) whole)

-- ---- where the partitions stand in what is written

head_length : (v : TxnValue) → length (head_text v) ≡ 15
head_length v =
    let status : List ℕ = i8_text (status_number v.status) in
    let timeout : List ℕ = i32_text v.timeout ++ status in
    let epoch : List ℕ = i16_text v.epoch ++ timeout in
    omega (arith, length-append (i64_text v.producer) epoch, length-append (i16_text v.epoch) timeout, length-append (i32_text v.timeout) status, length-i64_text v.producer, length-i16_text v.epoch, length-i32_text v.timeout, length-i8_text (status_number v.status))

tail_length : (form : Form) (v : TxnValue) → length (tail_text form v) ≡ 16 + length (section_text form)
tail_length form v =
    let start : List ℕ = i64_text v.start ++ section_text form in
    omega (arith, length-append (i64_text v.last_update) start, length-append (i64_text v.start) (section_text form), length-i64_text v.last_update, length-i64_text v.start)

must_ok : {X : Type 0} (b : Bool) (f : RecordFault) (x y : X) → must b f x ≡ Ok y → (b ≡ true) × (x ≡ y)
must_ok true f x y e = (refl, ok_is x y e)
must_ok false f x y e = absurd cc

is_written : (form : Form) (w : TxnValue) (bytes : List ℕ) → write_value (version_of form) w ≡ Ok bytes → (fits_partitions form w.partitions ≡ true) × (value_text (version_of form) form w ≡ bytes)
unfolding write_value
is_written Plain w bytes e = must_ok (fits_partitions Plain w.partitions) faults.Length (value_text (pos 0) Plain w) bytes e
is_written Flexible w bytes e = must_ok (fits_partitions Flexible w.partitions) faults.Length (value_text (pos 1) Flexible w) bytes e

numbers_fit : (text : List ℕ) (zs : List ℤ) → AreTexts IsNumberText text zs → All (FitsSigned w32) zs
numbers_fit text [] h = All-nil (FitsSigned w32)
numbers_fit text (z ∷ zs) h = All-cons (FitsSigned w32) z zs h.2.0 (numbers_fit h.1 zs h.3)

topics_fit : (form : Form) (text : List ℕ) (ts : List TopicPartitions) → AreTexts (IsTopicText form) text ts → All FitNumbers ts
topics_fit form text [] h = All-nil FitNumbers
topics_fit form text (t ∷ ts) h = All-cons FitNumbers t ts (numbers_fit h.2.numbers_text.1 t.numbers h.2.numbers_text.3) (topics_fit form h.1 ts h.3)

partitions_fit : (form : Form) (text : List ℕ) (ps : List TopicPartitions) → IsPartitionsText form text ps → All FitNumbers ps
partitions_fit form text ps (inl l) = topics_fit form l.1 ps l.3
partitions_fit form text ps (inr n) = subst (All FitNumbers) (sym n.1) (All-nil FitNumbers)

pub set_cut : (form : Form) (written : List ℕ) (v : TxnValue) (from until : ℕ) → written ≡ value_text (version_of form) form v
    → until ≡ length written - (16 + length (section_text form)) → from ≡ min 17 until → take (until - from) (drop from written) ≡ partitions_text form v.partitions
set_cut form written v from until e ends begins =
    let version : List ℕ = i16_text (version_of form) in
    let front : List ℕ = version ++ head_text v in
    let text : List ℕ = partitions_text form v.partitions in
    let tail : List ℕ = tail_text form v in
    let whole : written ≡ front ++ (text ++ tail) = e ∙ sym (append_assoc version (head_text v) (text ++ tail)) in
    let known : length front ≡ 17 = omega (arith, length-append version (head_text v), length-i16_text (version_of form), head_length v) in
    let long : until ≡ 17 + length text = omega (arith, ap length whole, length-append front (text ++ tail), length-append text tail, known, tail_length form v, ends) in
    let before : length front ≡ from = omega (arith, known, long, begins) in
    let size : length text ≡ until - from = omega (arith, known, long, before) in
    ap (λ (z : List ℕ). take (until - from) z) (ap (λ (z : List ℕ). drop from z) whole ∙ drop_at front (text ++ tail) from before) ∙ take_at text tail (until - from) size

version_held : (form : Form) → to_z w16 (of_z w16 (version_of form)) ≡ version_of form
version_held Plain = to_z-of_z w16 (pos 0) (record { sfits = omega arith })
version_held Flexible = to_z-of_z w16 (pos 1) (record { sfits = omega arith })

pub kept_set : (form : Form) (written text : List ℕ) (w : TxnValue) (version : ℤ) → version ≡ version_of form → write_value (to_z w16 (of_z w16 version)) w ≡ Ok written → IsValueText written w
    → ((v : TxnValue) → written ≡ value_text (version_of form) form v → text ≡ partitions_text form v.partitions) → IsSetText form text w.partitions
kept_set form written text w version known_version e k cut =
    let own = is_written form w written (subst (λ (z : ℤ). write_value z w ≡ Ok written) (ap (λ (z : ℤ). to_z w16 (of_z w16 z)) known_version ∙ version_held form) e) in
    record {
      fits = own.0;
      numbers = partitions_fit k.form k.body_text.partitions w.partitions k.body_text.partitions_text;
      is = cut w (sym own.1);
    }

-- ---- the fields, one after the other

all_taken : (n : ℕ) (bytes rest left : List ℕ) → n ≡ length bytes → bytes_at n bytes ≡ Some (rest, left) → bytes ≡ rest
all_taken n bytes rest left whole e =
    let s = cut_sound n bytes (rest, left) (ap present e) in
    let none : left ≡ [] = nil_from_length left (omega (arith, ap length s.parts, length-append rest left, s.len, whole)) in
    s.parts ∙ (ap (λ (z : List ℕ). rest ++ z) none ∙ append-nil rest)

-- numbers as the program holds them
held : (form : Form) (bytes text section : List ℕ) (v : TxnValue) → IsAround form bytes text section v
    → IsAround form bytes text section (record { producer = to_z w64 (of_z w64 v.producer); epoch = to_z w16 (of_z w16 v.epoch); timeout = to_z w32 (of_z w32 v.timeout); status = v.status; partitions = v.partitions; last_update = to_z w64 (of_z w64 v.last_update); start = to_z w64 (of_z w64 v.start) })
held form bytes text section v a =
    let p = to_z-of_z w64 v.producer a.head.producer in
    let e = to_z-of_z w16 v.epoch a.head.epoch in
    let t = to_z-of_z w32 v.timeout a.head.timeout in
    let l = to_z-of_z w64 v.last_update a.tail.last_update in
    let s = to_z-of_z w64 v.start a.tail.start in
    let same : v ≡ record { producer = to_z w64 (of_z w64 v.producer); epoch = to_z w16 (of_z w16 v.epoch); timeout = to_z w32 (of_z w32 v.timeout); status = v.status; partitions = v.partitions; last_update = to_z w64 (of_z w64 v.last_update); start = to_z w64 (of_z w64 v.start) }
    = λ i. record { producer = sym p i; epoch = sym e i; timeout = sym t i; status = v.status; partitions = v.partitions; last_update = sym l i; start = sym s i } in
    subst (λ (z : TxnValue). IsAround form bytes text section z) same a

module _ (form : Form) (bytes r1 r2 r3 r4 r5 r6 r7 r8 r9 text rest section : List ℕ) (v : TxnValue) (version number : ℤ) (n m : ℕ) where
  pub around_read : IsBytes bytes → i16_at bytes ≡ Some (version, r1) → version_of form ≡ version → i64_at r1 ≡ Some (v.producer, r2) → i16_at r2 ≡ Some (v.epoch, r3) → i32_at r3 ≡ Some (v.timeout, r4)
      → i8_at r4 ≡ Some (number, r5) → status_number v.status ≡ number → bytes_at n r5 ≡ Some (text, r6) → i64_at r6 ≡ Some (v.last_update, r7) → i64_at r7 ≡ Some (v.start, r8)
      → m ≡ length r8 → bytes_at m r8 ≡ Some (rest, r9) → rest ≡ section → IsSectionText form section
      → IsAround form bytes text section (record { producer = to_z w64 (of_z w64 v.producer); epoch = to_z w16 (of_z w16 v.epoch); timeout = to_z w32 (of_z w32 v.timeout); status = v.status; partitions = v.partitions; last_update = to_z w64 (of_z w64 v.last_update); start = to_z w64 (of_z w64 v.start) })
  around_read fits e0 same e1 e2 e3 e4 is e5 e6 e7 whole e8 ends tagged =
      let s0 = i16_sound bytes (version, r1) fits e0 in
      let s1 = i64_sound r1 (v.producer, r2) s0.rest_fits e1 in
      let s2 = i16_sound r2 (v.epoch, r3) s1.rest_fits e2 in
      let s3 = i32_sound r3 (v.timeout, r4) s2.rest_fits e3 in
      let s4 = i8_sound r4 (number, r5) s3.rest_fits e4 in
      let s5 = cut_sound n r5 (text, r6) (ap present e5) in
      let fits6 : IsBytes r6 = IsBytes-append_right text r6 (subst IsBytes s5.parts s4.rest_fits) in
      let s6 = i64_sound r6 (v.last_update, r7) fits6 e6 in
      let s7 = i64_sound r7 (v.start, r8) s6.rest_fits e7 in
      let p7 : r7 ≡ i64_text v.start ++ section = s7.parts ∙ ap (λ (z : List ℕ). i64_text v.start ++ z) (all_taken m r8 rest r9 whole e8 ∙ ends) in
      let p6 : r6 ≡ (i64_text v.last_update ++ (i64_text v.start ++ section)) = s6.parts ∙ ap (λ (z : List ℕ). i64_text v.last_update ++ z) p7 in
      let p5 : r5 ≡ text ++ (i64_text v.last_update ++ (i64_text v.start ++ section)) = s5.parts ∙ ap (λ (z : List ℕ). text ++ z) p6 in
      let p4 : r4 ≡ i8_text (status_number v.status) ++ (text ++ (i64_text v.last_update ++ (i64_text v.start ++ section))) = s4.parts ∙ (ap (λ (z : ℤ). i8_text z ++ r5) (sym is) ∙ ap (λ (z : List ℕ). i8_text (status_number v.status) ++ z) p5) in
      let p3 = s3.parts ∙ ap (λ (z : List ℕ). i32_text v.timeout ++ z) p4 in
      let p2 = s2.parts ∙ ap (λ (z : List ℕ). i16_text v.epoch ++ z) p3 in
      let p1 = s1.parts ∙ ap (λ (z : List ℕ). i64_text v.producer ++ z) p2 in
      let p : r1 ≡ head_text v ++ (text ++ (i64_text v.last_update ++ (i64_text v.start ++ section))) = p1 ∙ head_first (i64_text v.producer) (i16_text v.epoch) (i32_text v.timeout) (i8_text (status_number v.status)) (text ++ (i64_text v.last_update ++ (i64_text v.start ++ section))) in
      held form bytes text section v (record {
        head = record { producer = s1.small; epoch = s2.small; timeout = s3.small };
        tail = record { last_update = s6.small; start = s7.small };
        tagged = tagged;
        parts = s0.parts ∙ (ap (λ (z : ℤ). i16_text z ++ r1) (sym same) ∙ ap (λ (z : List ℕ). i16_text (version_of form) ++ z) p);
      })
