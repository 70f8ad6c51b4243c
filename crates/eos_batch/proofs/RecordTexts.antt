-- The laws of headers, records and their texts.
use Rattle.std.proofs.Common.{◌≡◌, ℕ, zero, suc, true, eqb, List, [], ◌∷◌, ◌++◌, length, Option, Ok, refl, sym, ap, subst, ◌∙◌, append_assoc, ℤ, pos}
use Rattle.std.specs.Prelude.{FitsSigned}
use Rattle.std.specs.Int.{w8}
use Rattle.std.specs.Ordering.{int_eq}
use Rattle.std.proofs.lemmas.Bool.{eqb-true}
use Rattle.std.proofs.lemmas.Bool.Decides.{Decides-int_eq}
use Rattle.std.proofs.lemmas.List.{append-nil, nil_from_length}
use Rattle.eos_wire.specs.Numbers.{IsBytes, i8_text, i8_at}
use Rattle.eos_wire.specs.Varint.{IsVarint, IsVarlong}
use Rattle.eos_wire.proofs.NumberTexts.{IsBytes-append_left, IsBytes-append_right, i8_sound, i8_whole}
use Rattle.eos_batch.specs.declared.fault.BatchFault.TheVariants as faults
use Rattle.eos_batch.specs.declared.record.Header.{Header}
use Rattle.eos_batch.specs.declared.record.Record.{Record}
use Rattle.eos_batch.specs.Text.{IsOptionalText, IsHeaderText, AreHeaderTexts, IsBodyText, IsRecordText, AreRecordTexts}
use Rattle.eos_base.specs.Fallible.{or_fault}
use Rattle.eos_batch.specs.Reading.{int_at, long_at, count_at, bytes_at, optional_at, header_at, headers_at, body_at, used_up, placed_at, record_at, records_at}
use Rattle.eos_batch.proofs.TextParts.{bind_ok, done, ok_is, must_ok, or_fault_ok, Taken, IsCount, IsSound, IsWhole, glue, int_sound, int_whole, long_sound, long_whole, count_sound, count_whole, bytes_sound, bytes_whole, optional_sound, optional_whole}

-- ---- headers

pub header_sound : IsSound IsHeaderText header_at
unfolding header_at
header_sound bytes x fits e =
    let k = bind_ok (bytes_at bytes) _ x e in
    let v = bind_ok (optional_at k.0.1) _ x k.2 in
    let tk = bytes_sound bytes k.0 fits k.1 in
    let tv = optional_sound k.0.1 v.0 tk.rest_fits v.1 in
    let made : Header × List ℕ = (record { key = k.0.0; value = v.0.0 }, v.0.1) in
    subst (Taken IsHeaderText bytes) (ok_is made x v.2) (record {
      text = tk.text ++ tv.text;
      parts = glue bytes tk.text k.0.1 tv.text v.0.1 tk.parts tv.parts;
      holds = record { key = tk.text; value = tv.text; key_text = tk.holds; value_text = tv.holds; parts = refl };
      rest_fits = tv.rest_fits;
    })

pub header_whole : IsWhole IsHeaderText header_at
unfolding header_at
header_whole text x rest h =
    let e : text ++ rest ≡ h.key ++ (h.value ++ rest) = ap (λ (xs : List ℕ). xs ++ rest) h.parts ∙ append_assoc h.key h.value rest in
    rw (e, bytes_whole h.key x.key (h.value ++ rest) h.key_text, optional_whole h.value x.value rest h.value_text) refl

nil_is : (text rest : List ℕ) → text ≡ [] → text ++ rest ≡ rest
nil_is text rest e = ap (λ (xs : List ℕ). xs ++ rest) e

pub headers_sound : (n : ℕ) (bytes : List ℕ) (x : List Header × List ℕ) → IsBytes bytes → headers_at n bytes ≡ Ok x → Taken AreHeaderTexts bytes x × (length x.0 ≡ n)
unfolding headers_at
headers_sound zero bytes x fits e =
    subst (λ (y : List Header × List ℕ). Taken AreHeaderTexts bytes y × (length y.0 ≡ 0)) (ok_is ([], bytes) x e) (record { text = []; parts = refl; holds = refl; rest_fits = fits }, refl)
headers_sound (suc n) bytes x fits e =
    let f = bind_ok (header_at bytes) _ x e in
    let o = bind_ok (headers_at n f.0.1) _ x f.2 in
    let tf = header_sound bytes f.0 fits f.1 in
    let to = headers_sound n f.0.1 o.0 tf.rest_fits o.1 in
    let made : List Header × List ℕ = (f.0.0 ∷ o.0.0, o.0.1) in
    subst (λ (y : List Header × List ℕ). Taken AreHeaderTexts bytes y × (length y.0 ≡ suc n)) (ok_is made x o.2) (
      record {
        text = tf.text ++ to.0.text;
        parts = glue bytes tf.text f.0.1 to.0.text o.0.1 tf.parts to.0.parts;
        holds = (tf.text, to.0.text, tf.holds, to.0.holds, refl);
        rest_fits = to.0.rest_fits;
      },
      ap suc to.1,
    )

pub headers_whole : (text : List ℕ) (hs : List Header) (rest : List ℕ) → AreHeaderTexts text hs → headers_at (length hs) (text ++ rest) ≡ Ok (hs, rest)
unfolding headers_at
headers_whole text [] rest h = ap (λ (xs : List ℕ). Ok ([], xs)) (nil_is text rest h)
headers_whole text (x ∷ xs) rest h =
    let e : text ++ rest ≡ h.0 ++ (h.1 ++ rest) = ap (λ (ys : List ℕ). ys ++ rest) h.4 ∙ append_assoc h.0 h.1 rest in
    rw (e, header_whole h.0 x (h.1 ++ rest) h.2, headers_whole h.1 xs rest h.3) refl

-- ---- a record without its length

abbrev IsPlaced : List ℕ → ℤ × Record → Type 0
IsPlaced text x = (place : ℕ) → x.0 ≡ pos place → IsBodyText place text x.1

abbrev made_of : ℤ × List ℕ → ℤ × List ℕ → ℤ × List ℕ → Option (List ℕ) × List ℕ → Option (List ℕ) × List ℕ → List Header × List ℕ → (ℤ × Record) × List ℕ
made_of a t d k v h = ((d.0, record { attributes = a.0; timestamp_delta = t.0; key = k.0; value = v.0; headers = h.0 }), h.1)

-- the fields that were taken one after the other are a record's
body_taken : (bytes : List ℕ) (a t d : ℤ × List ℕ) (k v : Option (List ℕ) × List ℕ) (n : ℕ × List ℕ) (h : List Header × List ℕ) (x : (ℤ × Record) × List ℕ)
    → FitsSigned w8 a.0 → bytes ≡ i8_text a.0 ++ a.1 → Taken IsVarlong a.1 t → Taken IsVarint t.1 d → Taken IsOptionalText d.1 k → Taken IsOptionalText k.1 v → Taken IsCount v.1 n
    → Taken AreHeaderTexts n.1 h → length h.0 ≡ n.0 → done (made_of a t d k v h) ≡ done x → Taken IsPlaced bytes x
body_taken bytes a t d k v n h x small first tt' td tk tv tn th count is =
    let p5 = glue v.1 tn.text n.1 th.text h.1 tn.parts th.parts in
    let p4 = glue k.1 tv.text v.1 (tn.text ++ th.text) h.1 tv.parts p5 in
    let p3 = glue d.1 tk.text k.1 (tv.text ++ (tn.text ++ th.text)) h.1 tk.parts p4 in
    let p2 = glue t.1 td.text d.1 (tk.text ++ (tv.text ++ (tn.text ++ th.text))) h.1 td.parts p3 in
    let p1 = glue a.1 tt'.text t.1 (td.text ++ (tk.text ++ (tv.text ++ (tn.text ++ th.text)))) h.1 tt'.parts p2 in
    subst (Taken IsPlaced bytes) (ok_is (made_of a t d k v h) x is) (record {
      text = i8_text a.0 ++ (tt'.text ++ (td.text ++ (tk.text ++ (tv.text ++ (tn.text ++ th.text)))));
      parts = glue bytes (i8_text a.0) a.1 (tt'.text ++ (td.text ++ (tk.text ++ (tv.text ++ (tn.text ++ th.text))))) h.1 first p1;
      holds = λ place at. record {
        timestamp = tt'.text;
        delta = td.text;
        key = tk.text;
        value = tv.text;
        count = tn.text;
        headers = th.text;
        attributes_fit = small;
        timestamp_text = tt'.holds;
        delta_text = subst (IsVarint td.text) at td.holds;
        key_text = tk.holds;
        value_text = tv.holds;
        count_text = subst (λ (m : ℕ). IsVarint tn.text (pos m)) (sym count) tn.holds;
        headers_text = th.holds;
        parts = refl;
      };
      rest_fits = th.rest_fits;
    })

body_sound : IsSound IsPlaced body_at
unfolding body_at
body_sound bytes x fits e =
    let a = bind_ok (or_fault faults.Record (i8_at bytes)) _ x e in
    let t = bind_ok (long_at a.0.1) _ x a.2 in
    let d = bind_ok (int_at t.0.1) _ x t.2 in
    let k = bind_ok (optional_at d.0.1) _ x d.2 in
    let v = bind_ok (optional_at k.0.1) _ x k.2 in
    let n = bind_ok (count_at v.0.1) _ x v.2 in
    let h = bind_ok (headers_at n.0.0 n.0.1) _ x n.2 in
    let ta = i8_sound bytes a.0 fits (or_fault_ok faults.Record (i8_at bytes) a.0 a.1) in
    let tt' = long_sound a.0.1 t.0 ta.rest_fits t.1 in
    let td = int_sound t.0.1 d.0 tt'.rest_fits d.1 in
    let tk = optional_sound d.0.1 k.0 td.rest_fits k.1 in
    let tv = optional_sound k.0.1 v.0 tk.rest_fits v.1 in
    let tn = count_sound v.0.1 n.0 tv.rest_fits n.1 in
    let th = headers_sound n.0.0 n.0.1 h.0 tn.rest_fits h.1 in
    body_taken bytes a.0 t.0 d.0 k.0 v.0 n.0 h.0 x ta.small ta.parts tt' td tk tv tn th.0 th.1 h.2

body_whole : (place : ℕ) (text : List ℕ) (r : Record) (rest : List ℕ) → IsBodyText place text r → body_at (text ++ rest) ≡ Ok ((pos place, r), rest)
unfolding body_at
body_whole place text r rest h =
    let e : text ++ rest ≡ i8_text r.attributes ++ (h.timestamp ++ (h.delta ++ (h.key ++ (h.value ++ (h.count ++ (h.headers ++ rest)))))) = rw h.parts (simp append_assoc) in
    rw (
      e,
      i8_whole r.attributes (h.timestamp ++ (h.delta ++ (h.key ++ (h.value ++ (h.count ++ (h.headers ++ rest)))))) h.attributes_fit,
      long_whole h.timestamp r.timestamp_delta (h.delta ++ (h.key ++ (h.value ++ (h.count ++ (h.headers ++ rest))))) h.timestamp_text,
      int_whole h.delta (pos place) (h.key ++ (h.value ++ (h.count ++ (h.headers ++ rest)))) h.delta_text,
      optional_whole h.key r.key (h.value ++ (h.count ++ (h.headers ++ rest))) h.key_text,
      optional_whole h.value r.value (h.count ++ (h.headers ++ rest)) h.value_text,
      count_whole h.count (length r.headers) (h.headers ++ rest) h.count_text,
      headers_whole h.headers r.headers rest h.headers_text,
    )
    refl

-- ---- records

placed_sound : (place : ℕ) (bytes : List ℕ) (r : Record) → IsBytes bytes → placed_at place bytes ≡ Ok r → IsBodyText place bytes r
unfolding placed_at
placed_sound place bytes r fits e =
    let b = bind_ok (body_at bytes) _ r e in
    let w = bind_ok (used_up faults.Record b.0) _ r b.2 in
    let bs = body_sound bytes b.0 fits b.1 in
    let g = must_ok (eqb (length b.0.1) 0) faults.Record b.0.0 w.0 w.1 in
    let none : b.0.1 ≡ [] = nil_from_length b.0.1 (eqb-true (length b.0.1) 0 g.0) in
    let body_is : bytes ≡ bs.text = bs.parts ∙ (ap (λ (xs : List ℕ). bs.text ++ xs) none ∙ append-nil bs.text) in
    let q = must_ok (int_eq w.0.0 (pos place)) faults.Delta w.0.1 r w.2 in
    let at : b.0.0.0 ≡ pos place = ap (λ (y : ℤ × Record). y.0) g.1 ∙ (Decides-int_eq w.0.0 (pos place)).0 q.0 in
    let is : b.0.0.1 ≡ r = ap (λ (y : ℤ × Record). y.1) g.1 ∙ q.1 in
    subst (λ (xs : List ℕ). IsBodyText place xs r) (sym body_is) (subst (IsBodyText place bs.text) is (bs.holds place at))

pub record_sound : (place : ℕ) → IsSound (IsRecordText place) (record_at place)
unfolding record_at
record_sound place bytes x fits e =
    let t = bind_ok (bytes_at bytes) _ x e in
    let r = bind_ok (placed_at place t.0.0) _ x t.2 in
    let ts = bytes_sound bytes t.0 fits t.1 in
    let front : IsBytes (ts.holds.0 ++ t.0.0) = IsBytes-append_left (ts.holds.0 ++ t.0.0) t.0.1 (subst (λ (xs : List ℕ). IsBytes (xs ++ t.0.1)) ts.holds.2 (subst IsBytes ts.parts fits)) in
    let holds = placed_sound place t.0.0 r.0 (IsBytes-append_right ts.holds.0 t.0.0 front) r.1 in
    let made : Record × List ℕ = (r.0, t.0.1) in
    subst (Taken (IsRecordText place) bytes) (ok_is made x r.2) (record {
      text = ts.text;
      parts = ts.parts;
      holds = record { len = ts.holds.0; body = t.0.0; len_text = ts.holds.1; body_text = holds; parts = ts.holds.2 };
      rest_fits = ts.rest_fits;
    })

pub record_whole : (place : ℕ) → IsWhole (IsRecordText place) (record_at place)
unfolding record_at placed_at
record_whole place text r rest h =
    let b : body_at h.body ≡ Ok ((pos place, r), []) = ap body_at (sym (append-nil h.body)) ∙ body_whole place h.body r [] h.body_text in
    let q : int_eq (pos place) (pos place) ≡ true = (Decides-int_eq (pos place) (pos place)).1 refl in
    rw (bytes_whole text h.body rest (h.len, h.len_text, h.parts), b, q) refl

pub records_sound : (n place : ℕ) (bytes : List ℕ) (x : List Record × List ℕ) → IsBytes bytes → records_at n place bytes ≡ Ok x → Taken (AreRecordTexts place) bytes x × (length x.0 ≡ n)
unfolding records_at
records_sound zero place bytes x fits e =
    subst (λ (y : List Record × List ℕ). Taken (AreRecordTexts place) bytes y × (length y.0 ≡ 0)) (ok_is ([], bytes) x e) (record { text = []; parts = refl; holds = refl; rest_fits = fits }, refl)
records_sound (suc n) place bytes x fits e =
    let f = bind_ok (record_at place bytes) _ x e in
    let o = bind_ok (records_at n (suc place) f.0.1) _ x f.2 in
    let tf = record_sound place bytes f.0 fits f.1 in
    let to = records_sound n (suc place) f.0.1 o.0 tf.rest_fits o.1 in
    let made : List Record × List ℕ = (f.0.0 ∷ o.0.0, o.0.1) in
    subst (λ (y : List Record × List ℕ). Taken (AreRecordTexts place) bytes y × (length y.0 ≡ suc n)) (ok_is made x o.2) (
      record {
        text = tf.text ++ to.0.text;
        parts = glue bytes tf.text f.0.1 to.0.text o.0.1 tf.parts to.0.parts;
        holds = (tf.text, to.0.text, tf.holds, to.0.holds, refl);
        rest_fits = to.0.rest_fits;
      },
      ap suc to.1,
    )

pub records_whole : (place : ℕ) (text : List ℕ) (rs : List Record) (rest : List ℕ) → AreRecordTexts place text rs → records_at (length rs) place (text ++ rest) ≡ Ok (rs, rest)
unfolding records_at
records_whole place text [] rest h = ap (λ (xs : List ℕ). Ok ([], xs)) (nil_is text rest h)
records_whole place text (x ∷ xs) rest h =
    let e : text ++ rest ≡ h.0 ++ (h.1 ++ rest) = ap (λ (ys : List ℕ). ys ++ rest) h.4 ∙ append_assoc h.0 h.1 rest in
    rw (e, record_whole place h.0 x (h.1 ++ rest) h.2, records_whole (suc place) h.1 xs rest h.3) refl
