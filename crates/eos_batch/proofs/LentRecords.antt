-- Records that are read where they stand: what reads once reads again.
use Rattle.std.proofs.Common.{◌≡◌, ◌≢◌, ℕ, ℤ, pos, suc, ◌-◌, Bool, true, false, List, [], ◌∷◌, length, drop, eqb, Result, Ok, Err, refl, sym, ap, subst, ◌∙◌, arith}
use Rattle.std.specs.Ordering.{int_eq}
use Rattle.std.proofs.lemmas.Bool.Decides.{Decides-int_eq}
use Rattle.eos_wire.specs.Numbers.{i8_at}
use Rattle.eos_batch.specs.declared.fault.BatchFault.{BatchFault}
use Rattle.eos_batch.specs.declared.fault.BatchFault.TheVariants as faults
use Rattle.eos_batch.specs.declared.record.Header.{Header}
use Rattle.eos_batch.specs.declared.record.Record.{Record}
use Rattle.eos_batch.specs.declared.view.Parts.{Parts}
use Rattle.eos_batch.specs.Real.{IsReal}
use Rattle.eos_base.specs.Fallible.{◌>>=◌, or_fault, must}
use Rattle.eos_batch.specs.Answers.{Fails}
use Rattle.eos_batch.specs.Reading.{used_up, int_at, long_at, optional_at, count_at, bytes_at, header_at, headers_at, body_at, placed_at, record_at}
use Rattle.eos_batch.specs.Places.{whole_at, found_at, read_headers}
use Rattle.eos_batch.specs.steps.Places.{parts_at, made_of, whole_from, placed_from}
use Rattle.eos_batch.proofs.TextParts.{bind_ok, ok_is, must_ok}
use Rattle.eos_batch.proofs.ReadLoops.{fails_through, real_fault}

header_first : (n : ℕ) (rest : List ℕ) (x : List Header × List ℕ) → headers_at (suc n) rest ≡ Ok x
    → (h : Header × List ℕ) × (o : List Header × List ℕ) × (header_at rest ≡ Ok h) × (headers_at n h.1 ≡ Ok o) × (x ≡ (h.0 ∷ o.0, o.1))
unfolding headers_at
header_first n rest x e =
    let f = bind_ok (header_at rest) _ x e in
    let o = bind_ok (headers_at n f.0.1) _ x f.2 in
    (f.0, o.0, f.1, o.1, sym (ok_is (f.0.0 ∷ o.0.0, o.0.1) x o.2))

pub next_header : (count : ℕ) (rest : List ℕ) (h : Header) (after : List ℕ) (x : List Header × List ℕ) → (count ≡ 0 → ⊥) → headers_at count rest ≡ Ok x → header_at rest ≡ Ok (h, after)
    → ((y : List Header × List ℕ) × (headers_at (count - 1) after ≡ Ok y)) × (read_headers (headers_at count rest) ≡ h ∷ read_headers (headers_at (count - 1) after))
next_header count rest h after x some e q =
    let k : count ≡ suc (count - 1) = omega arith in
    let f = header_first (count - 1) rest x (subst (λ (n : ℕ). headers_at n rest ≡ Ok x) k e) in
    let same : f.0 ≡ (h, after) = ok_is f.0 (h, after) (sym f.2 ∙ q) in
    let o : headers_at (count - 1) after ≡ Ok f.1 = subst (λ (p : Header × List ℕ). headers_at (count - 1) p.1 ≡ Ok f.1) same f.3 in
    let all : x.0 ≡ h ∷ f.1.0 = ap (λ (z : List Header × List ℕ). z.0) f.4 ∙ ap (λ (p : Header × List ℕ). p.0 ∷ f.1.0) same in
    ((f.1, o), rw (e, o) all)

not_both : {A : Type 0} (r : Result A BatchFault) (x : A) (e : BatchFault) → r ≡ Ok x → r ≡ Err e → ⊥
not_both {A = A} r x e p q = let both : Path (Result A BatchFault) (Ok x) (Err e) = sym p ∙ q in cc

pub header_stands : (count : ℕ) (rest : List ℕ) (x : List Header × List ℕ) (e : BatchFault) → (count ≡ 0 → ⊥) → headers_at count rest ≡ Ok x → IsReal e → Fails e (header_at rest) → ⊥
header_stands count rest x e some r real fails =
    let k : count ≡ suc (count - 1) = omega arith in
    let f = header_first (count - 1) rest x (subst (λ (n : ℕ). headers_at n rest ≡ Ok x) k r) in
    not_both (header_at rest) f.0 e f.2 (real_fault e (header_at rest) real fails)

pub no_headers : (count : ℕ) (rest : List ℕ) → count ≡ 0 → read_headers (headers_at count rest) ≡ []
unfolding headers_at
no_headers count rest z = rw z refl

-- ---- a record

-- what a step gives goes through the ones after it
pub through : {A B C : Type 0} (r : Result A BatchFault) (f : A → Result B BatchFault) (g : A → Result C BatchFault) (k : B → Result C BatchFault) → ((x : A) → g x ≡ (f x >>= k)) → (r >>= g) ≡ ((r >>= f) >>= k)
through (Ok x) f g k h = h x
through (Err e) f g k h = refl

abbrev body_of : Parts → List Header × List ℕ → Result ((ℤ × Record) × List ℕ) BatchFault
body_of p h = Ok ((p.delta, made_of p h.0), h.1)

abbrev body_from : Parts → Result ((ℤ × Record) × List ℕ) BatchFault
body_from p = headers_at p.count p.rest >>= body_of p

body_parts : (text : List ℕ) → body_at text ≡ (parts_at text >>= body_from)
unfolding body_at parts_at
body_parts text =
    through (or_fault faults.Record (i8_at text)) _ _ body_from (λ a. through (long_at a.1) _ _ body_from (λ t. through (int_at t.1) _ _ body_from
    (λ d. through (optional_at d.1) _ _ body_from (λ k. through (optional_at k.1) _ _ body_from (λ v. through (count_at v.1) _ _ body_from (λ n. refl))))))

abbrev whole_of : Parts → List Header × List ℕ → Result Record BatchFault
whole_of p h = used_up faults.Record (made_of p h.0, h.1)

-- what is still asked of a body, where its place doesn't matter, and where it does
abbrev at_any : (ℤ × Record) × List ℕ → Result Record BatchFault
at_any b = used_up faults.Record b >>= λ w. Ok w.1

abbrev at_place : ℕ → (ℤ × Record) × List ℕ → Result Record BatchFault
at_place place b = used_up faults.Record b >>= λ w. must (int_eq w.0 (pos place)) faults.Delta w.1

pub whole_parts : (text : List ℕ) → whole_at text ≡ (parts_at text >>= whole_from)
unfolding whole_at
whole_parts text = rw (body_parts text) (parts (parts_at text))
  where
    tested : (b : Bool) (w : ℤ × Record) → (must b faults.Record w >>= λ v. Ok v.1) ≡ must b faults.Record w.1
    tested true w = refl
    tested false w = refl

    headers : (p : Parts) (hs : Result (List Header × List ℕ) BatchFault) → ((hs >>= body_of p) >>= at_any) ≡ (hs >>= whole_of p)
    headers p (Ok h) = tested (eqb (length h.1) 0) (p.delta, made_of p h.0)
    headers p (Err e) = refl

    parts : (r : Result Parts BatchFault) → ((r >>= body_from) >>= at_any) ≡ (r >>= whole_from)
    parts (Ok p) = headers p (headers_at p.count p.rest)
    parts (Err e) = refl

pub placed_parts : (place : ℕ) (text : List ℕ) → placed_at place text ≡ (parts_at text >>= placed_from place)
unfolding placed_at
placed_parts place text = rw (body_parts text) (parts (parts_at text))
  where
    tested : (b : Bool) (w : ℤ × Record) → (must b faults.Record w >>= λ v. must (int_eq v.0 (pos place)) faults.Delta v.1) ≡ (must b faults.Record w.1 >>= λ r. must (int_eq w.0 (pos place)) faults.Delta r)
    tested true w = refl
    tested false w = refl

    headers : (p : Parts) (hs : Result (List Header × List ℕ) BatchFault)
        → ((hs >>= body_of p) >>= at_place place) ≡ ((hs >>= whole_of p) >>= λ r. must (int_eq p.delta (pos place)) faults.Delta r)
    headers p (Ok h) = tested (eqb (length h.1) 0) (p.delta, made_of p h.0)
    headers p (Err e) = refl

    parts : (r : Result Parts BatchFault) → ((r >>= body_from) >>= at_place place) ≡ (r >>= placed_from place)
    parts (Ok p) = headers p (headers_at p.count p.rest)
    parts (Err e) = refl

-- a record at this place, whose text was read
pub parts_fail : (place : ℕ) (bytes text rest : List ℕ) (e : BatchFault) → bytes_at bytes ≡ Ok (text, rest) → Fails e (parts_at text) → Fails e (record_at place bytes)
unfolding record_at
parts_fail place bytes text rest e read h = fails_through e (parts_at text) (record_at place bytes) (λ f q. rw (read, placed_parts place text, q) refl) h

pub placed_fail : (place : ℕ) (bytes text rest : List ℕ) (p : Parts) (e : BatchFault) → bytes_at bytes ≡ Ok (text, rest) → parts_at text ≡ Ok p → Fails e (placed_from place p) → Fails e (record_at place bytes)
unfolding record_at
placed_fail place bytes text rest p e read parts h = fails_through e (placed_from place p) (record_at place bytes) (λ f q. rw (read, placed_parts place text, parts, q) refl) h

pub whole_fail : (place : ℕ) (bytes text rest : List ℕ) (p : Parts) (e : BatchFault) → bytes_at bytes ≡ Ok (text, rest) → parts_at text ≡ Ok p → Fails e (whole_from p) → Fails e (record_at place bytes)
whole_fail place bytes text rest p e read parts h = placed_fail place bytes text rest p e read parts (fails_through e (whole_from p) (placed_from place p) (λ f q. rw q refl) h)

pub placed_is : (place : ℕ) (text : List ℕ) (p : Parts) (r : Record) → parts_at text ≡ Ok p → placed_from place p ≡ Ok r → placed_at place text ≡ Ok r
placed_is place text p r parts e = rw (placed_parts place text, parts) e

abbrev and_rest : List ℕ → Record → Result (Record × List ℕ) BatchFault
and_rest rest r = Ok (r, rest)

pub delta_fails : (place : ℕ) (bytes text rest : List ℕ) (p : Parts) (r : Record) → bytes_at bytes ≡ Ok (text, rest) → parts_at text ≡ Ok p → whole_from p ≡ Ok r → p.delta ≢ pos place → record_at place bytes ≡ Err faults.Delta
unfolding record_at
delta_fails place bytes text rest p r read parts e is = rw (read, placed_parts place text, parts, e) (off (int_eq p.delta (pos place)) refl)
  where
    off : (b : Bool) → int_eq p.delta (pos place) ≡ b → (must b faults.Delta r >>= and_rest rest) ≡ Err faults.Delta
    off true q = absurd (is ((Decides-int_eq p.delta (pos place)).0 q))
    off false q = refl

pub record_is : (place : ℕ) (bytes text rest : List ℕ) (p : Parts) (r : Record) → bytes_at bytes ≡ Ok (text, rest) → parts_at text ≡ Ok p → whole_from p ≡ Ok r → p.delta ≡ pos place → record_at place bytes ≡ Ok (r, rest)
unfolding record_at
record_is place bytes text rest p r read parts e is = rw (read, placed_parts place text, parts, e, (Decides-int_eq p.delta (pos place)).1 is) refl

abbrev HasParts : List ℕ → Record → Type 0
HasParts text r = (p : Parts) × (hs : List Header × List ℕ) × (parts_at text ≡ Ok p) × (headers_at p.count p.rest ≡ Ok hs) × (r ≡ made_of p hs.0)

has_parts : (text : List ℕ) (r : Record) → whole_at text ≡ Ok r → HasParts text r
has_parts text r e =
    let p = bind_ok (parts_at text) whole_from r (sym (whole_parts text) ∙ e) in
    let h = bind_ok (headers_at p.0.count p.0.rest) _ r p.2 in
    let g = must_ok (eqb (length h.0.1) 0) faults.Record (made_of p.0 h.0.0) r h.2 in
    (p.0, h.0, p.1, h.1, sym g.1)

pub view_is : (text : List ℕ) (r : Record) (p : Parts) → whole_at text ≡ Ok r → parts_at text ≡ Ok p
    → ((x : List Header × List ℕ) × (headers_at p.count p.rest ≡ Ok x)) × (whole_at text ≡ Ok (made_of p (read_headers (headers_at p.count p.rest))))
view_is text r p e q =
    let w = has_parts text r e in
    let same : w.0 ≡ p = ok_is w.0 p (sym w.2 ∙ q) in
    let reads : headers_at p.count p.rest ≡ Ok w.1 = subst (λ (z : Parts). headers_at z.count z.rest ≡ Ok w.1) same w.3 in
    let made : r ≡ made_of p w.1.0 = subst (λ (z : Parts). r ≡ made_of z w.1.0) same w.4 in
    ((w.1, reads), rw reads (e ∙ ap Ok made))

pub parts_stand : (text : List ℕ) (r : Record) (e : BatchFault) → whole_at text ≡ Ok r → IsReal e → Fails e (parts_at text) → ⊥
parts_stand text r e h real fails =
    let w = has_parts text r h in
    not_both (parts_at text) w.0 e w.2 (real_fault e (parts_at text) real fails)

-- ---- a record where it stands

pub found_text : (at : ℕ) (bytes : List ℕ) (r : Record) (text rest : List ℕ) → found_at at bytes ≡ Ok r → bytes_at (drop at bytes) ≡ Ok (text, rest) → whole_at text ≡ Ok r
unfolding found_at
found_text at bytes r text rest e q =
    let t = bind_ok (bytes_at (drop at bytes)) _ r e in
    let same : t.0 ≡ (text, rest) = ok_is t.0 (text, rest) (sym t.1 ∙ q) in
    subst (λ (p : List ℕ × List ℕ). whole_at p.0 ≡ Ok r) same t.2

pub text_found : (at : ℕ) (bytes : List ℕ) (r : Record) (text rest : List ℕ) → bytes_at (drop at bytes) ≡ Ok (text, rest) → whole_at text ≡ Ok r → found_at at bytes ≡ Ok r
unfolding found_at
text_found at bytes r text rest q e = rw q e

pub text_stands : (at : ℕ) (bytes : List ℕ) (r : Record) (e : BatchFault) → found_at at bytes ≡ Ok r → IsReal e → Fails e (bytes_at (drop at bytes)) → ⊥
unfolding found_at
text_stands at bytes r e h real fails =
    let t = bind_ok (bytes_at (drop at bytes)) _ r h in
    not_both (bytes_at (drop at bytes)) t.0 e t.1 (real_fault e (bytes_at (drop at bytes)) real fails)
