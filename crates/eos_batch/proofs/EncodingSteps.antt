-- The texts of headers and of records from one of them on.
use Rattle.std.proofs.Common.{◌≡◌, ℕ, suc, ◌+◌, ◌^◌, ◌<◌, ◌≤◌, pos, List, [], ◌∷◌, ◌++◌, length, take, drop, get_or, All, true, false, cond, zero, ◌*◌, ◌/◌, ◌%◌, refl, sym, ap, subst, ◌∙◌, append_assoc, add-one, arith}
use Rattle.std.specs.Prelude.{nat_lt}
use Rattle.std.proofs.lemmas.List.Elements.{All-append}
use Rattle.std.proofs.lemmas.List.{length-append, drop_more, drop_all, append-nil, take_more, take_all}
use Rattle.eos_batch.specs.declared.record.Header.{Header}
use Rattle.eos_batch.specs.declared.record.Record.{Record}
use Rattle.eos_wire.specs.Writing.{groups_of, varint_of, varlong_of}
use Rattle.eos_wire.proofs.NumberTexts.{length-i8_text}
use Rattle.eos_batch.specs.Encoding.{bytes_text, optional_text, header_text, headers_text, body_text, record_text, records_text}

pub headers_next : (hs : List Header) (i : ℕ) (h : Header) → i < length hs → h ≡ get_or hs i h → headers_text (drop i hs) ≡ header_text h ++ headers_text (drop (i + 1) hs)
unfolding headers_text
headers_next hs i h lt is =
    let d : drop i hs ≡ h ∷ drop (i + 1) hs = drop_more hs i h lt ∙ ap (λ (x : Header). x ∷ drop (i + 1) hs) (sym is) in
    rw d refl

pub headers_end : (hs : List Header) (i : ℕ) → length hs ≤ i → headers_text (drop i hs) ≡ []
unfolding headers_text
headers_end hs i le = rw (drop_all i hs le) refl

pub records_next : (rs : List Record) (i : ℕ) (r : Record) → i < length rs → r ≡ get_or rs i r → records_text i (drop i rs) ≡ record_text i r ++ records_text (i + 1) (drop (i + 1) rs)
unfolding records_text
records_next rs i r lt is =
    let d : drop i rs ≡ r ∷ drop (i + 1) rs = drop_more rs i r lt ∙ ap (λ (x : Record). x ∷ drop (i + 1) rs) (sym is) in
    rw (d, add-one i) refl

pub records_end : (rs : List Record) (i : ℕ) → length rs ≤ i → records_text i (drop i rs) ≡ []
unfolding records_text
records_end rs i le = rw (drop_all i rs le) refl

-- ---- a part is appended

pub part_fits : (text part rest : List ℕ) → text ≡ part ++ rest → length text ≤ 2 ^ 30 → length part ≤ 2 ^ 30
part_fits text part rest e le = let f : length part + length rest ≤ 2 ^ 30 = rw (e, length-append part rest) at le in omega arith

pub rest_fits : (text part rest : List ℕ) → text ≡ part ++ rest → length text ≤ 2 ^ 30 → length rest ≤ 2 ^ 30
rest_fits text part rest e le = let f : length part + length rest ≤ 2 ^ 30 = rw (e, length-append part rest) at le in omega arith

pub part_written : (out text part rest new total : List ℕ) → text ≡ part ++ rest → new ≡ out ++ part → out ++ text ≡ total → new ++ rest ≡ total
part_written out text part rest new total e w so_far = rw (w, append_assoc) (let f : out ++ (part ++ rest) ≡ total = rw e at so_far in f)

pub all_written : (out text total : List ℕ) → text ≡ [] → out ++ text ≡ total → out ≡ total
all_written out text total e so_far = sym (append-nil out) ∙ (let f : out ++ [] ≡ total = rw e at so_far in f)

-- ---- what holds of the records so far

pub All-take_more : {X : Type 0} (P : X → Type 0) (xs : List X) (i : ℕ) (x : X) → i < length xs → x ≡ get_or xs i x → All P (take i xs) → P x → All P (take (i + 1) xs)
All-take_more {X} P xs i x lt is all here =
    let e : take (i + 1) xs ≡ take i xs ++ x ∷ [] = take_more xs i x lt ∙ ap (λ (y : X). take i xs ++ y ∷ []) (sym is) in
    subst (All P) (sym e) (All-append P (take i xs) (x ∷ []) all one)
  where
    one : All P (x ∷ [])
    one zero d lt = here
    one (suc k) d lt = absurd (omega arith)

pub All-take_whole : {X : Type 0} (P : X → Type 0) (xs : List X) (i : ℕ) → length xs ≤ i → All P (take i xs) → All P xs
All-take_whole {X} P xs i le all = subst (All P) (take_all i xs le) all

-- ---- a record without its length

pub length-body_text : (place : ℕ) (r : Record) → length (body_text place r)
    ≡ 1 + length (varlong_of r.timestamp_delta) + length (varint_of (pos place)) + length (varint_of (pos (length r.headers)))
    + length (optional_text r.key) + length (optional_text r.value) + length (headers_text r.headers)
unfolding body_text
length-body_text place r = simp (length-append, length-i8_text) (omega arith)

pub body_headers_fit : (place : ℕ) (r : Record) → length (body_text place r) ≤ 2 ^ 30 → length (headers_text r.headers) ≤ 2 ^ 30
body_headers_fit place r le = omega (arith, length-body_text place r)

some_bytes : (n : ℕ) → 1 ≤ length (varint_of (pos n))
unfolding varint_of groups_of
some_bytes n = elim (nat_lt (2 * n) 128) as (λ t. 1 ≤ length (cond t (2 * n ∷ []) (((2 * n) % 128 + 128) ∷ groups_of 3 (2 * n / 128)))) [ true ↦ omega arith | false ↦ omega arith ]

pub header_some : (h : Header) → 1 ≤ length (header_text h)
unfolding header_text bytes_text
header_some h = simp length-append (omega (arith, some_bytes (length h.key)))

pub headers_count : (hs : List Header) → length hs ≤ length (headers_text hs)
unfolding headers_text
headers_count [] = omega arith
headers_count (h ∷ hs) = rw (length-append (header_text h) (headers_text hs)) (omega (arith, header_some h, headers_count hs))

-- ---- parts appended one after the other

pub appended_6 : (o o1 o2 o3 o4 o5 o6 a b c d e f : List ℕ) → o ≡ [] → o1 ≡ o ++ a → o2 ≡ o1 ++ b → o3 ≡ o2 ++ c → o4 ≡ o3 ++ d → o5 ≡ o4 ++ e → o6 ≡ o5 ++ f
    → o6 ≡ a ++ (b ++ (c ++ (d ++ (e ++ f))))
appended_6 o o1 o2 o3 o4 o5 o6 a b c d e f e0 e1 e2 e3 e4 e5 e6 = rw (e6, e5, e4, e3, e2, e1, e0) (simp append_assoc)

pub appended_7 : (o o1 o2 o3 o4 o5 o6 o7 a b c d e f g : List ℕ) → o1 ≡ o ++ a → o2 ≡ o1 ++ b → o3 ≡ o2 ++ c → o4 ≡ o3 ++ d → o5 ≡ o4 ++ e → o6 ≡ o5 ++ f → o7 ≡ o6 ++ g
    → o7 ≡ o ++ (a ++ (b ++ (c ++ (d ++ (e ++ (f ++ g))))))
appended_7 o o1 o2 o3 o4 o5 o6 o7 a b c d e f g e1 e2 e3 e4 e5 e6 e7 = rw (e7, e6, e5, e4, e3, e2, e1) (simp append_assoc)

pub appended_9 : (o o1 o2 o3 o4 o5 o6 o7 o8 o9 a b c d e f g h i : List ℕ) → o1 ≡ o ++ a → o2 ≡ o1 ++ b → o3 ≡ o2 ++ c → o4 ≡ o3 ++ d → o5 ≡ o4 ++ e → o6 ≡ o5 ++ f → o7 ≡ o6 ++ g
    → o8 ≡ o7 ++ h → o9 ≡ o8 ++ i → o9 ≡ o ++ (a ++ (b ++ (c ++ (d ++ (e ++ (f ++ (g ++ (h ++ i))))))))
appended_9 o o1 o2 o3 o4 o5 o6 o7 o8 o9 a b c d e f g h i e1 e2 e3 e4 e5 e6 e7 e8 e9 = rw (e9, e8, e7, e6, e5, e4, e3, e2, e1) (simp append_assoc)
