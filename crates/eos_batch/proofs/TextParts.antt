-- What reading takes from the front is a text, and each text is read: numbers, and bytes with a length before them.
use Rattle.std.proofs.Common.{◌≡◌, ℕ, zero, suc, ◌≤◌, Bool, true, false, cond, ltb, List, ◌++◌, length, take, drop, Option, Some, None, Result, Ok, Err, refl, sym, ap, subst, ◌∙◌, append_assoc, arith, ℤ, pos, negsuc}
use Rattle.std.proofs.lemmas.Bool.{le-ltb, ltb-false}
use Rattle.std.proofs.lemmas.List.{take_at, drop_at, take-append-drop, length-append, length-take}
use Rattle.eos_wire.specs.Numbers.{IsBytes}
use Rattle.eos_wire.specs.Varint.{IsVarint, IsVarlong, varint_at, varlong_at}
use Rattle.eos_wire.proofs.NumberTexts.{IsBytes-append_right}
use Rattle.eos_wire.proofs.VarintTexts.{Front, front-drop, varint_sound, varint_whole, varlong_sound, varlong_whole}
use Rattle.eos_batch.specs.declared.fault.BatchFault.{BatchFault}
use Rattle.eos_batch.specs.declared.fault.BatchFault.TheVariants as faults
use Rattle.eos_batch.specs.Text.{IsBytesText, IsOptionalText}
use Rattle.eos_base.specs.Fallible.{◌>>=◌, or_fault, must}
use Rattle.eos_batch.specs.Reading.{number_from, int_at, long_at, count_from, count_at, take_at as take_bytes, bytes_at, optional_from, optional_at}

-- ---- steps

pub bind_ok : {A B : Type 0} (r : Result A BatchFault) (f : A → Result B BatchFault) (y : B) → (r >>= f) ≡ Ok y → (x : A) × (r ≡ Ok x) × (f x ≡ Ok y)
bind_ok (Ok x) f y e = (x, refl, e)
bind_ok (Err d) f y e = absurd cc

abbrev pub done : {A : Type 0} → A → Result A BatchFault
done x = Ok x

pub ok_is : {A : Type 0} (x y : A) → done x ≡ done y → x ≡ y
ok_is x y e = cc

pub must_ok : {A : Type 0} (b : Bool) (d : BatchFault) (x y : A) → must b d x ≡ Ok y → (b ≡ true) × (x ≡ y)
must_ok true d x y e = (refl, cc)
must_ok false d x y e = absurd cc

pub must_bind : {A B : Type 0} (b : Bool) (d : BatchFault) (x : A) (f : A → Result B BatchFault) (y : B) → (must b d x >>= f) ≡ Ok y → (b ≡ true) × (f x ≡ Ok y)
must_bind true d x f y e = (refl, e)
must_bind false d x f y e = absurd cc

pub or_fault_ok : {A : Type 0} (d : BatchFault) (o : Option A) (x : A) → or_fault d o ≡ Ok x → o ≡ Some x
or_fault_ok d None x e = absurd cc
or_fault_ok d (Some y) x e = cc

-- the text that was taken from the front
pub record Taken {X : Type 0} (P : List ℕ → X → Type 0) (bytes : List ℕ) (x : X × List ℕ) : Type 0 where
  pub text : List ℕ
  pub parts : bytes ≡ text ++ x.1
  pub holds : P text x.0
  pub rest_fits : IsBytes x.1

-- reads only what is a text
abbrev pub IsSound : {X : Type 0} → (List ℕ → X → Type 0) → (List ℕ → Result (X × List ℕ) BatchFault) → Type 0
IsSound {X} P read = (bytes : List ℕ) (x : X × List ℕ) → IsBytes bytes → read bytes ≡ Ok x → Taken P bytes x

-- reads each text, whatever follows
abbrev pub IsWhole : {X : Type 0} → (List ℕ → X → Type 0) → (List ℕ → Result (X × List ℕ) BatchFault) → Type 0
IsWhole {X} P read = (text : List ℕ) (x : X) (rest : List ℕ) → P text x → read (text ++ rest) ≡ Ok (x, rest)

pub glue : (a t b u c : List ℕ) → a ≡ t ++ b → b ≡ u ++ c → a ≡ (t ++ u) ++ c
glue a t b u c p q = p ∙ (ap (λ (xs : List ℕ). t ++ xs) q ∙ sym (append_assoc t u c))

-- ---- numbers

number_sound : (IsText : List ℕ → ℤ → Type 0) (bytes : List ℕ) (o : Option (ℤ × ℕ)) (x : ℤ × List ℕ) → IsBytes bytes → ((found : ℤ × ℕ) → o ≡ Some found → Front IsText bytes found) → number_from bytes o ≡ Ok x → Taken IsText bytes x
number_sound IsText bytes None x fits h e = absurd cc
number_sound IsText bytes (Some found) x fits h e =
    let f = h found refl in
    let cut : drop found.1 bytes ≡ f.rest = front-drop IsText bytes found f in
    let made : ℤ × List ℕ = (found.0, drop found.1 bytes) in
    let parts : bytes ≡ f.text ++ drop found.1 bytes = rw cut f.parts in
    let t : Taken IsText bytes made = record { text = f.text; parts = parts; holds = f.holds; rest_fits = rw cut (IsBytes-append_right f.text f.rest (subst IsBytes f.parts fits)) } in
    subst (Taken IsText bytes) (ok_is made x e) t

pub int_sound : IsSound IsVarint int_at
unfolding int_at
int_sound bytes x fits e = number_sound IsVarint bytes (varint_at bytes) x fits (λ found q. varint_sound bytes found fits q) e

pub long_sound : IsSound IsVarlong long_at
unfolding long_at
long_sound bytes x fits e = number_sound IsVarlong bytes (varlong_at bytes) x fits (λ found q. varlong_sound bytes found fits q) e

pub int_whole : IsWhole IsVarint int_at
unfolding int_at
int_whole text z rest h = rw (varint_whole text z rest h, drop_at text rest (length text) refl) refl

pub long_whole : IsWhole IsVarlong long_at
unfolding long_at
long_whole text z rest h = rw (varlong_whole text z rest h, drop_at text rest (length text) refl) refl

-- ---- counts, bytes and options

abbrev pub IsCount : List ℕ → ℕ → Type 0
IsCount text n = IsVarint text (pos n)

count_cases : (bytes : List ℕ) (z : ℤ × List ℕ) (x : ℕ × List ℕ) → Taken IsVarint bytes z → count_from z.0 z.1 ≡ Ok x → Taken IsCount bytes x
count_cases bytes (pos n, rest) x t e = subst (Taken IsCount bytes) (ok_is (n, rest) x e) (record { text = t.text; parts = t.parts; holds = t.holds; rest_fits = t.rest_fits })
count_cases bytes (negsuc n, rest) x t e = absurd cc

pub count_sound : IsSound IsCount count_at
unfolding count_at
count_sound bytes x fits e =
    let b = bind_ok (int_at bytes) (λ z. count_from z.0 z.1) x e in
    count_cases bytes b.0 x (int_sound bytes b.0 fits b.1) b.2

pub count_whole : IsWhole IsCount count_at
unfolding count_at
count_whole text n rest h = rw (int_whole text (pos n) rest h) refl

guard_ok : {A : Type 0} (b : Bool) (d : BatchFault) (x y : A) → cond b (Err d) (Ok x) ≡ Ok y → (b ≡ false) × (x ≡ y)
guard_ok true d x y e = absurd cc
guard_ok false d x y e = (refl, cc)

-- so many bytes from the front
record Cut (n : ℕ) (bytes : List ℕ) (x : List ℕ × List ℕ) : Type 0 where
  pub parts : bytes ≡ x.0 ++ x.1
  pub len : length x.0 ≡ n

take_sound : (n : ℕ) (bytes : List ℕ) (x : List ℕ × List ℕ) → take_bytes n bytes ≡ Ok x → Cut n bytes x
take_sound n bytes x e =
    let g = guard_ok (ltb (length bytes) n) faults.Record (take n bytes, drop n bytes) x e in
    let long : n ≤ length bytes = ltb-false _ _ g.0 in
    subst (Cut n bytes) g.1 (record { parts = sym (take-append-drop n bytes); len = omega (arith, length-take n bytes) })

take_whole : (text rest : List ℕ) → take_bytes (length text) (text ++ rest) ≡ Ok (text, rest)
take_whole text rest = rw (le-ltb (length (text ++ rest)) (length text) (omega (arith, length-append text rest)), take_at text rest (length text) refl, drop_at text rest (length text) refl) refl

-- a length and so many bytes
joined : (bytes : List ℕ) (n : ℕ × List ℕ) (x : List ℕ × List ℕ) → Taken IsCount bytes n → Cut n.0 n.1 x → Taken IsBytesText bytes x
joined bytes n x t c =
    record {
      text = t.text ++ x.0;
      parts = t.parts ∙ (ap (λ (xs : List ℕ). t.text ++ xs) c.parts ∙ sym (append_assoc t.text x.0 x.1));
      holds = (t.text, subst (λ (m : ℕ). IsVarint t.text (pos m)) (sym c.len) t.holds, refl);
      rest_fits = IsBytes-append_right x.0 x.1 (subst IsBytes c.parts t.rest_fits);
    }

pub bytes_sound : IsSound IsBytesText bytes_at
unfolding bytes_at
bytes_sound bytes x fits e =
    let b = bind_ok (count_at bytes) (λ n. take_bytes n.0 n.1) x e in
    joined bytes b.0 x (count_sound bytes b.0 fits b.1) (take_sound b.0.0 b.0.1 x b.2)

pub bytes_whole : IsWhole IsBytesText bytes_at
unfolding bytes_at
bytes_whole text x rest h =
    let e : text ++ rest ≡ h.0 ++ (x ++ rest) = ap (λ (xs : List ℕ). xs ++ rest) h.2 ∙ append_assoc h.0 x rest in
    rw (e, count_whole h.0 (length x) (x ++ rest) h.1) (take_whole x rest)

optional_cases : (bytes : List ℕ) (z : ℤ × List ℕ) (x : Option (List ℕ) × List ℕ) → Taken IsVarint bytes z → optional_from z.0 z.1 ≡ Ok x → Taken IsOptionalText bytes x
optional_cases bytes (pos n, rest) x t e =
    let b = bind_ok (take_bytes n rest) (λ y. Ok (Some y.0, y.1)) x e in
    let j = joined bytes (n, rest) b.0 (record { text = t.text; parts = t.parts; holds = t.holds; rest_fits = t.rest_fits }) (take_sound n rest b.0 b.1) in
    subst (Taken IsOptionalText bytes) (ok_is (Some b.0.0, b.0.1) x b.2) (record { text = j.text; parts = j.parts; holds = j.holds; rest_fits = j.rest_fits })
optional_cases bytes (negsuc zero, rest) x t e = subst (Taken IsOptionalText bytes) (ok_is (None, rest) x e) (record { text = t.text; parts = t.parts; holds = t.holds; rest_fits = t.rest_fits })
optional_cases bytes (negsuc (suc n), rest) x t e = absurd cc

pub optional_sound : IsSound IsOptionalText optional_at
unfolding optional_at
optional_sound bytes x fits e =
    let b = bind_ok (int_at bytes) (λ z. optional_from z.0 z.1) x e in
    optional_cases bytes b.0 x (int_sound bytes b.0 fits b.1) b.2

pub optional_whole : IsWhole IsOptionalText optional_at
unfolding optional_at
optional_whole text None rest h = rw (int_whole text (negsuc 0) rest h) refl
optional_whole text (Some x) rest h =
    let e : text ++ rest ≡ h.0 ++ (x ++ rest) = ap (λ (xs : List ℕ). xs ++ rest) h.2 ∙ append_assoc h.0 x rest in
    rw (e, int_whole h.0 (pos (length x)) (x ++ rest) h.1, take_whole x rest) refl
