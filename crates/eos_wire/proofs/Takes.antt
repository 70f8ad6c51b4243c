-- What a reader takes from the front, and that it reads what was spelled.
use Rattle.std.proofs.Common.{◌≡◌, ℕ, zero, suc, List, [], ◌∷◌, ◌++◌, length, take, drop, Option, Some, None, Result, Ok, Err, refl, sym, ap, ◌∙◌, subst, append_assoc, arith, inl, inr}
use Rattle.std.proofs.lemmas.Bool.{lt-ltb, le-ltb, cases_lt}
use Rattle.std.proofs.lemmas.List.{take_at, drop_at, take-append-drop, length-append, length-take-le}
use Rattle.eos_wire.specs.Numbers.{IsBytes, bytes_at}
use Rattle.eos_base.specs.declared.record_fault.RecordFault.{RecordFault}
use Rattle.eos_wire.specs.Texts.{AreTexts}
use Rattle.eos_base.specs.Fallible.{◌>>=◌}
use Rattle.eos_base.specs.Records.{present}
use Rattle.eos_wire.specs.Reading.{many_from}

-- ---- steps

pub bind_ok : {A B : Type 0} (r : Result A RecordFault) (f : A → Result B RecordFault) (y : B) → (r >>= f) ≡ Ok y → (x : A) × (r ≡ Ok x) × (f x ≡ Ok y)
bind_ok (Ok x) f y e = (x, refl, e)
bind_ok (Err d) f y e = absurd cc

abbrev pub done : {A : Type 0} → A → Result A RecordFault
done x = Ok x

pub ok_is : {A : Type 0} (x y : A) → done x ≡ done y → x ≡ y
ok_is x y e = cc

pub present_ok : {X : Type 0} (o : Option X) (x : X) → present o ≡ Ok x → o ≡ Some x
present_ok None x e = absurd cc
present_ok (Some y) x e = cc

pub glue : (a t b u c : List ℕ) → a ≡ t ++ b → b ≡ u ++ c → a ≡ (t ++ u) ++ c
glue a t b u c p q = p ∙ (ap (λ (xs : List ℕ). t ++ xs) q ∙ sym (append_assoc t u c))

-- ---- readers

-- the text that was taken
pub record Taken {X : Type 0} (P : List ℕ → X → Type 0) (bytes : List ℕ) (x : X × List ℕ) : Type 0 where
  pub text : List ℕ
  pub parts : bytes ≡ text ++ x.1
  pub holds : P text x.0
  pub rest_fits : IsBytes x.1

-- reads only what is a text
abbrev pub IsSound : {X : Type 0} → (List ℕ → X → Type 0) → (List ℕ → Result (X × List ℕ) RecordFault) → Type 0
IsSound {X} P read = (bytes : List ℕ) (x : X × List ℕ) → IsBytes bytes → read bytes ≡ Ok x → Taken P bytes x

-- reads each text, whatever follows
abbrev pub IsWhole : {X : Type 0} → (List ℕ → X → Type 0) → (List ℕ → Result (X × List ℕ) RecordFault) → Type 0
IsWhole {X} P read = (text : List ℕ) (x : X) (rest : List ℕ) → P text x → read (text ++ rest) ≡ Ok (x, rest)

-- ---- so many bytes

pub record Cut (n : ℕ) (bytes : List ℕ) (x : List ℕ × List ℕ) : Type 0 where
  pub parts : bytes ≡ x.0 ++ x.1
  pub len : length x.0 ≡ n

pub cut_sound : (n : ℕ) (bytes : List ℕ) (x : List ℕ × List ℕ) → present (bytes_at n bytes) ≡ Ok x → Cut n bytes x
cut_sound n bytes x e =
    elim (cases_lt (length bytes) n) [
      | inl l ↦ let f = rw (lt-ltb (length bytes) n l) at e in absurd cc
      | inr r ↦
          let f : done (take n bytes, drop n bytes) ≡ done x = rw (le-ltb (length bytes) n r) at e in
          subst (Cut n bytes) (ok_is (take n bytes, drop n bytes) x f) (record { parts = sym (take-append-drop n bytes); len = length-take-le n bytes r })
    ]

pub cut_whole : (text rest : List ℕ) → present (bytes_at (length text) (text ++ rest)) ≡ Ok (text, rest)
cut_whole text rest =
    rw (le-ltb (length (text ++ rest)) (length text) (omega (arith, length-append text rest)), take_at text rest (length text) refl, drop_at text rest (length text) refl) refl

-- ---- so many, one after the other

pub many_sound : {X : Type 0} (P : List ℕ → X → Type 0) (read : List ℕ → Result (X × List ℕ) RecordFault) → IsSound P read
    → (n : ℕ) (bytes : List ℕ) (x : List X × List ℕ) → IsBytes bytes → many_from read n bytes ≡ Ok x → Taken (AreTexts P) bytes x × (length x.0 ≡ n)
unfolding many_from
many_sound {X} P read sound zero bytes x fits e =
    subst (λ (y : List X × List ℕ). Taken (AreTexts P) bytes y × (length y.0 ≡ 0)) (ok_is ([], bytes) x e) (record { text = []; parts = refl; holds = refl; rest_fits = fits }, refl)
many_sound {X} P read sound (suc n) bytes x fits e =
    let f = bind_ok (read bytes) _ x e in
    let o = bind_ok (many_from read n f.0.1) _ x f.2 in
    let first = sound bytes f.0 fits f.1 in
    let others = many_sound P read sound n f.0.1 o.0 first.rest_fits o.1 in
    let made : List X × List ℕ = (f.0.0 ∷ o.0.0, o.0.1) in
    subst (λ (y : List X × List ℕ). Taken (AreTexts P) bytes y × (length y.0 ≡ suc n)) (ok_is made x o.2) (
      record {
        text = first.text ++ others.0.text;
        parts = glue bytes first.text f.0.1 others.0.text o.0.1 first.parts others.0.parts;
        holds = (first.text, others.0.text, first.holds, others.0.holds, refl);
        rest_fits = others.0.rest_fits;
      },
      ap suc others.1,
    )

pub many_whole : {X : Type 0} (P : List ℕ → X → Type 0) (read : List ℕ → Result (X × List ℕ) RecordFault) → IsWhole P read
    → (text : List ℕ) (xs : List X) (rest : List ℕ) → AreTexts P text xs → many_from read (length xs) (text ++ rest) ≡ Ok (xs, rest)
unfolding many_from
many_whole P read whole text [] rest h = rw h refl
many_whole P read whole text (x ∷ xs) rest h =
    let e : text ++ rest ≡ h.0 ++ (h.1 ++ rest) = rw h.4 (append_assoc h.0 h.1 rest) in
    rw (e, whole h.0 x (h.1 ++ rest) h.2, many_whole P read whole h.1 xs rest h.3) refl
