-- What a reader takes from the front, and that it reads what was written.
use Rattle.std.proofs.Common.{◌≡◌, ℕ, zero, suc, Bool, true, false, ◌&&◌, List, [], ◌∷◌, ◌++◌, length, take, drop, Option, Some, None, Result, Ok, Err, refl, sym, ap, ◌∙◌, subst, append_assoc, arith, inl, inr}
use Rattle.std.specs.Prelude.{flat_map}
use Rattle.std.proofs.lemmas.Bool.{lt-ltb, le-ltb, cases_lt}
use Rattle.std.proofs.lemmas.List.{take_at, drop_at, take-append-drop, length-append, length-take-le}
use Rattle.eos_wire.specs.Numbers.{IsBytes, bytes_at}
use Rattle.eos_base.specs.Fallible.{◌>>=◌, must}
use Rattle.eos_fold_file.specs.declared.fault.FoldFault.{FoldFault}
use Rattle.eos_fold_file.specs.Numbers.{present, many_from}
use Rattle.eos_fold_file.specs.Legal.{Each}

-- ---- steps

pub bind_ok : {A B : Type 0} (r : Result A FoldFault) (f : A → Result B FoldFault) (y : B) → (r >>= f) ≡ Ok y → (x : A) × (r ≡ Ok x) × (f x ≡ Ok y)
bind_ok (Ok x) f y e = (x, refl, e)
bind_ok (Err d) f y e = absurd cc

abbrev pub done : {A : Type 0} → A → Result A FoldFault
done x = Ok x

pub ok_is : {A : Type 0} (x y : A) → done x ≡ done y → x ≡ y
ok_is x y e = cc

pub present_ok : {X : Type 0} (o : Option X) (x : X) → present o ≡ Ok x → o ≡ Some x
present_ok None x e = absurd cc
present_ok (Some y) x e = cc

pub must_ok : {A : Type 0} (b : Bool) (d : FoldFault) (x y : A) → must b d x ≡ Ok y → (b ≡ true) × (x ≡ y)
must_ok true d x y e = (refl, cc)
must_ok false d x y e = absurd cc

pub and_true : (a b : Bool) → (a && b) ≡ true → (a ≡ true) × (b ≡ true)
and_true true b e = (refl, e)
and_true false b e = absurd cc

pub glue : (a t b u c : List ℕ) → a ≡ t ++ b → b ≡ u ++ c → a ≡ (t ++ u) ++ c
glue a t b u c p q = p ∙ (ap (λ (xs : List ℕ). t ++ xs) q ∙ sym (append_assoc t u c))

-- ---- readers

-- the text of a legal value was taken from the front
pub record Taken {X : Type 0} (text : X → List ℕ) (Legal : X → Type 0) (bytes : List ℕ) (x : X × List ℕ) : Type 0 where
  pub parts : bytes ≡ text x.0 ++ x.1
  pub legal : Legal x.0
  pub rest_fits : IsBytes x.1

-- It reads nothing but texts of legal values, and each of these, whatever follows.
pub record IsCodec {X : Type 0} (text : X → List ℕ) (Legal : X → Type 0) (read : List ℕ → Result (X × List ℕ) FoldFault) : Type 0 where
  pub sound : (bytes : List ℕ) (x : X × List ℕ) → IsBytes bytes → read bytes ≡ Ok x → Taken text Legal bytes x
  pub whole : (x : X) (rest : List ℕ) → Legal x → read (text x ++ rest) ≡ Ok (x, rest)

-- what was taken is what was read
pub as_read : {X : Type 0} (text : X → List ℕ) (Legal : X → Type 0) (bytes : List ℕ) (made x : X × List ℕ) → done made ≡ done x → Taken text Legal bytes made → Taken text Legal bytes x
as_read text Legal bytes made x e t = subst (Taken text Legal bytes) (ok_is made x e) t

-- and so is what passed a test
pub as_passed : {X : Type 0} (text : X → List ℕ) (Legal : X → Type 0) (bytes : List ℕ) (made x : X × List ℕ) → made ≡ x → Taken text Legal bytes made → Taken text Legal bytes x
as_passed text Legal bytes made x e t = subst (Taken text Legal bytes) e t

-- ---- so many bytes

pub record Cut (n : ℕ) (bytes : List ℕ) (x : List ℕ × List ℕ) : Type 0 where
  pub parts : bytes ≡ x.0 ++ x.1
  pub len : length x.0 ≡ n

pub cut_sound : (n : ℕ) (bytes : List ℕ) (x : List ℕ × List ℕ) → present (bytes_at n bytes) ≡ Ok x → Cut n bytes x
cut_sound n bytes x e =
    elim (cases_lt (length bytes) n) [
      | inl l ↦ let f = rw (lt-ltb (length bytes) n l) at e in absurd cc
      | inr r ↦
          let f : done (take n bytes, drop n bytes) ≡ done x = rw (le-ltb (length bytes) n r) at e in
          subst (Cut n bytes) (ok_is (take n bytes, drop n bytes) x f) (record { parts = sym (take-append-drop n bytes); len = length-take-le n bytes r })
    ]

pub cut_whole : (text rest : List ℕ) → present (bytes_at (length text) (text ++ rest)) ≡ Ok (text, rest)
cut_whole text rest =
    rw (le-ltb (length (text ++ rest)) (length text) (omega (arith, length-append text rest)), take_at text rest (length text) refl, drop_at text rest (length text) refl) refl

-- ---- so many, one after the other

pub record TakenMany {X : Type 0} (text : X → List ℕ) (Legal : X → Type 0) (n : ℕ) (bytes : List ℕ) (x : List X × List ℕ) : Type 0 where
  pub parts : bytes ≡ flat_map text x.0 ++ x.1
  pub legal : Each Legal x.0
  pub counted : length x.0 ≡ n
  pub rest_fits : IsBytes x.1

pub many_sound : {X : Type 0} (text : X → List ℕ) (Legal : X → Type 0) (read : List ℕ → Result (X × List ℕ) FoldFault) → IsCodec text Legal read
    → (n : ℕ) (bytes : List ℕ) (x : List X × List ℕ) → IsBytes bytes → many_from read n bytes ≡ Ok x → TakenMany text Legal n bytes x
unfolding many_from
many_sound {X} text Legal read codec zero bytes x fits e =
    subst (λ (y : List X × List ℕ). TakenMany text Legal 0 bytes y) (ok_is ([], bytes) x e) (record { parts = refl; legal = tt; counted = refl; rest_fits = fits })
many_sound {X} text Legal read codec (suc n) bytes x fits e =
    let f = bind_ok (read bytes) _ x e in
    let o = bind_ok (many_from read n f.0.1) _ x f.2 in
    let first = codec.sound bytes f.0 fits f.1 in
    let others = many_sound text Legal read codec n f.0.1 o.0 first.rest_fits o.1 in
    let made : List X × List ℕ = (f.0.0 ∷ o.0.0, o.0.1) in
    subst (λ (y : List X × List ℕ). TakenMany text Legal (suc n) bytes y) (ok_is made x o.2) (record {
      parts = glue bytes (text f.0.0) f.0.1 (flat_map text o.0.0) o.0.1 first.parts others.parts;
      legal = (first.legal, others.legal);
      counted = ap suc others.counted;
      rest_fits = others.rest_fits;
    })

pub many_whole : {X : Type 0} (text : X → List ℕ) (Legal : X → Type 0) (read : List ℕ → Result (X × List ℕ) FoldFault) → IsCodec text Legal read
    → (xs : List X) (rest : List ℕ) → Each Legal xs → many_from read (length xs) (flat_map text xs ++ rest) ≡ Ok (xs, rest)
unfolding many_from
many_whole text Legal read codec [] rest h = refl
many_whole text Legal read codec (x ∷ xs) rest h =
    let e : flat_map text (x ∷ xs) ++ rest ≡ text x ++ (flat_map text xs ++ rest) = append_assoc (text x) (flat_map text xs) rest in
    rw (e, codec.whole x (flat_map text xs ++ rest) h.0, many_whole text Legal read codec xs rest h.1) refl
