-- The parts of a line.
use Rattle.std.proofs.Common.{◌≡◌, ◌++◌, ◌∙◌, ◌<◌, ◌≤◌, ◌-◌, ℕ, zero, suc, List, [], ◌∷◌, Bool, take, length, ap, sym, refl, append_assoc, arith, lt-ltb, le-ltb, subst}
use Rattle.std.specs.List.{before_first, after_first, position_or_len}
use Rattle.eos_text.specs.Adding.{Adds}
use Rattle.eos_explaining.specs.Lines.{is_comma, separator, terms_before}

-- a part was told, and one less may follow
pub one_part : (end rest part others out between new all : List ℕ) (left : ℕ) → 0 < left → position_or_len is_comma rest < length rest
    → part ≡ before_first is_comma rest → others ≡ after_first is_comma rest → Adds out between part → Adds between new (separator (left - 1))
    → out ++ terms_before end left rest ≡ all → new ++ terms_before end (left - 1) others ≡ all
one_part end rest part others out between new all zero some less is_part is_others a b e = absurd (omega (arith, some))
one_part end rest part others out between new all (suc k) some less is_part is_others a b e =
    let one_less : suc k - 1 ≡ k = omega arith in
    let sep : Adds between new (separator k) = subst (λ (n : ℕ). Adds between new (separator n)) one_less b in
    let opened : terms_before end (suc k) rest ≡ before_first is_comma rest ++ (separator k ++ terms_before end k (after_first is_comma rest)) = rw (lt-ltb (position_or_len is_comma rest) (length rest) less) refl in
    let back : part ++ (separator k ++ terms_before end k others) ≡ terms_before end (suc k) rest = rw (is_part, is_others) (sym opened) in
    let grown : new ≡ (out ++ part) ++ separator k = sep.whole ∙ ap (λ (l : List ℕ). l ++ separator k) a.whole in
    ap (λ (n : ℕ). new ++ terms_before end n others) one_less ∙ (ap (λ (l : List ℕ). l ++ terms_before end k others) grown
    ∙ (append_assoc (out ++ part) (separator k) (terms_before end k others) ∙ (append_assoc out part (separator k ++ terms_before end k others) ∙ (ap (λ (l : List ℕ). out ++ l) back ∙ e))))

-- a line without a comma is one part
pub last_part : (end rest : List ℕ) (left : ℕ) → 0 < left → position_or_len is_comma rest ≡ length rest → terms_before end left rest ≡ rest
last_part end rest zero some none = absurd (omega (arith, some))
last_part end rest (suc k) some none = rw (le-ltb (position_or_len is_comma rest) (length rest) (omega (arith, none))) refl

-- it was told
pub parts_done : (end rest out new old text : List ℕ) (left : ℕ) → 0 < left → position_or_len is_comma rest ≡ length rest → Adds out new rest
    → out ++ terms_before end left rest ≡ old ++ text → Adds old new text
parts_done end rest out new old text left some none a e = record { whole = a.whole ∙ (ap (λ (l : List ℕ). out ++ l) (sym (last_part end rest left some none)) ∙ e) }

-- no part may follow, and the end was told
pub parts_end : (end rest out new old text : List ℕ) (left : ℕ) → left ≤ 0 → Adds out new end → out ++ terms_before end left rest ≡ old ++ text → Adds old new text
parts_end end rest out new old text zero none a e = record { whole = a.whole ∙ e }
parts_end end rest out new old text (suc k) none a e = absurd (omega (arith, none))

-- what has no such byte stands before the first one whole
pub whole_before : (p : ℕ → Bool) (line : List ℕ) → position_or_len p line ≡ length line → line ≡ before_first p line
whole_before p line none = sym (ap (λ (n : ℕ). take n line) none ∙ take_length line)
  where
    take_length : (l : List ℕ) → take (length l) l ≡ l
    take_length [] = refl
    take_length (x ∷ xs) = ap (λ (t : List ℕ). x ∷ t) (take_length xs)
