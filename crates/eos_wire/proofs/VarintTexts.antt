-- What is read stands at the front, and each text at the front is read.
use Rattle.std.proofs.Common.{◌≡◌, ℕ, zero, suc, ◌+◌, ◌-◌, ◌*◌, ◌^◌, ◌<◌, ◌≤◌, ℤ, List, [], ◌∷◌, ◌++◌, length, take, drop, Option, Some, None, refl, sym, ap, ◌∙◌, subst, arith, inl, inr}
use Rattle.std.specs.Prelude.{option_map}
use Rattle.std.proofs.lemmas.Bool.{lt-ltb, le-ltb, cases_lt}
use Rattle.std.proofs.lemmas.List.{take-append-drop, take_at, drop_at, length-append, length-take-le}
use Rattle.eos_wire.specs.Numbers.{IsBytes}
use Rattle.eos_wire.specs.Varint.{IsGroups, IsVarint, IsVarlong, IsUvarint, ReadsFront, with_sign, with_group, groups_at, varint_at, varlong_at, uvarint_at}
use Rattle.eos_wire.proofs.Groups.{groups_below, times}

-- the text that was read, and what follows it
pub record Front {X : Type 0} (IsText : List ℕ → X → Type 0) (bytes : List ℕ) (found : X × ℕ) : Type 0 where
  pub text : List ℕ
  pub rest : List ℕ
  pub parts : bytes ≡ text ++ rest
  pub len : found.1 ≡ length text
  pub holds : IsText text found.0

-- reads only what is a text
abbrev pub IsSound : {X : Type 0} → (List ℕ → X → Type 0) → (List ℕ → Option (X × ℕ)) → Type 0
IsSound {X} IsText read = (bytes : List ℕ) (found : X × ℕ) → IsBytes bytes → read bytes ≡ Some found → Front IsText bytes found

-- reads each text, whatever follows
abbrev pub IsWhole : {X : Type 0} → (List ℕ → X → Type 0) → (List ℕ → Option (X × ℕ)) → Type 0
IsWhole {X} IsText read = (text : List ℕ) (x : X) (rest : List ℕ) → IsText text x → read (text ++ rest) ≡ Some (x, length text)

-- ---- what a text at the front means for `take` and `drop`

pub front-take : {X : Type 0} (IsText : List ℕ → X → Type 0) (bytes : List ℕ) (found : X × ℕ) (f : Front IsText bytes found) → take found.1 bytes ≡ f.text
front-take IsText bytes found f = rw f.parts (take_at f.text f.rest found.1 (sym f.len))

pub front-drop : {X : Type 0} (IsText : List ℕ → X → Type 0) (bytes : List ℕ) (found : X × ℕ) (f : Front IsText bytes found) → drop found.1 bytes ≡ f.rest
front-drop IsText bytes found f = rw f.parts (drop_at f.text f.rest found.1 (sym f.len))

pub front-within : {X : Type 0} (IsText : List ℕ → X → Type 0) (bytes : List ℕ) (found : X × ℕ) (f : Front IsText bytes found) → found.1 ≤ length bytes
front-within IsText bytes found f = rw (f.parts, length-append, f.len) (omega arith)

pub reads_front : {X : Type 0} (IsText : List ℕ → X → Type 0) (read : List ℕ → Option (X × ℕ)) (bytes : List ℕ) (result : Option (X × ℕ))
    → IsSound IsText read → IsWhole IsText read → IsBytes bytes → result ≡ read bytes → ReadsFront IsText bytes result
reads_front {X} IsText read bytes result sound whole fits is x k = (
  λ (e : result ≡ Some (x, k)).
      let f = sound bytes (x, k) fits (sym is ∙ e) in
      (front-within IsText bytes (x, k) f, subst (λ (text : List ℕ). IsText text x) (sym (front-take IsText bytes (x, k) f)) f.holds),
  λ (h : (k ≤ length bytes) × IsText (take k bytes) x).
      let w : read (take k bytes ++ drop k bytes) ≡ Some (x, length (take k bytes)) = whole (take k bytes) x (drop k bytes) h.1 in
      let n : length (take k bytes) ≡ k = length-take-le k bytes h.0 in
      is ∙ subst (λ (b : List ℕ). read b ≡ Some (x, k)) (take-append-drop k bytes) (w ∙ ap (λ (m : ℕ). Some (x, m)) n),
)

-- ---- groups

pub record Found (k : ℕ) (bytes : List ℕ) (found : ℕ × ℕ) : Type 0 where
  pub text : List ℕ
  pub rest : List ℕ
  pub parts : bytes ≡ text ++ rest
  pub len : found.1 ≡ length text
  pub few : length text ≤ k
  pub groups : IsGroups text found.0

some_is : {X : Type 0} (x y : X) → Some x ≡ Some y → x ≡ y
some_is x y e = cc

one_group : (k b : ℕ) (bs : List ℕ) (found : ℕ × ℕ) → b < 128 → Some (b, 1) ≡ Some found → Found (suc k) (b ∷ bs) found
one_group k b bs found lt e =
    subst (Found (suc k) (b ∷ bs)) (some_is (b, 1) found e) (record { text = b ∷ []; rest = bs; parts = refl; len = refl; few = omega arith; groups = (lt, refl) })

more_groups : (k b : ℕ) (bs : List ℕ) (high : ℕ × ℕ) (found : ℕ × ℕ) → 128 ≤ b → b < 256 → Some (b - 128 + 128 * high.0, high.1 + 1) ≡ Some found → Found (suc k) bs high → Found (suc (suc k)) (b ∷ bs) found
more_groups k b bs high found ge lt e h = subst (Found (suc (suc k)) (b ∷ bs)) (some_is (b - 128 + 128 * high.0, high.1 + 1) found e) (cases h.text h.parts h.len h.few h.groups)
  where
    cases : (t : List ℕ) → bs ≡ t ++ h.rest → high.1 ≡ length t → length t ≤ suc k → IsGroups t high.0 → Found (suc (suc k)) (b ∷ bs) (b - 128 + 128 * high.0, high.1 + 1)
    cases [] p l f g = absurd g
    cases (c ∷ cs) p l f g = record { text = b ∷ c ∷ cs; rest = h.rest; parts = ap (λ (xs : List ℕ). b ∷ xs) p; len = omega arith; few = omega arith; groups = (ge, lt, high.0, omega arith, g) }

pub groups_found : (k top : ℕ) (bytes : List ℕ) (found : ℕ × ℕ) → IsBytes bytes → top < 128 → groups_at k top bytes ≡ Some found → Found k bytes found
unfolding groups_at
groups_found k top [] found fits small e = absurd cc
groups_found zero top (b ∷ bs) found fits small e = absurd cc
groups_found (suc zero) top (b ∷ bs) found fits small e =
    elim (cases_lt top b) [
      | inl l ↦ let f : None ≡ Some found = rw (lt-ltb top b l) at e in absurd cc
      | inr r ↦ one_group 0 b bs found (omega arith) (rw (le-ltb top b r) at e)
    ]
groups_found (suc (suc k)) top (b ∷ bs) found fits small e =
    elim (cases_lt b 128) [
      | inl l ↦ one_group (suc k) b bs found l (rw (lt-ltb b 128 l) at e)
      | inr r ↦ cases (groups_at (suc k) top bs) (λ high q. groups_found (suc k) top bs high (λ i. fits (suc i)) small q) r (rw (le-ltb b 128 r) at e)
    ]
  where
    cases : (o : Option (ℕ × ℕ)) → ((high : ℕ × ℕ) → o ≡ Some high → Found (suc k) bs high) → 128 ≤ b → with_group (b - 128) o ≡ Some found → Found (suc (suc k)) (b ∷ bs) found
    cases None ih r q = absurd cc
    cases (Some high) ih r q = more_groups k b bs high found r (fits 0) q (ih high refl)

pub groups_again : (k top : ℕ) (text rest : List ℕ) (n : ℕ) → IsGroups text n → length text ≤ suc k → n < (top + 1) * 2 ^ (7 * k) → groups_at (suc k) top (text ++ rest) ≡ Some (n, length text)
unfolding groups_at
groups_again k top [] rest n g few lt = absurd g
groups_again zero top (b ∷ []) rest n g few lt = rw (le-ltb top b (omega arith)) (ap (λ (m : ℕ). Some (m, 1)) (sym g.1))
groups_again (suc k) top (b ∷ []) rest n g few lt = rw (lt-ltb b 128 g.0) (ap (λ (m : ℕ). Some (m, 1)) (sym g.1))
groups_again zero top (b ∷ c ∷ bs) rest n g few lt = absurd (omega arith)
groups_again (suc k) top (b ∷ c ∷ bs) rest n g few lt =
    let w : (top + 1) * 2 ^ (7 * suc k) ≡ 128 * ((top + 1) * 2 ^ (7 * k)) = times top k in
    let m : g.2 < (top + 1) * 2 ^ (7 * k) = omega arith in
    let ih = groups_again k top (c ∷ bs) rest g.2 g.4 (omega arith) m in
    rw (le-ltb b 128 g.0, ih) (ap (λ (x : ℕ × ℕ). Some x) (let a : b - 128 + 128 * g.2 ≡ n = omega arith in let d : suc (length bs) + 1 ≡ suc (suc (length bs)) = omega arith in rw (a, d) refl))

pub number_below : (k top : ℕ) (bytes : List ℕ) (found : ℕ × ℕ) → IsBytes bytes → groups_at (suc k) top bytes ≡ Some found → found.0 < (top + 1) * 2 ^ (7 * k)
number_below k top bytes found fits e = let h = groups_below k top bytes fits in rw e at h

-- ---- the three forms

pub uvarint_sound : IsSound IsUvarint uvarint_at
unfolding uvarint_at
uvarint_sound bytes found fits e =
    let f = groups_found 5 15 bytes found fits (omega arith) e in
    let below : found.0 < 2 ^ 32 = number_below 4 15 bytes found fits e in
    record { text = f.text; rest = f.rest; parts = f.parts; len = f.len; holds = (f.groups, f.few, below) }

pub uvarint_whole : IsWhole IsUvarint uvarint_at
unfolding uvarint_at
uvarint_whole text n rest h = groups_again 4 15 text rest n h.0 h.1 h.2

mapped : (o : Option (ℕ × ℕ)) (found : ℤ × ℕ) → option_map with_sign o ≡ Some found → (high : ℕ × ℕ) × (o ≡ Some high) × (with_sign high ≡ found)
mapped None found e = absurd cc
mapped (Some high) found e = (high, refl, some_is (with_sign high) found e)

pub varint_sound : IsSound IsVarint varint_at
unfolding varint_at
varint_sound bytes found fits e =
    let m = mapped (groups_at 5 15 bytes) found e in
    let f = groups_found 5 15 bytes m.0 fits (omega arith) m.1 in
    let below : m.0.0 < 2 ^ 32 = number_below 4 15 bytes m.0 fits m.1 in
    subst (Front IsVarint bytes) m.2 (record { text = f.text; rest = f.rest; parts = f.parts; len = f.len; holds = (m.0.0, f.groups, f.few, below, refl) })

pub varint_whole : IsWhole IsVarint varint_at
unfolding varint_at
varint_whole text z rest h = rw (groups_again 4 15 text rest h.0 h.1 h.2 h.3, h.4) refl

pub varlong_sound : IsSound IsVarlong varlong_at
unfolding varlong_at
varlong_sound bytes found fits e =
    let m = mapped (groups_at 10 1 bytes) found e in
    let f = groups_found 10 1 bytes m.0 fits (omega arith) m.1 in
    let below : m.0.0 < 2 ^ 64 = number_below 9 1 bytes m.0 fits m.1 in
    subst (Front IsVarlong bytes) m.2 (record { text = f.text; rest = f.rest; parts = f.parts; len = f.len; holds = (m.0.0, f.groups, f.few, below, refl) })

pub varlong_whole : IsWhole IsVarlong varlong_at
unfolding varlong_at
varlong_whole text z rest h = rw (groups_again 9 1 text rest h.0 h.1 h.2 h.3, h.4) refl

-- ---- as the readers answer

pub uvarint_front : (bytes : List ℕ) (result : Option (ℕ × ℕ)) → IsBytes bytes → result ≡ uvarint_at bytes → ReadsFront IsUvarint bytes result
uvarint_front bytes result fits e = reads_front IsUvarint uvarint_at bytes result uvarint_sound uvarint_whole fits e

pub varint_front : (bytes : List ℕ) (result : Option (ℤ × ℕ)) → IsBytes bytes → result ≡ varint_at bytes → ReadsFront IsVarint bytes result
varint_front bytes result fits e = reads_front IsVarint varint_at bytes result varint_sound varint_whole fits e

pub varlong_front : (bytes : List ℕ) (result : Option (ℤ × ℕ)) → IsBytes bytes → result ≡ varlong_at bytes → ReadsFront IsVarlong bytes result
varlong_front bytes result fits e = reads_front IsVarlong varlong_at bytes result varlong_sound varlong_whole fits e
