-- The shortest spelling is a spelling, and none is shorter.
use Rattle.std.proofs.Common.{◌≡◌, ℤ, pos, negsuc, sym, ap, ◌∙◌, get_or, ℕ, zero, suc, ◌+◌, ◌-◌, ◌*◌, ◌/◌, ◌%◌, ◌^◌, ◌<◌, ◌≤◌, List, [], ◌∷◌, ◌++◌, Some, length, take, set, refl, subst, append_assoc, arith, inl, inr}
use Rattle.std.proofs.lemmas.Bool.{lt-ltb, le-ltb, cases_lt, cases_eq}
use Rattle.std.proofs.Common.{add-one}
use Rattle.std.proofs.Math.Nat.{pow-suc}
use Rattle.std.proofs.Math.Seq.{take-suc-set}
use Rattle.std.proofs.lemmas.Nat.{mul-le}
use Rattle.std.specs.Prelude.{FitsSigned}
use Rattle.std.specs.Int.{w32, w64}
use Rattle.eos_wire.specs.Numbers.{IsBytes}
use Rattle.eos_wire.specs.Varint.{IsGroups, IsVarint, IsVarlong, IsUvarint, unzigzag, varlong_at}
use Rattle.eos_wire.specs.Writing.{IsShortest, zigzag, groups_of, varint_of, varlong_of, uvarint_of}
use Rattle.eos_wire.proofs.VarintTexts.{varlong_whole}

pub more : (k n : ℕ) → 128 ≤ n → groups_of (suc k) n ≡ (n % 128 + 128) ∷ groups_of k (n / 128)
unfolding groups_of
more k n le = rw (le-ltb n 128 le) refl

pub last : (k n : ℕ) → n < 128 → groups_of k n ≡ n ∷ []
unfolding groups_of
last zero n lt = refl
last (suc k) n lt = rw (lt-ltb n 128 lt) refl

prefixed : (b n : ℕ) (bs : List ℕ) → IsGroups bs (n / 128) → b ≡ n % 128 + 128 → IsGroups (b ∷ bs) n
prefixed b n [] g e = absurd g
prefixed b n (c ∷ cs) g e = (omega arith, omega arith, n / 128, omega arith, g)

pub spells : (k n : ℕ) → n < 128 ^ suc k → IsGroups (groups_of k n) n
unfolding groups_of
spells zero n lt = (omega (arith, lt, pow-suc 128 0), refl)
spells (suc k) n lt =
    elim (cases_lt n 128) [
      | inl l ↦ rw (lt-ltb n 128 l) (l, refl)
      | inr r ↦ rw (le-ltb n 128 r) (prefixed (n % 128 + 128) n (groups_of k (n / 128)) (spells k (n / 128) (let p : 128 ^ suc (suc k) ≡ 128 ^ suc k * 128 = pow-suc 128 (suc k) in omega arith)) refl)
    ]

pub least : (k n : ℕ) (text : List ℕ) → IsGroups text n → length (groups_of k n) ≤ length text
unfolding groups_of
least k n [] g = absurd g
least zero n (b ∷ bs) g = omega arith
least (suc k) n (b ∷ []) g = let l : n < 128 = omega (arith, g.0, g.1) in rw (lt-ltb n 128 l) (omega arith)
least (suc k) n (b ∷ c ∷ bs) g =
    let high : g.2 ≤ n / 128 = omega (arith, g.0, g.1, g.3) in
    let same : g.2 ≡ n / 128 = omega (arith, g.0, g.1, g.3) in
    elim (cases_lt n 128) [
      | inl l ↦ rw (lt-ltb n 128 l) (omega arith)
      | inr r ↦ rw (le-ltb n 128 r) (let ih = least k (n / 128) (c ∷ bs) (subst (λ (m : ℕ). IsGroups (c ∷ bs) m) same g.4) in omega arith)
    ]

-- ---- the loop that writes

pub record Turn (len rest : ℕ) : Type 0 where
  pub short : len + 1 ≤ 9
  pub small : rest / 128 * 128 ^ (len + 1) < 2 ^ 64

pub turn : (len rest : ℕ) → len ≤ 9 → 128 ≤ rest → rest * 128 ^ len < 2 ^ 64 → Turn len rest
turn len rest le big small =
    let short : len + 1 ≤ 9 = elim (cases_lt len 9) [
      | inl l ↦ omega arith
      | inr r ↦ let e : len ≡ 9 = omega arith in let s : rest * 128 ^ 9 < 2 ^ 64 = rw e at small in absurd (omega (arith, s))
    ] in
    let m : rest / 128 * 128 * 128 ^ len ≤ rest * 128 ^ len = mul-le (rest / 128 * 128) (128 ^ len) rest (128 ^ len) (omega arith) (omega arith) in
    let p : 128 ^ (len + 1) ≡ 128 ^ len * 128 = rw add-one (pow-suc 128 len) in
    record { short = short; small = rw p (omega (arith, m, small)) }

pub so_far : (bytes : List ℕ) (len rest : ℕ) (total : List ℕ) → len < length bytes → len + 1 ≤ 9 → 128 ≤ rest → take len bytes ++ groups_of (9 - len) rest ≡ total
    → take (len + 1) (set bytes len (rest % 128 + 128)) ++ groups_of (9 - (len + 1)) (rest / 128) ≡ total
so_far bytes len rest total lt short big e =
    let k : 9 - len ≡ suc (9 - (len + 1)) = omega arith in
    let one : take len bytes ++ ((rest % 128 + 128) ∷ groups_of (9 - (len + 1)) (rest / 128)) ≡ total = rw (k, more (9 - (len + 1)) rest big) at e in
    let n : 9 - suc len ≡ 9 - (len + 1) = omega arith in
    rw (add-one, n, take-suc-set bytes len (rest % 128 + 128) lt, append_assoc) one

pub ended : (bytes : List ℕ) (len rest : ℕ) (total : List ℕ) → len < length bytes → rest < 128 → take len bytes ++ groups_of (9 - len) rest ≡ total → take (len + 1) (set bytes len rest) ≡ total
ended bytes len rest total lt small e =
    let one : take len bytes ++ rest ∷ [] ≡ total = rw (last (9 - len) rest small) at e in
    rw (add-one, take-suc-set bytes len rest lt) one

-- ---- more room changes nothing

pub groups_of-more : (k m n : ℕ) → k ≤ m → n < 128 ^ suc k → groups_of m n ≡ groups_of k n
unfolding groups_of
groups_of-more zero m n le lt = last m n (omega (arith, lt, pow-suc 128 0))
groups_of-more (suc k) zero n le lt = absurd (omega arith)
groups_of-more (suc k) (suc m) n le lt =
    elim (cases_lt n 128) [
      | inl l ↦ rw (lt-ltb n 128 l) refl
      | inr r ↦ rw (le-ltb n 128 r) (ap (λ (bs : List ℕ). (n % 128 + 128) ∷ bs) (groups_of-more k m (n / 128) (omega arith) (let p : 128 ^ suc (suc k) ≡ 128 ^ suc k * 128 = pow-suc 128 (suc k) in omega arith)))
    ]

-- ---- signs

pub unzigzag-zigzag : (z : ℤ) → unzigzag (zigzag z) ≡ z
unzigzag-zigzag (pos n) = let even : (2 * n) % 2 ≡ 0 = omega arith in let half : 2 * n / 2 ≡ n = omega arith in rw (even, half) refl
unzigzag-zigzag (negsuc n) = let odd : (2 * n + 1) % 2 ≡ 1 = omega arith in let half : (2 * n + 1) / 2 ≡ n = omega arith in rw (odd, half) refl

pub zigzag-unzigzag : (n : ℕ) → zigzag (unzigzag n) ≡ n
zigzag-unzigzag n =
    elim (cases_eq (n % 2) 0) [
      | inl even ↦ rw even (omega arith)
      | inr odd ↦ let one : n % 2 ≡ 1 = omega arith in rw one (omega arith)
    ]

pub zigzag_below_32 : (z : ℤ) → FitsSigned w32 z → zigzag z < 2 ^ 32
zigzag_below_32 (pos n) fits = omega arith
zigzag_below_32 (negsuc n) fits = omega arith

pub zigzag_below_64 : (z : ℤ) → FitsSigned w64 z → zigzag z < 2 ^ 64
zigzag_below_64 (pos n) fits = omega arith
zigzag_below_64 (negsuc n) fits = omega arith

-- ---- the three forms

few : (k n : ℕ) → length (groups_of k n) ≤ suc k
unfolding groups_of
few zero n = omega arith
few (suc k) n =
    elim (cases_lt n 128) [
      | inl l ↦ rw (lt-ltb n 128 l) (omega arith)
      | inr r ↦ rw (le-ltb n 128 r) (omega (arith, few k (n / 128)))
    ]

pub uvarint_shortest : (n : ℕ) → n < 2 ^ 32 → IsShortest IsUvarint (uvarint_of n) n
unfolding uvarint_of
uvarint_shortest n lt = ((spells 4 n (omega arith), few 4 n, lt), λ other h. least 4 n other h.0)

pub varint_shortest : (z : ℤ) → FitsSigned w32 z → IsShortest IsVarint (varint_of z) z
unfolding varint_of
varint_shortest z fits =
    let lt = zigzag_below_32 z fits in (
      (zigzag z, spells 4 (zigzag z) (omega arith), few 4 (zigzag z), lt, sym (unzigzag-zigzag z)),
      λ other h.
          let same : zigzag z ≡ h.0 = ap zigzag h.4 ∙ zigzag-unzigzag h.0 in
          rw same (least 4 h.0 other h.1),
    )

pub varlong_shortest : (z : ℤ) → FitsSigned w64 z → IsShortest IsVarlong (varlong_of z) z
unfolding varlong_of
varlong_shortest z fits =
    let lt = zigzag_below_64 z fits in (
      (zigzag z, spells 9 (zigzag z) (omega arith), few 9 (zigzag z), lt, sym (unzigzag-zigzag z)),
      λ other h.
          let same : zigzag z ≡ h.0 = ap zigzag h.4 ∙ zigzag-unzigzag h.0 in
          rw same (least 9 h.0 other h.1),
    )

-- ---- a text has bytes, at least one of them

pub IsGroups-bytes : (text : List ℕ) (n : ℕ) → IsGroups text n → IsBytes text
IsGroups-bytes [] n g = absurd g
IsGroups-bytes (b ∷ []) n g = λ i. one i
  where
    one : (i : ℕ) → get_or (b ∷ []) i 0 < 256
    one zero = omega (arith, g.0)
    one (suc i) = omega arith
IsGroups-bytes (b ∷ c ∷ bs) n g = λ i. more_bytes (IsGroups-bytes (c ∷ bs) g.2 g.4) i
  where
    more_bytes : IsBytes (c ∷ bs) → (i : ℕ) → get_or (b ∷ c ∷ bs) i 0 < 256
    more_bytes fits zero = g.1
    more_bytes fits (suc i) = fits i

pub IsGroups-some : (text : List ℕ) (n : ℕ) → IsGroups text n → 1 ≤ length text
IsGroups-some [] n g = absurd g
IsGroups-some (b ∷ bs) n g = omega arith

pub IsVarint-bytes : (text : List ℕ) (z : ℤ) → IsVarint text z → IsBytes text
IsVarint-bytes text z h = IsGroups-bytes text h.0 h.1

pub IsVarint-some : (text : List ℕ) (z : ℤ) → IsVarint text z → 1 ≤ length text
IsVarint-some text z h = IsGroups-some text h.0 h.1

pub IsVarlong-bytes : (text : List ℕ) (z : ℤ) → IsVarlong text z → IsBytes text
IsVarlong-bytes text z h = IsGroups-bytes text h.0 h.1

pub IsVarlong-some : (text : List ℕ) (z : ℤ) → IsVarlong text z → 1 ≤ length text
IsVarlong-some text z h = IsGroups-some text h.0 h.1

pub IsUvarint-bytes : (text : List ℕ) (n : ℕ) → IsUvarint text n → IsBytes text
IsUvarint-bytes text n h = IsGroups-bytes text n h.0

-- ---- what is written reads back, whatever follows

pub varlong_written : (z : ℤ) (rest : List ℕ) → FitsSigned w64 z → varlong_at (varlong_of z ++ rest) ≡ Some (z, length (varlong_of z))
varlong_written z rest fits = let s = varlong_shortest z fits in varlong_whole (varlong_of z) z rest s.0
