-- Faults that are counted one after the other, and the line that their counts give.
use Rattle.std.proofs.Common.{◌≡◌, ℕ, ◌+◌, List, [], ◌∷◌, ◌++◌, ◌<◌, length, Bool, true, false, drop, get_or, append_assoc, Option, Some, None, refl, sym, ap, subst, ◌∙◌, arith, flat_map, cond, if◌then◌else◌, codes}
use Rattle.std.specs.Prelude.{⊤, ◌==◌, nat_lt}
use Rattle.std.specs.List.{filter}
use Rattle.std.specs.Fmt.{decimal}
use Rattle.std.specs.BTreeMap.{get}
use Rattle.std.specs.Ordering.{nat_cmp, is_eq}
use Rattle.std.proofs.lemmas.Bool.{ltb-true}
use Rattle.std.proofs.lemmas.List.{length-append, drop_more}
use Rattle.std.proofs.lemmas.List.Elements.{filter-append}
use Rattle.eos_text.specs.Adding.{Adds}
use Rattle.eos_verdict.specs.Counts.{has_number, first_with, kind_of, kind_text, counts_line}
use Rattle.eos_verdict.specs.VerdictNames.{phase_of, number_of, name_of}
use Rattle.eos_verdict.specs.declared.verdict.Fault.{Fault}
use Rattle.eos_verdict.specs.declared.verdict.Verdict.{Verdict}
use Rattle.eos_verdict.specs.declared.verdict.Verdict.TheVariants.{No}
use Rattle.eos_explaining.specs.declared.kinds.KindCount.{KindCount}
use Rattle.eos_explaining.specs.declared.kinds.KindCounts.{KindCounts}
use Rattle.eos_explaining.specs.steps.Kinds.{kind_line, kind_at, counts_text}
use Rattle.eos_explaining.specs.steps.Counting.{HasKind, AreKinds, joined}

-- ---- numbers

is_itself : (n : ℕ) → (n == n) ≡ true
is_itself n = grind (arith)

same_number : (m n : ℕ) → is_eq (nat_cmp m n) ≡ true → m ≡ n
same_number m n e = grind (arith)

another_number : (m n : ℕ) → is_eq (nat_cmp m n) ≡ false → (m == n) ≡ false
another_number m n e = grind (arith)

-- ---- the first with a number

first_known : (n : ℕ) (told list : List Verdict) (w : Verdict) → first_with n told ≡ Some w → first_with n (told ++ list) ≡ Some w
first_known n [] list w e = cc
first_known n (t ∷ ts) list w e = go (has_number n t) e (first_known n ts list w)
  where
    go : (b : Bool) → (if b then Some t else first_with n ts) ≡ Some w → (first_with n ts ≡ Some w → first_with n (ts ++ list) ≡ Some w)
        → (if b then Some t else first_with n (ts ++ list)) ≡ Some w
    go true h more = h
    go false h more = more h

first_more : (n : ℕ) (told list : List Verdict) → first_with n told ≡ None → first_with n (told ++ list) ≡ first_with n list
first_more n [] list e = refl
first_more n (t ∷ ts) list e = go (has_number n t) e (first_more n ts list)
  where
    go : (b : Bool) → (if b then Some t else first_with n ts) ≡ None → (first_with n ts ≡ None → first_with n (ts ++ list) ≡ first_with n list)
        → (if b then Some t else first_with n (ts ++ list)) ≡ first_with n list
    go true h more = cc
    go false h more = more h

-- ---- how many have it

abbrev many : ℕ → List Verdict → ℕ
many n told = length (filter (has_number n) told)

many_more : (n : ℕ) (told list : List Verdict) → many n (told ++ list) ≡ many n told + many n list
many_more n told list = ap length (filter-append (has_number n) told list) ∙ length-append (filter (has_number n) told) (filter (has_number n) list)

one_of : (n : ℕ) (v : Verdict) → has_number n v ≡ true → many n (v ∷ []) ≡ 1
one_of n v e = rw (e) refl

none_of : (n : ℕ) (v : Verdict) → has_number n v ≡ false → many n (v ∷ []) ≡ 0
none_of n v e = rw (e) refl

-- ---- with one more

pub kind_begun : (told : List Verdict) (f : Fault) (k : KindCount) → k.count ≡ 1 → k.phase ≡ phase_of f → k.name.now ≡ name_of f → HasKind told (number_of f) None
    → HasKind (told ++ No f ∷ []) (number_of f) (Some k)
kind_begun told f k count phase name h =
    let n = number_of f in
    let met : has_number n (No f) ≡ true = is_itself n in
    let alone : first_with n (No f ∷ []) ≡ Some (No f) = rw (met) refl in
    let more = many_more n told (No f ∷ []) in
    let one = one_of n (No f) met in
    record { first = f; stands = first_more n told (No f ∷ []) h.0 ∙ alone; number = refl; counted = omega (arith, count, more, one, h.1); phase = phase; name = name }

pub kind_more : (told : List Verdict) (f : Fault) (known k : KindCount) → k.count ≡ known.count + 1 → k.phase ≡ known.phase → k.name ≡ known.name → HasKind told (number_of f) (Some known)
    → HasKind (told ++ No f ∷ []) (number_of f) (Some k)
kind_more told f known k count phase name h =
    let n = number_of f in
    let met : has_number n (No f) ≡ true = is_itself n in
    let more = many_more n told (No f ∷ []) in
    let one = one_of n (No f) met in
    record {
      first = h.first;
      stands = first_known n told (No f ∷ []) (No h.first) h.stands;
      number = h.number;
      counted = omega (arith, count, more, one, h.counted);
      phase = phase ∙ h.phase;
      name = ap (λ x. x.now) name ∙ h.name;
    }

kind_kept : (told : List Verdict) (f : Fault) (n : ℕ) (o : Option KindCount) → has_number n (No f) ≡ false → HasKind told n o → HasKind (told ++ No f ∷ []) n o
kind_kept told f n None other h =
    let more = many_more n told (No f ∷ []) in
    let none = none_of n (No f) other in
    let alone : first_with n (No f ∷ []) ≡ None = rw (other) refl in
    (first_more n told (No f ∷ []) h.0 ∙ alone, omega (arith, more, none, h.1))
kind_kept told f n (Some k) other h =
    let more = many_more n told (No f ∷ []) in
    let none = none_of n (No f) other in
    record { first = h.first; stands = first_known n told (No f ∷ []) (No h.first) h.stands; number = h.number; counted = omega (arith, more, none, h.counted); phase = h.phase; name = h.name }

pub kinds_more : (told : List Verdict) (f : Fault) (old new : KindCounts) (k : KindCount) → AreKinds told old → new.all ≡ old.all + 1 → (number_of f < 13 → HasKind (told ++ No f ∷ []) (number_of f) (Some k))
    → ((n : ℕ) → get nat_cmp new.kinds n ≡ cond (is_eq (nat_cmp (number_of f) n)) (Some k) (get nat_cmp old.kinds n)) → AreKinds (told ++ No f ∷ []) new
kinds_more told f old new k are all has put = record {
  all = omega (arith, all, are.all, length-append told (No f ∷ []));
  each = λ n lt. subst (HasKind (told ++ No f ∷ []) n) (sym (put n)) (go n lt (is_eq (nat_cmp (number_of f) n)) refl);
}
  where
    go : (n : ℕ) → n < 13 → (b : Bool) → is_eq (nat_cmp (number_of f) n) ≡ b → HasKind (told ++ No f ∷ []) n (cond b (Some k) (get nat_cmp old.kinds n))
    go n lt true e = let same = same_number (number_of f) n e in subst (λ m. HasKind (told ++ No f ∷ []) m (Some k)) same (has (subst (λ m. m < 13) (sym same) lt))
    go n lt false e = kind_kept told f n (get nat_cmp old.kinds n) (another_number (number_of f) n e) (are.each n lt)

-- ---- with others

kind_joined : (told list : List Verdict) (n : ℕ) (known more : Option KindCount) → HasKind told n known → HasKind list n more → HasKind (told ++ list) n (joined known more)
kind_joined told list n None None h k = let all = many_more n told list in (first_more n told list h.0 ∙ k.0, omega (arith, all, h.1, k.1))
kind_joined told list n None (Some m) h k =
    let all = many_more n told list in
    record { first = k.first; stands = first_more n told list h.0 ∙ k.stands; number = k.number; counted = omega (arith, all, h.1, k.counted); phase = k.phase; name = k.name }
kind_joined told list n (Some o) None h k =
    let all = many_more n told list in
    record { first = h.first; stands = first_known n told list (No h.first) h.stands; number = h.number; counted = omega (arith, all, h.counted, k.1); phase = h.phase; name = h.name }
kind_joined told list n (Some o) (Some m) h k =
    let all = many_more n told list in
    record { first = h.first; stands = first_known n told list (No h.first) h.stands; number = h.number; counted = omega (arith, all, h.counted, k.counted); phase = h.phase; name = h.name }

pub kinds_joined : (told list : List Verdict) (old more new : KindCounts) → AreKinds told old → AreKinds list more → new.all ≡ old.all + more.all
    → ((n : ℕ) → n < 13 → get nat_cmp new.kinds n ≡ joined (get nat_cmp old.kinds n) (get nat_cmp more.kinds n)) → AreKinds (told ++ list) new
kinds_joined told list old more new are others all put = record {
  all = omega (arith, all, are.all, others.all, length-append told list);
  each = λ n lt. subst (HasKind (told ++ list) n) (sym (put n lt)) (kind_joined told list n (get nat_cmp old.kinds n) (get nat_cmp more.kinds n) (are.each n lt) (others.each n lt));
}

-- ---- their line

kind_said : (told : List Verdict) (n : ℕ) (o : Option KindCount) → HasKind told n o → kind_line n o ≡ kind_text told n
kind_said told n None h = sym (ap (kind_of (many n told)) h.0)
kind_said told n (Some k) h =
    let number = sym h.number in
    (λ i. (codes ", " ++ decimal (h.counted i)) ++ ((codes " of " ++ decimal (h.phase i)) ++ ((codes "." ++ decimal (number i)) ++ (codes " " ++ h.name i))))
    ∙ sym (ap (kind_of (many n told)) h.stands)

-- no number is greater than 12
abbrev AreNumbers : List ℕ → Type 0
AreNumbers [] = ⊤
AreNumbers (n ∷ ns) = (nat_lt n 13 ≡ true) × AreNumbers ns

all_said : (told : List Verdict) (counts : KindCounts) → AreKinds told counts → (ns : List ℕ) → AreNumbers ns → flat_map (kind_at counts) ns ≡ flat_map (kind_text told) ns
all_said told counts are [] up = refl
all_said told counts are (n ∷ ns) up =
    let one = kind_said told n (get nat_cmp counts.kinds n) (are.each n (ltb-true n 13 up.0)) in
    let rest = all_said told counts are ns up.1 in
    λ i. one i ++ rest i

pub kinds_pushed : (f : ℕ → List ℕ) (numbers : List ℕ) (i d : ℕ) (old out new : List ℕ) → i < length numbers → out ++ flat_map f (drop i numbers) ≡ old ++ flat_map f numbers
    → Adds out new (f (get_or numbers i d)) → new ++ flat_map f (drop (i + 1) numbers) ≡ old ++ flat_map f numbers
kinds_pushed f numbers i d old out new lt rest adds =
    let left = flat_map f (drop (i + 1) numbers) in
    ap (λ (l : List ℕ). l ++ left) adds.whole
    ∙ (append_assoc out (f (get_or numbers i d)) left ∙ (ap (λ (l : List ℕ). out ++ flat_map f l) (sym (drop_more numbers i d lt)) ∙ rest))

pub kinds_said : (told : List Verdict) (counts : KindCounts) → AreKinds told counts → counts_text counts ≡ counts_line told
unfolding counts_text counts_line
kinds_said told counts are =
    let each = all_said told counts are (1 ∷ 2 ∷ 3 ∷ 4 ∷ 5 ∷ 6 ∷ 7 ∷ 8 ∷ 9 ∷ 10 ∷ 11 ∷ 12 ∷ []) (refl, (refl, (refl, (refl, (refl, (refl, (refl, (refl, (refl, (refl, (refl, (refl, tt)))))))))))) in
    λ i. (codes "Faults: " ++ decimal (are.all i)) ++ (codes " in all" ++ (each i ++ codes "\n"))
