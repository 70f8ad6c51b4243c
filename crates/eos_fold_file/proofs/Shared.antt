-- How many first bytes a text shares with the one before.
use Rattle.std.proofs.Common.{◌≡◌, ℕ, zero, suc, ◌+◌, ◌<◌, ◌≤◌, ◌^◌, Bool, true, false, eqb, ltb, not, cond, List, [], ◌∷◌, ◌++◌, length, take, drop, get_or, Ok, Err, refl, sym, ap, ◌∙◌, subst, arith}
use Rattle.std.specs.Prelude.{nat_eq, min}
use Rattle.std.specs.List.{common_prefix_len}
use Rattle.std.proofs.lemmas.Bool.{eqb-true, eq-eqb, ne_eqb, lt-ltb, ltb-true}
use Rattle.std.proofs.Math.ListN.{drop_of_length-le}
use Rattle.std.proofs.lemmas.List.{take-append-drop, take-append-le, length-append, length-take, length-take-le, drop_at, drop_more, get_or-take, take_min}
use Rattle.std.proofs.lemmas.List.Sums.{common_prefix_len-le}
use Rattle.eos_fold_file.specs.declared.fault.FoldFault.TheVariants as faults
use Rattle.eos_fold_file.specs.Texts.{most_shared, shared, is_joined, joined}
use Rattle.eos_fold_file.proofs.Takes.{and_true, must_ok}

one_more : (m n y : ℕ) (xs ys : List ℕ) → m ≡ suc n → take n xs ≡ take n ys → take m (y ∷ xs) ≡ take m (y ∷ ys)
one_more m n y xs ys e h = rw e (ap (λ (zs : List ℕ). y ∷ zs) h)

common_front : (xs ys : List ℕ) → take (common_prefix_len nat_eq xs ys) xs ≡ take (common_prefix_len nat_eq xs ys) ys
common_front [] ys = refl
common_front (x ∷ xs) [] = refl
common_front (x ∷ xs) (y ∷ ys) = step (eqb x y) refl (common_front xs ys)
  where
    step : (b : Bool) → eqb x y ≡ b → take (common_prefix_len nat_eq xs ys) xs ≡ take (common_prefix_len nat_eq xs ys) ys
        → take (cond b (1 + common_prefix_len nat_eq xs ys) 0) (x ∷ xs) ≡ take (cond b (1 + common_prefix_len nat_eq xs ys) 0) (y ∷ ys)
    step false e h = refl
    step true e h = rw (eqb-true x y e) (one_more (1 + common_prefix_len nat_eq xs ys) (common_prefix_len nat_eq xs ys) y xs ys (omega arith) h)

-- one of both was read to its end
pub common_done : (xs ys : List ℕ) (i most more : ℕ) → most ≡ min (length xs) (length ys) → most ≤ i → common_prefix_len nat_eq xs ys ≡ i + more → most ≡ common_prefix_len nat_eq xs ys
common_done xs ys i most more e le so_far = let h = common_prefix_len-le nat_eq xs ys in omega (arith, h.0, h.1, e, le, so_far)

pub shared_before : (before text : List ℕ) → shared before text ≤ length (take (most_shared (length text)) before)
shared_before before text = (common_prefix_len-le nat_eq (take (most_shared (length text)) before) text).0

pub shared_within : (before text : List ℕ) → shared before text ≤ length before
shared_within before text = omega (arith, shared_before before text, length-take (most_shared (length text)) before)

shared_most : (before text : List ℕ) → shared before text ≤ most_shared (length text)
shared_most before text = omega (arith, shared_before before text, length-take (most_shared (length text)) before)

most_few : (len : ℕ) → most_shared len ≤ 127
most_few len = omega arith

pub shared_few : (before text : List ℕ) → shared before text ≤ 127
shared_few before text = omega (arith, shared_most before text, most_few (length text))

pub shared_rest : (before text : List ℕ) → shared before text ≤ length text
shared_rest before text = (common_prefix_len-le nat_eq (take (most_shared (length text)) before) text).1

-- as the code cuts the text before
pub shared_is : (before text : List ℕ) → common_prefix_len nat_eq (take (min (most_shared (length text)) (length before)) before) text ≡ shared before text
shared_is before text = ap (λ (front : List ℕ). common_prefix_len nat_eq front text) (take_min (most_shared (length text)) before)

shared_front : (before text : List ℕ) → take (shared before text) before ≡ take (shared before text) text
shared_front before text =
    let n = shared before text in
    let m = most_shared (length text) in
    sym (ap (take n) (take-append-drop m before)) ∙ (take-append-le n (take m before) (drop m before) (shared_before before text) ∙ common_front (take m before) text)

pub rejoined : (before text : List ℕ) → take (shared before text) before ++ drop (shared before text) text ≡ text
rejoined before text = rw (shared_front before text) (take-append-drop (shared before text) text)

-- ---- joining

pub record IsJoined (before : List ℕ) (count : ℕ) (rest text : List ℕ) : Type 0 where
  pub count_is : shared before text ≡ count
  pub rest_is : drop count text ≡ rest
  pub long : length text < 2 ^ 63

pub joined_told : (before : List ℕ) (count : ℕ) (rest text : List ℕ) → joined before count rest ≡ Ok text → IsJoined before count rest text
joined_told before count rest text e =
    let whole = take count before ++ rest in
    let m = must_ok (is_joined before count whole) faults.Record whole text e in
    let b = and_true (eqb (shared before whole) count) (ltb (length whole) (2 ^ 63)) m.0 in
    let same : shared before whole ≡ count = eqb-true (shared before whole) count b.0 in
    let few : count ≤ length before = omega (arith, same, shared_within before whole) in
    subst (IsJoined before count rest) m.1 (record {
      count_is = same;
      rest_is = drop_at (take count before) rest count (length-take-le count before few);
      long = ltb-true (length whole) (2 ^ 63) b.1;
    })

pub joined_holds : (before text : List ℕ) → length text < 2 ^ 63 → joined before (shared before text) (drop (shared before text) text) ≡ Ok text
joined_holds before text lt = rw (rejoined before text, eq-eqb (shared before text) (shared before text) refl, lt-ltb (length text) (2 ^ 63) lt) refl

pub joined_far : (before : List ℕ) (count : ℕ) (rest : List ℕ) → length before < count → joined before count rest ≡ Err faults.Record
joined_far before count rest lt =
    let whole = take count before ++ rest in
    rw (ne_eqb (shared before whole) count (λ q. omega (arith, q, shared_within before whole, lt))) refl

-- ---- whether a joined text shares no more

zero_more : (n : ℕ) → n ≡ 0 + n
zero_more n = omega arith

common_from : (front rest : List ℕ) (count : ℕ) → count ≤ length front → common_prefix_len nat_eq front (take count front ++ rest) ≡ count + common_prefix_len nat_eq (drop count front) rest
common_from front rest zero le = zero_more (common_prefix_len nat_eq front rest)
common_from [] rest (suc n) le = absurd (omega arith)
common_from (x ∷ xs) rest (suc n) le = let more = common_from xs rest n (omega arith) in rw (eq-eqb x x refl) (omega (arith, more))

joined_len : (before rest : List ℕ) (count : ℕ) → count ≤ length before → length (take count before ++ rest) ≡ count + length rest
joined_len before rest count le = omega (arith, length-append (take count before) rest, length-take-le count before le)

-- so many of the text before, and as many more as both have in common from there on
joined_from : (before rest : List ℕ) (count most : ℕ) → most ≡ most_shared (count + length rest) → count ≤ length before → count ≤ most
    → shared before (take count before ++ rest) ≡ count + common_prefix_len nat_eq (drop count (take most before)) rest
joined_from before rest count most is le few =
    let whole : List ℕ = take count before ++ rest in
    let front : List ℕ = take most before in
    let within : count ≤ length front = omega (arith, length-take most before, le, few) in
    let cut : take count before ≡ take count front = sym (ap (take count) (take-append-drop most before)) ∙ take-append-le count front (drop most before) within in
    let limit : most_shared (length whole) ≡ most = ap most_shared (joined_len before rest count le) ∙ sym is in
    ap (λ (n : ℕ). common_prefix_len nat_eq (take n before) whole) limit ∙ (ap (λ (xs : List ℕ). common_prefix_len nat_eq front (xs ++ rest)) cut ∙ common_from front rest count within)

pub joined_many : (before rest : List ℕ) (count most : ℕ) → most ≡ most_shared (count + length rest) → count ≤ length before → most < count → eqb (shared before (take count before ++ rest)) count ≡ false
joined_many before rest count most is le lt =
    let whole : List ℕ = take count before ++ rest in
    let limit : most_shared (length whole) ≡ most = ap most_shared (joined_len before rest count le) ∙ sym is in
    let few : shared before whole ≤ most = subst (λ (n : ℕ). shared before whole ≤ n) limit (shared_most before whole) in
    ne_eqb (shared before whole) count (λ q. omega (arith, q, few, lt))

-- nothing more can be shared
joined_last : (before rest : List ℕ) (count most : ℕ) → most ≡ most_shared (count + length rest) → count ≤ length before → count ≤ most → length (take most before) ≤ count
    → eqb (shared before (take count before ++ rest)) count ≡ true
joined_last before rest count most is le few last =
    let none : drop count (take most before) ≡ [] = drop_of_length-le (take most before) last in
    let e = joined_from before rest count most is le few ∙ ap (λ (xs : List ℕ). count + common_prefix_len nat_eq xs rest) none in
    eq-eqb (shared before (take count before ++ rest)) count (e ∙ omega arith)

pub joined_top : (before rest : List ℕ) (count most : ℕ) → most ≡ most_shared (count + length rest) → count ≤ length before → count ≡ most → eqb (shared before (take count before ++ rest)) count ≡ true
joined_top before rest count most is le top = joined_last before rest count most is le (omega (arith, top)) (omega (arith, length-take most before, top))

pub joined_whole : (before rest : List ℕ) (count most : ℕ) → most ≡ most_shared (count + length rest) → count ≤ most → count ≡ length before → eqb (shared before (take count before ++ rest)) count ≡ true
joined_whole before rest count most is few all = joined_last before rest count most is (omega (arith, all)) few (omega (arith, length-take most before, all))

no_rest : (xs : List ℕ) → common_prefix_len nat_eq xs [] ≡ 0
no_rest [] = refl
no_rest (x ∷ xs) = refl

pub joined_alone : (before rest : List ℕ) (count most : ℕ) → most ≡ most_shared (count + length rest) → count ≤ length before → count ≤ most → length rest ≡ 0
    → eqb (shared before (take count before ++ rest)) count ≡ true
joined_alone before [] count most is le few none =
    let more = no_rest (drop count (take most before)) in
    eq-eqb (shared before (take count before ++ [])) count (omega (arith, joined_from before [] count most is le few, more))
joined_alone before (r ∷ rs) count most is le few none = absurd (omega arith)

by_next : (b : Bool) (count k n : ℕ) → n ≡ count + cond b (1 + k) 0 → eqb n count ≡ not b
by_next true count k n e = ne_eqb n count (λ q. omega (arith, e, q))
by_next false count k n e = eq-eqb n count (omega (arith, e))

pub joined_next : (before rest : List ℕ) (count most : ℕ) → most ≡ most_shared (count + length rest) → count < length before → count < most → 0 < length rest
    → eqb (shared before (take count before ++ rest)) count ≡ not (eqb (get_or before count 0) (get_or rest 0 0))
joined_next before [] count most is lt few some = absurd (omega arith)
joined_next before (r ∷ rs) count most is lt few some =
    let front : List ℕ = take most before in
    let within : count < length front = omega (arith, length-take most before, lt, few) in
    let here : drop count front ≡ get_or before count 0 ∷ drop (count + 1) front = drop_more front count 0 within ∙ ap (λ (b : ℕ). b ∷ drop (count + 1) front) (get_or-take most before count 0 few) in
    let e = joined_from before (r ∷ rs) count most is (omega arith) (omega arith) ∙ ap (λ (xs : List ℕ). count + common_prefix_len nat_eq xs (r ∷ rs)) here in
    by_next (eqb (get_or before count 0) r) count (common_prefix_len nat_eq (drop (count + 1) front) rs) (shared before (take count before ++ r ∷ rs)) e

pub joined_fewer : (before : List ℕ) (count : ℕ) (rest : List ℕ) → eqb (shared before (take count before ++ rest)) count ≡ false → joined before count rest ≡ Err faults.Record
joined_fewer before count rest e = rw e refl

pub joined_some : (before : List ℕ) (count : ℕ) (rest text : List ℕ) → eqb (shared before (take count before ++ rest)) count ≡ true → text ≡ take count before ++ rest → length text < 2 ^ 63 → joined before count rest ≡ Ok text
joined_some before count rest text e is lt =
    let short : length (take count before ++ rest) < 2 ^ 63 = subst (λ (xs : List ℕ). length xs < 2 ^ 63) is lt in
    rw (e, lt-ltb (length (take count before ++ rest)) (2 ^ 63) short) (ap (λ (xs : List ℕ). Ok xs) (sym is))
