-- Ends in the order of their partitions: the one list of them that rises.
use Rattle.std.proofs.Common.{◌≡◌, ℕ, zero, suc, ◌+◌, ◌<◌, ◌≤◌, List, [], ◌∷◌, inl, inr, Bool, true, false, not, ◌&&◌, ◌||◌, length, get_or, IsPermutation, MatchBool, refl, ap, sym, ◌∙◌, subst, arith, add-one}
use Rattle.std.proofs.Math.Bool.{and-false}
use Rattle.std.proofs.lemmas.Cmp.{nat_list_cmp_total, int_cmp_total, then_total, on_total, eq_by_cmp_equiv, tied_itself}
use Rattle.std.proofs.lemmas.List.Elements.{All-from_recursion, recursion_from_All}
use Rattle.std.proofs.lemmas.List.Sorted.{All-permutation, IsPermutation-cons, IsPermutation-middle, IsPermutation-refl, IsPermutation-sym, IsPermutation-trans, length_permutation, list_any-IsPermutation}
use Rattle.std.proofs.lemmas.Map.Keys.{IsDistinct-from_sorted, IsDistinct-IsPermutation}
use Rattle.std.proofs.lemmas.Map.Text.{is_eq-slice_cmp}
use Rattle.std.specs.Cmp.{IsTotalOrder, tied_then}
use Rattle.std.specs.Cmp.Lexicographic.{slice_cmp}
use Rattle.std.specs.List.{list_any, AllByRecursion, IsDistinct}
use Rattle.std.specs.List.Sorted.{IsStrictlySortedBy}
use Rattle.std.specs.Ordering.{nat_cmp, int_cmp, int_eq, is_eq, is_lt, eq_by_cmp, match_ordering, ordering_reverse, ordering_then}
use Rattle.std.specs.declared.cmp.Ordering.{Ordering}
use Rattle.std.specs.declared.cmp.Ordering.TheVariants.{Less, Equal, Greater}
use Rattle.eos_base.specs.Members.{Has}
use Rattle.eos_evidence.specs.declared.ends.End.{End}
use Rattle.eos_evidence.specs.Ends.{end_cmp, are_apart, insert_end, ordered}
use Rattle.eos_evidence.specs.steps.OrderedEnds.{IsInOrder, are_of_one, AreNeighboursApart, AreNeighboursTied}

pub end_total : IsTotalOrder end_cmp
end_total = then_total (on_total (λ e. e.topic) nat_list_cmp_total) (on_total (λ e. e.partition) int_cmp_total)

abbrev AllAbove : End → List End → Type 0
AllAbove e = AllByRecursion (λ f. end_cmp e f ≡ Less)

above_too : (e f : End) (fs : List End) → end_cmp e f ≡ Less → AllAbove f fs → AllAbove e fs
above_too e f [] less all = tt
above_too e f (g ∷ gs) less all = (end_total.trans e f g less all.0, above_too e f gs less all.1)

-- ---- putting in order keeps the ends and makes them rise

not_first : (a b : Bool) → (a || b) ≡ false → a ≡ false
not_first true b h = h
not_first false b h = refl

not_second : (a b : Bool) → (a || b) ≡ false → b ≡ false
not_second true b h = absurd (cc h)
not_second false b h = h

abbrev is_tied : End → List End → Bool
is_tied e = list_any (λ f. is_eq (end_cmp e f))

inserted : (e : End) (fs : List End) → is_tied e fs ≡ false → IsPermutation (e ∷ fs) (insert_end e fs)
unfolding insert_end
inserted e [] free = IsPermutation-refl (e ∷ [])
inserted e (f ∷ fs) free = by (end_cmp e f) (not_first (is_eq (end_cmp e f)) (is_tied e fs) free) (inserted e fs (not_second (is_eq (end_cmp e f)) (is_tied e fs) free))
  where
    by : (o : Ordering) → is_eq o ≡ false → IsPermutation (e ∷ fs) (insert_end e fs)
        → IsPermutation (e ∷ f ∷ fs) (match_ordering o (e ∷ f ∷ fs) (record f { end = e.end } ∷ fs) (f ∷ insert_end e fs))
    by Less apart later = IsPermutation-refl (e ∷ f ∷ fs)
    by Equal apart later = absurd (cc apart)
    by Greater apart later = IsPermutation-trans _ _ _ (IsPermutation-sym _ _ (IsPermutation-middle (f ∷ []) e fs)) (IsPermutation-cons f _ _ later)

all_inserted : (P : End → Type 0) (e : End) (fs : List End) → is_tied e fs ≡ false → P e → AllByRecursion P fs → AllByRecursion P (insert_end e fs)
all_inserted P e fs free one all = recursion_from_All P (insert_end e fs) (All-permutation P (e ∷ fs) (insert_end e fs) (inserted e fs free) (All-from_recursion P (e ∷ fs) (one, all)))

inserted_rises : (e : End) (fs : List End) → is_tied e fs ≡ false → IsStrictlySortedBy end_cmp fs → IsStrictlySortedBy end_cmp (insert_end e fs)
unfolding insert_end IsStrictlySortedBy
inserted_rises e [] free up = (tt, tt)
inserted_rises e (f ∷ fs) free up = by (end_cmp e f) refl (inserted_rises e fs (not_second (is_eq (end_cmp e f)) (is_tied e fs) free) up.1)
  where
    by : (o : Ordering) → end_cmp e f ≡ o → IsStrictlySortedBy end_cmp (insert_end e fs)
        → IsStrictlySortedBy end_cmp (match_ordering o (e ∷ f ∷ fs) (record f { end = e.end } ∷ fs) (f ∷ insert_end e fs))
    by Less is later = ((is, above_too e f fs is up.0), up)
    by Equal is later = absurd (cc (is, free))
    by Greater is later =
        (all_inserted (λ g. end_cmp f g ≡ Less) e fs (not_second (is_eq (end_cmp e f)) (is_tied e fs) free) (end_total.antisymm f e ∙ ap ordering_reverse is) up.0, later)

no_tie : (e : End) (es : List End) → (not (is_tied e es) && are_apart es) ≡ true → is_tied e es ≡ false
no_tie e es h = by (is_tied e es) h
  where
    by : (b : Bool) → (not b && are_apart es) ≡ true → b ≡ false
    by true h = absurd (cc h)
    by false h = refl

rest_apart : (e : End) (es : List End) → (not (is_tied e es) && are_apart es) ≡ true → are_apart es ≡ true
rest_apart e es h = by (is_tied e es) h
  where
    by : (b : Bool) → (not b && are_apart es) ≡ true → are_apart es ≡ true
    by true h = absurd (cc h)
    by false h = h

pub record Ordered (es : List End) : Type 0 where
  pub same : IsPermutation es (ordered es)
  pub rises : IsStrictlySortedBy end_cmp (ordered es)

pub ordered_is : (es : List End) → are_apart es ≡ true → Ordered es
unfolding ordered IsStrictlySortedBy
ordered_is [] apart = record { same = IsPermutation-refl []; rises = tt }
ordered_is (e ∷ es) apart =
    let later = ordered_is es (rest_apart e es apart) in
    let free : is_tied e (ordered es) ≡ false = sym (list_any-IsPermutation (λ f. is_eq (end_cmp e f)) es (ordered es) later.same) ∙ no_tie e es apart in
    record {
      same = IsPermutation-trans _ _ _ (IsPermutation-cons e es (ordered es) later.same) (inserted e (ordered es) free);
      rises = inserted_rises e (ordered es) free later.rises;
    }

-- ---- two rising lists of the same ends are equal

has_itself : (es : List End) → AllByRecursion (Has es) es
has_itself [] = tt
has_itself (e ∷ es) = (inl refl, deeper es (has_itself es))
  where
    deeper : (fs : List End) → AllByRecursion (Has es) fs → AllByRecursion (Has (e ∷ es)) fs
    deeper [] h = tt
    deeper (f ∷ fs) h = (inr h.0, deeper fs h.1)

all_has : (xs ys : List End) → IsPermutation xs ys → AllByRecursion (Has xs) ys
all_has xs ys same = recursion_from_All (Has xs) ys (All-permutation (Has xs) xs ys same (All-from_recursion (Has xs) xs (has_itself xs)))

above_has : (e f : End) (fs : List End) → AllAbove e fs → Has fs f → end_cmp e f ≡ Less
above_has e f [] all has = absurd has
above_has e f (g ∷ gs) all (inl is) = subst (λ x. end_cmp e x ≡ Less) is all.0
above_has e f (g ∷ gs) all (inr later) = above_has e f gs all.1 later

not_below_itself : (e : End) → end_cmp e e ≡ Less → ⊥
not_below_itself e less = cc (less, tied_itself end_total e)

without_first : (x : End) (xs ys : List End) → AllAbove x xs → AllByRecursion (Has (x ∷ ys)) xs → AllByRecursion (Has ys) xs
without_first x [] ys above all = tt
without_first x (z ∷ zs) ys above all = (by all.0, without_first x zs ys above.1 all.1)
  where
    by : Has (x ∷ ys) z → Has ys z
    by (inl is) = absurd (not_below_itself x (subst (λ e. end_cmp x e ≡ Less) (sym is) above.0))
    by (inr has) = has

first_same : (x y : End) (xs ys : List End) → AllAbove x xs → AllAbove y ys → Has (y ∷ ys) x → Has (x ∷ xs) y → x ≡ y
first_same x y xs ys above_x above_y (inl is) there = sym is
first_same x y xs ys above_x above_y (inr here) (inl is) = is
first_same x y xs ys above_x above_y (inr here) (inr there) =
    absurd (not_below_itself x (end_total.trans x y x (above_has x y xs above_x there) (above_has y x ys above_y here)))

one_rising : (xs ys : List End) → IsStrictlySortedBy end_cmp xs → IsStrictlySortedBy end_cmp ys → AllByRecursion (Has ys) xs → AllByRecursion (Has xs) ys → xs ≡ ys
unfolding IsStrictlySortedBy
one_rising [] [] up_x up_y all_x all_y = refl
one_rising [] (y ∷ ys) up_x up_y all_x all_y = absurd all_y.0
one_rising (x ∷ xs) [] up_x up_y all_x all_y = absurd all_x.0
one_rising (x ∷ xs) (y ∷ ys) up_x up_y all_x all_y =
    let same : x ≡ y = first_same x y xs ys up_x.0 up_y.0 all_x.0 all_y.0 in
    let rest : xs ≡ ys = one_rising xs ys up_x.1 up_y.1
    (without_first x xs ys up_x.0 (subst (λ e. AllByRecursion (Has (e ∷ ys)) xs) (sym same) all_x.1))
    (without_first y ys xs up_y.0 (subst (λ e. AllByRecursion (Has (e ∷ xs)) ys) same all_y.1)) in
    λ i. same i ∷ rest i

-- ---- apart, whatever their order

none_tied : (e : End) (es : List End) → AllByRecursion (λ f. eq_by_cmp end_cmp e f ≡ false) es → is_tied e es ≡ false
none_tied e [] h = refl
none_tied e (f ∷ fs) h = rw (h.0, none_tied e fs h.1) refl

apart_from_distinct : (es : List End) → IsDistinct (eq_by_cmp end_cmp) es → are_apart es ≡ true
unfolding IsDistinct
apart_from_distinct [] h = refl
apart_from_distinct (e ∷ es) h = rw (none_tied e es h.0, apart_from_distinct es h.1) refl

each_untied : (e : End) (es : List End) → is_tied e es ≡ false → AllByRecursion (λ f. eq_by_cmp end_cmp e f ≡ false) es
each_untied e [] h = tt
each_untied e (f ∷ fs) h = (not_first (is_eq (end_cmp e f)) (is_tied e fs) h, each_untied e fs (not_second (is_eq (end_cmp e f)) (is_tied e fs) h))

distinct_from_apart : (es : List End) → are_apart es ≡ true → IsDistinct (eq_by_cmp end_cmp) es
unfolding IsDistinct
distinct_from_apart [] h = tt
distinct_from_apart (e ∷ es) h = (each_untied e es (no_tie e es h), distinct_from_apart es (rest_apart e es h))

apart_too : (xs ys : List End) → IsPermutation xs ys → are_apart xs ≡ true → are_apart ys ≡ true
apart_too xs ys same apart = apart_from_distinct ys (IsDistinct-IsPermutation (eq_by_cmp end_cmp) (eq_by_cmp_equiv end_total).symm xs ys same (distinct_from_apart xs apart))

pub apart_rising : (es : List End) → IsStrictlySortedBy end_cmp es → are_apart es ≡ true
apart_rising es up = apart_from_distinct es (IsDistinct-from_sorted end_cmp es up)

-- a rising list of the ends is the ends in order
pub in_order_is : (ends list : List End) → IsPermutation ends list → IsStrictlySortedBy end_cmp list → IsInOrder ends list
in_order_is ends list same up =
    let back = IsPermutation-sym ends list same in
    let apart = apart_too list ends back (apart_rising list up) in
    let put = ordered_is ends apart in
    record {
      apart = apart;
      list_is = one_rising list (ordered ends) up put.rises
          (all_has (ordered ends) list (IsPermutation-trans _ _ _ (IsPermutation-sym _ _ put.same) same))
          (all_has list (ordered ends) (IsPermutation-trans _ _ _ back put.same));
      ascending = up;
      shuffled = same;
      as_many = length_permutation ends list same;
    }

-- ---- after a sort

not_less : (o p q : Ordering) → is_lt (ordering_then o (ordering_then p q)) ≡ false → is_lt (ordering_then o p) ≡ false
not_less Less p q h = h
not_less Equal Less q h = h
not_less Equal Equal q h = refl
not_less Equal Greater q h = refl
not_less Greater p q h = refl

less_next : (o : Ordering) → is_lt (ordering_reverse o) ≡ false → is_eq o ≡ false → o ≡ Less
less_next Less h g = refl
less_next Equal h g = absurd (cc g)
less_next Greater h g = absurd (cc h)

all_above : (e : End) (es : List End) → ((d : End) → 0 < length es → end_cmp e (get_or es 0 d) ≡ Less) → IsStrictlySortedBy end_cmp es → AllAbove e es
unfolding IsStrictlySortedBy
all_above e [] first up = tt
all_above e (f ∷ fs) first up = (first e (omega arith), above_too e f fs (first e (omega arith)) up.0)

rising : (es : List End) → ((k : ℕ) (d : End) → suc k < length es → end_cmp (get_or es k d) (get_or es (suc k) d) ≡ Less) → IsStrictlySortedBy end_cmp es
unfolding IsStrictlySortedBy
rising [] h = tt
rising (e ∷ es) h =
    let later = rising es (λ k d lt. h (suc k) d (omega arith)) in
    (all_above e es (λ d lt. h 0 d (omega arith)) later, later)

-- ends of one partition are tied
one_is : (e f : End) → are_of_one e f ≡ is_eq (end_cmp e f)
one_is e f = ap (λ b. b && int_eq e.partition f.partition) (sym (is_eq-slice_cmp e.topic f.topic)) ∙ tied_then (slice_cmp nat_cmp e.topic f.topic) (int_cmp e.partition f.partition)

pub rising_from_sort : (es : List End) → ((k : ℕ) (d : End) → k + 1 < length es → is_lt (end_cmp (get_or es (k + 1) d) (get_or es k d)) ≡ false) → AreNeighboursApart es → IsStrictlySortedBy end_cmp es
rising_from_sort es sorted apart = rising es (λ k d lt.
    let next : k + 1 ≡ suc k = add-one k in
    less_next (end_cmp (get_or es k d) (get_or es (suc k) d))
    (ap is_lt (sym (end_total.antisymm (get_or es (suc k) d) (get_or es k d))) ∙ subst (λ n. is_lt (end_cmp (get_or es n d) (get_or es k d)) ≡ false) next (sorted k d (omega (arith, lt))))
    (sym (one_is (get_or es k d) (get_or es (suc k) d)) ∙ subst (λ n. are_of_one (get_or es k d) (get_or es n d) ≡ false) next (apart k d (omega (arith, lt)))))

tied_not_apart : (es : List End) (k : ℕ) → suc k < length es → ((d : End) → is_eq (end_cmp (get_or es k d) (get_or es (suc k) d)) ≡ true) → are_apart es ≡ false
tied_not_apart [] k lt tied = absurd (omega (arith, lt))
tied_not_apart (e ∷ []) k lt tied = absurd (omega (arith, lt))
tied_not_apart (e ∷ f ∷ fs) zero lt tied = rw (tied e) refl
tied_not_apart (e ∷ f ∷ fs) (suc k) lt tied = ap (λ b. not (is_tied e (f ∷ fs)) && b) (tied_not_apart (f ∷ fs) k (omega arith) (λ d. tied d)) ∙ and-false _

pub stands_twice : (ends list : List End) → IsPermutation ends list → AreNeighboursTied list → are_apart ends ≡ false
stands_twice ends list same tied = by (are_apart ends) refl
  where
    at : ℕ
    at = tied.0

    both : (d : End) → is_eq (end_cmp (get_or list at d) (get_or list (suc at) d)) ≡ true
    both d = sym (one_is (get_or list at d) (get_or list (suc at) d)) ∙ subst (λ n. are_of_one (get_or list at d) (get_or list n d) ≡ true) (add-one at) (tied.2 d)

    by : (b : Bool) → are_apart ends ≡ b → b ≡ false
    by false is = refl
    by true is = sym (apart_too ends list same is) ∙ tied_not_apart list at (omega (arith, tied.1)) both

-- by topic bytes, number and offset
abbrev pub whole_cmp : End → End → Ordering
whole_cmp e f = ordering_then (slice_cmp nat_cmp e.topic f.topic) (ordering_then (int_cmp e.partition f.partition) (int_cmp e.end f.end))

not_above : (e f : End) → is_lt (whole_cmp e f) ≡ false → is_lt (end_cmp e f) ≡ false
not_above e f = not_less (slice_cmp nat_cmp e.topic f.topic) (int_cmp e.partition f.partition) (int_cmp e.end f.end)

-- what a sort and a look at the neighbours give
pub put_is : (ends list : List End) (tested : Bool) → IsPermutation ends list
    → ((k : ℕ) (d : End) → 0 ≤ k → k + 1 < length list → is_lt (whole_cmp (get_or list (k + 1) d) (get_or list k d)) ≡ false)
    → MatchBool tested (AreNeighboursApart list) (AreNeighboursTied list) → MatchBool tested (IsInOrder ends list) (are_apart ends ≡ false)
put_is ends list true same sorted apart =
    in_order_is ends list same (rising_from_sort list (λ k d lt. not_above (get_or list (k + 1) d) (get_or list k d) (sorted k d (omega arith) lt)) apart)
put_is ends list false same sorted tied = stands_twice ends list same tied
