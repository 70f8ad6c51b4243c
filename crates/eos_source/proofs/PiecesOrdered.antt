-- Pieces in an order: each has its turn once.
use Rattle.std.proofs.Common.{◌≡◌, ℕ, zero, suc, ◌+◌, ◌≤◌, ◌<◌, ◌==◌, cond, Bool, true, false, List, [], ◌∷◌, ◌++◌, length, get_or, inl, inr, refl, sym, subst, ap, ◌∙◌, arith}
use Rattle.std.proofs.lemmas.Bool.{cases_lt, eqb-true, eq-eqb, ne_eqb, lt-ltb, le-ltb}
use Rattle.std.proofs.lemmas.List.{length-map, length-append, map-append}
use Rattle.std.proofs.lemmas.List.Sums.{sum_by-cons, sum_by-append}
use Rattle.std.proofs.lemmas.List.Sorted.{sum_by-IsPermutation}
use Rattle.std.specs.Prelude.{All, IsPermutation}
use Rattle.std.specs.List.{count_by, sum_by}
use Rattle.eos_source.specs.SeatViews.{AreBelow, once_below}
use Rattle.eos_source.specs.declared.order.Turn.{Turn}
use Rattle.eos_source.specs.steps.Order.{pieces_of, HaveTurns, IsOrder, ordered}
use Rattle.eos_source.proofs.PiecesDrawn.{none_in}

abbrev times : Bool → ℕ
times b = cond b 1 0

-- ---- one more

pub one_below : (n : ℕ) (xs : List ℕ) → AreBelow n xs → AreBelow (n + 1) (xs ++ n ∷ [])
one_below n xs h x =
    let both = sum_by-append (λ z. times (z == x)) xs (n ∷ []) in
    let one = sum_by-cons (λ z. times (z == x)) n [] in
    elim (cases_lt x n) [
      | inl l ↦
          let here : times (n == x) ≡ 0 = ap times (ne_eqb n x (λ e. omega (arith, e, l))) in
          let before : count_by (λ y. y == x) xs ≡ 1 = h x ∙ ap times (lt-ltb x n l) in
          let now : once_below x (n + 1) ≡ 1 = ap times (lt-ltb x (n + 1) (omega (arith, l))) in
          omega (arith, both, one, here, before, now)
      | inr r ↦
          let before : count_by (λ y. y == x) xs ≡ 0 = h x ∙ ap times (le-ltb x n r) in
          elim (cases_lt x (n + 1)) [
            | inl same ↦
                let e : n ≡ x = omega (arith, same, r) in
                let here : times (n == x) ≡ 1 = ap times (eq-eqb n x e) in
                let now : once_below x (n + 1) ≡ 1 = ap times (lt-ltb x (n + 1) same) in
                omega (arith, both, one, here, before, now)
            | inr past ↦
                let here : times (n == x) ≡ 0 = ap times (ne_eqb n x (λ e. omega (arith, e, past))) in
                let now : once_below x (n + 1) ≡ 0 = ap times (le-ltb x (n + 1) past) in
                omega (arith, both, one, here, before, now)
          ]
    ]

pub one_turn : (turns all : List Turn) (turn : Turn) → HaveTurns turns → turn.piece ≡ length turns → all ≡ turns ++ turn ∷ [] → HaveTurns all
one_turn turns all turn h e k =
    let pieces : pieces_of all ≡ pieces_of turns ++ length turns ∷ [] =
    ap pieces_of k ∙ (map-append (λ (t : Turn). t.piece) turns (turn ∷ []) ∙ ap (λ (p : ℕ). pieces_of turns ++ p ∷ []) e) in
    let many : length all ≡ length turns + 1 = ap (λ (ts : List Turn). length ts) k ∙ length-append turns (turn ∷ []) in
    subst (λ (m : ℕ). AreBelow m (pieces_of all)) (sym many) (subst (AreBelow (length turns + 1)) (sym pieces) (one_below (length turns) (pieces_of turns) h))

-- ---- sorted

times_of : (turns : List Turn) (x : ℕ) → count_by (λ y. y == x) (pieces_of turns) ≡ sum_by (λ (t : Turn). times (t.piece == x)) turns
times_of [] x = refl
times_of (t ∷ ts) x =
    let mine = sum_by-cons (λ z. times (z == x)) t.piece (pieces_of ts) in
    let theirs = sum_by-cons (λ (t : Turn). times (t.piece == x)) t ts in
    omega (arith, mine, theirs, times_of ts x)

all_sorted : (turns sorted : List Turn) → IsPermutation turns sorted → length sorted ≡ length turns
all_sorted turns sorted p = ones sorted ∙ (sum_by-IsPermutation (λ t. 1) turns sorted p ∙ sym (ones turns))
  where
    ones : (ts : List Turn) → length ts ≡ sum_by (λ t. 1) ts
    ones [] = refl
    ones (t ∷ ts) = let more = sum_by-cons (λ (u : Turn). 1) t ts in omega (arith, more, ones ts)

pub in_turn : (turns sorted : List Turn) (count : ℕ) (order : List ℕ) → HaveTurns turns → length turns ≡ count → IsPermutation turns sorted → order ≡ pieces_of sorted → IsOrder count order
in_turn turns sorted count order h e p k =
    record {
      each = λ x.
          let here : once_below x (length turns) ≡ once_below x count = ap (once_below x) e in
          ap (count_by (λ y. y == x)) k ∙ (times_of sorted x ∙ (sum_by-IsPermutation (λ (t : Turn). times (t.piece == x)) turns sorted p ∙ (sym (times_of turns x) ∙ (h x ∙ here))));
      many = ap (λ (ns : List ℕ). length ns) k ∙ (length-map sorted (λ (t : Turn). t.piece) ∙ (all_sorted turns sorted p ∙ e));
    }

-- ---- drawn in an order

-- where a number stands
place_of : (xs : List ℕ) (x : ℕ) → 1 ≤ count_by (λ y. y == x) xs → (k : ℕ) × (k < length xs) × (get_or xs k 0 ≡ x)
place_of [] x some = absurd (omega (arith, some))
place_of (y ∷ ys) x some =
    elim (y == x) as (λ b. (y == x) ≡ b → (k : ℕ) × (k < length (y ∷ ys)) × (get_or (y ∷ ys) k 0 ≡ x)) [
      | true ↦ λ e. (0, omega arith, eqb-true y x e)
      | false ↦ λ e.
          let none : times (y == x) ≡ 0 = ap times e in
          let r = place_of ys x (omega (arith, some, none, sum_by-cons (λ z. times (z == x)) y ys)) in
          (suc r.0, omega (arith, r.1), r.2)
    ] refl

stands_at : (xs : List ℕ) (x k : ℕ) → k < length xs → get_or xs k 0 ≡ x → 1 ≤ count_by (λ y. y == x) xs
stands_at [] x k lt e = absurd (omega (arith, lt))
stands_at (y ∷ ys) x zero lt e =
    let here : times (y == x) ≡ 1 = ap times (eq-eqb y x e) in
    omega (arith, here, sum_by-cons (λ z. times (z == x)) y ys)
stands_at (y ∷ ys) x (suc k) lt e = omega (arith, stands_at ys x k (omega (arith, lt)) e, sum_by-cons (λ z. times (z == x)) y ys)

-- a number that stands once has one place
one_place : (xs : List ℕ) (x i j : ℕ) → count_by (λ y. y == x) xs ≤ 1 → i < length xs → j < length xs → get_or xs i 0 ≡ x → get_or xs j 0 ≡ x → i ≡ j
one_place [] x i j few a b e f = absurd (omega (arith, a))
one_place (y ∷ ys) x zero zero few a b e f = refl
one_place (y ∷ ys) x zero (suc j) few a b e f =
    let here : times (y == x) ≡ 1 = ap times (eq-eqb y x e) in
    absurd (omega (arith, few, here, sum_by-cons (λ z. times (z == x)) y ys, stands_at ys x j (omega (arith, b)) f))
one_place (y ∷ ys) x (suc i) zero few a b e f =
    let here : times (y == x) ≡ 1 = ap times (eq-eqb y x f) in
    absurd (omega (arith, few, here, sum_by-cons (λ z. times (z == x)) y ys, stands_at ys x i (omega (arith, a)) e))
one_place (y ∷ ys) x (suc i) (suc j) few a b e f =
    let less : count_by (λ z. z == x) ys ≤ 1 = omega (arith, few, sum_by-cons (λ z. times (z == x)) y ys) in
    ap suc (one_place ys x i j less (omega (arith, a)) (omega (arith, b)) e f)

below_at : (n : ℕ) (xs : List ℕ) (k : ℕ) → AreBelow n xs → k < length xs → get_or xs k 0 < n
below_at n xs k h lt =
    elim (cases_lt (get_or xs k 0) n) [
      | inl l ↦ l
      | inr r ↦
          let none : count_by (λ y. y == get_or xs k 0) xs ≡ 0 = h (get_or xs k 0) ∙ ap times (le-ltb (get_or xs k 0) n r) in
          absurd (omega (arith, none, stands_at xs (get_or xs k 0) k lt refl))
    ]

-- the piece of a number that is drawn
pub piece_below : (count : ℕ) (order : List ℕ) (k : ℕ) → IsOrder count order → k < count → get_or order k 0 < count
piece_below count order k o lt = below_at count order k o.each (omega (arith, lt, o.many))

all_drawn : (n : ℕ) (xs drawn : List ℕ) → All (λ m. m < n) drawn → ((m : ℕ) → m < n → get_or xs m 0 < n) → All (λ m. m < n) (ordered xs drawn)
all_drawn n xs [] all h k d lt = absurd (omega (arith, lt))
all_drawn n xs (y ∷ ys) all h zero d lt = h y (all 0 y (omega arith))
all_drawn n xs (y ∷ ys) all h (suc k) d lt = all_drawn n xs ys (λ k d lt. all (suc k) d (omega (arith, lt))) h k d (omega (arith, lt))

-- as often as the place of a piece is drawn, so often is the piece
as_often : (n : ℕ) (order drawn : List ℕ) (x at : ℕ) → All (λ m. m < n) drawn → ((m : ℕ) → m < n → get_or order m 0 ≡ x → m ≡ at) → get_or order at 0 ≡ x
    → count_by (λ y. y == x) (ordered order drawn) ≡ count_by (λ y. y == at) drawn
as_often n order [] x at all one e = refl
as_often n order (y ∷ ys) x at all one e =
    let rest = as_often n order ys x at (λ k d lt. all (suc k) d (omega (arith, lt))) one e in
    let mine = sum_by-cons (λ z. times (z == x)) (get_or order y 0) (ordered order ys) in
    let theirs = sum_by-cons (λ z. times (z == at)) y ys in
    elim (y == at) as (λ b. (y == at) ≡ b → count_by (λ z. z == x) (ordered order (y ∷ ys)) ≡ count_by (λ z. z == at) (y ∷ ys)) [
      | true ↦ λ same.
          let there : times (y == at) ≡ 1 = ap times same in
          let here : times (get_or order y 0 == x) ≡ 1 = ap times (eq-eqb (get_or order y 0) x (ap (λ (m : ℕ). get_or order m 0) (eqb-true y at same) ∙ e)) in
          omega (arith, rest, mine, theirs, here, there)
      | false ↦ λ other.
          let there : times (y == at) ≡ 0 = ap times other in
          let here : times (get_or order y 0 == x) ≡ 0 =
          ap times (ne_eqb (get_or order y 0) x (λ f. absurd (unlike y at other (one y (all 0 y (omega arith)) f)))) in
          omega (arith, rest, mine, theirs, here, there)
    ] refl
  where
    unlike : (a b : ℕ) → (a == b) ≡ false → a ≡ b → ⊥
    unlike a b e f = let yes : times (a == b) ≡ 1 = ap times (eq-eqb a b f) in let no : times (a == b) ≡ 0 = ap times e in omega (arith, yes, no)

-- where each number was drawn once, so was each piece
pub each_ordered : (count : ℕ) (order drawn : List ℕ) → IsOrder count order → AreBelow count drawn → All (λ m. m < count) drawn → AreBelow count (ordered order drawn)
each_ordered count order drawn o below all x =
    elim (cases_lt x count) [
      | inl l ↦
          let once : count_by (λ y. y == x) order ≡ 1 = o.each x ∙ ap times (lt-ltb x count l) in
          let p = place_of order x (omega (arith, once)) in
          let at : p.0 < count = omega (arith, p.1, o.many) in
          as_often count order drawn x p.0 all (λ m lt e. one_place order x m p.0 (omega (arith, once)) (omega (arith, lt, o.many)) p.1 e p.2) p.2
          ∙ (below p.0 ∙ (ap times (lt-ltb p.0 count at) ∙ sym (ap times (lt-ltb x count l))))
      | inr r ↦ none_in count x (ordered order drawn) (all_drawn count order drawn all (λ m lt. below_at count order m o.each (omega (arith, lt, o.many)))) r ∙ sym (ap times (le-ltb x count r))
    ]

-- each number that was drawn is below the count
pub each_drawn : (n : ℕ) (drawn : List ℕ) → AreBelow n drawn → All (λ m. m < n) drawn
each_drawn n drawn h = from drawn (λ k lt. below_at n drawn k h lt)
  where
    from : (xs : List ℕ) → ((k : ℕ) → k < length xs → get_or xs k 0 < n) → All (λ m. m < n) xs
    from [] g k d lt = absurd (omega (arith, lt))
    from (y ∷ ys) g zero d lt = g 0 (omega arith)
    from (y ∷ ys) g (suc k) d lt = from ys (λ k lt. g (suc k) (omega (arith, lt))) k d (omega (arith, lt))
