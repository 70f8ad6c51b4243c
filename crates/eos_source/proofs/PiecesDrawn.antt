-- What all threads drew and read are the pieces, each once, where one of them found that none is left.
use Rattle.std.proofs.Common.{◌≡◌, ℕ, zero, suc, ◌≤◌, ◌<◌, ◌==◌, cond, Bool, true, false, List, [], ◌∷◌, ◌++◌, length, map, get_or, Result, Ok, Err, inl, inr, refl, sym, subst, ap, ◌∙◌, arith}
use Rattle.std.proofs.lemmas.Bool.{cases_lt, lt-ltb, le-ltb, ne_eqb, false≢true}
use Rattle.std.proofs.lemmas.List.{map-append, length-append}
use Rattle.std.proofs.lemmas.List.Sums.{sum_by-cons, sum_by-append}
use Rattle.std.specs.Prelude.{All, Any, IsOk, IfOk}
use Rattle.std.specs.List.{count_by}
use Rattle.eos_source.specs.declared.seats.Stint.{Stint}
use Rattle.eos_source.specs.steps.Order.{ordered}
use Rattle.eos_source.specs.steps.Seats.{numbers_in, all_numbers, LeavesNone}
use Rattle.eos_source.specs.SeatViews.{Counter, SeatView, AreBelow, drawn_of_all}

-- ---- lists that grow by one

pub mapped_more : {A B : Type 0} (f : A → B) (ys zs : List B) (xs : List A) (x : A) → zs ≡ ys ++ f x ∷ [] → ys ≡ map f xs → zs ≡ map f (xs ++ x ∷ [])
mapped_more f ys zs xs x e h = e ∙ (ap (λ l. l ++ f x ∷ []) h ∙ sym (map-append f xs (x ∷ [])))

module _ {X : Type 0} (P : X → Type 0) where
  more_at : (xs : List X) (y x : X) (k : ℕ) → k < length xs → get_or xs k y ≡ y → (k < length (xs ++ x ∷ [])) × (get_or (xs ++ x ∷ []) k y ≡ y)
  more_at [] y x k lt at = absurd (omega (arith, lt))
  more_at (z ∷ zs) y x zero lt at = (omega arith, at)
  more_at (z ∷ zs) y x (suc k) lt at = let r = more_at zs y x k (omega (arith, lt)) at in (omega (arith, r.0), r.1)

  pub any_more : (xs : List X) (x : X) → Any P xs → Any P (xs ++ x ∷ [])
  any_more xs x any = let r = more_at xs any.1 x any.0 any.2 any.3 in (any.0, any.1, r.0, r.1, any.4)

  pub any_last : (xs : List X) (x : X) → P x → Any P (xs ++ x ∷ [])
  any_last [] x p = (0, x, omega arith, refl, p)
  any_last (z ∷ zs) x p = let r = any_last zs x p in (suc r.0, r.1, omega (arith, r.2), r.3, r.4)

  pub all_both : (xs ys : List X) → All P xs → All P ys → All P (xs ++ ys)
  all_both [] ys a b k d lt = b k d lt
  all_both (x ∷ xs) ys a b zero d lt = a 0 d (omega arith)
  all_both (x ∷ xs) ys a b (suc k) d lt = all_both xs ys (λ k d lt. a (suc k) d (omega (arith, lt))) b k d (omega (arith, lt))

  all_one : (x : X) → P x → All P (x ∷ [])
  all_one x p zero d lt = p
  all_one x p (suc k) d lt = absurd (omega (arith, lt))

  pub all_last : (xs : List X) (x : X) → All P xs → P x → All P (xs ++ x ∷ [])
  all_last xs x all p = all_both xs (x ∷ []) all (all_one x p)

pub all_map : {X Y : Type 0} (f : X → Y) (P : Y → Type 0) (xs : List X) → All (λ x. P (f x)) xs → All P (map f xs)
all_map f P [] h k d lt = absurd (omega (arith, lt))
all_map f P (x ∷ xs) h zero d lt = h 0 x (omega arith)
all_map f P (x ∷ xs) h (suc k) d lt = all_map f P xs (λ k d lt. h (suc k) d (omega (arith, lt))) k d (omega (arith, lt))

-- ---- the numbers

-- how often a number stands that passes this test
abbrev times : Bool → ℕ
times b = cond b 1 0

pub none_in : (n x : ℕ) (xs : List ℕ) → All (λ m. m < n) xs → n ≤ x → count_by (λ y. y == x) xs ≡ 0
none_in n x [] all le = refl
none_in n x (y ∷ ys) all le =
    let other : (y == x) ≡ false = ne_eqb y x (λ e. omega (arith, e, le, all 0 y (omega arith))) in
    let none : times (y == x) ≡ 0 = ap times other in
    omega (arith, none, sum_by-cons (λ z. times (z == x)) y ys, none_in n x ys (λ k d lt. all (suc k) d (omega (arith, lt))) le)

enough : (n : ℕ) (drawn : List ℕ) → n ≤ length drawn → ((x : ℕ) → n ≤ x → count_by (λ y. y == x) drawn ≡ 0) → AreBelow (length drawn) drawn → AreBelow n drawn
enough n drawn le none below x =
    elim (cases_lt x n) [
      | inl l ↦ below x ∙ (ap times (lt-ltb x (length drawn) (omega (arith, l, le))) ∙ sym (ap times (lt-ltb x n l)))
      | inr r ↦ none x r ∙ sym (ap times (le-ltb x n r))
    ]

if_ok : {T E : Type 0} (r : Result T E) (Q : Type 0) → IsOk r → IfOk r (λ done. Q) → Q
if_ok (Ok t) Q ok h = h
if_ok (Err e) Q ok h = absurd (false≢true ok)

module _ {F : Type 0} where
  pub numbers_drawn : (order : List ℕ) (stints : List (Stint F)) → All (λ s. numbers_in s.read.items ≡ ordered order s.seat.drawn) stints
      → all_numbers (map (λ s. s.read) stints) ≡ ordered order (drawn_of_all (map (λ s. s.seat) stints))
  numbers_drawn order [] h = refl
  numbers_drawn order (s ∷ ss) h =
      ap (λ xs. xs ++ all_numbers (map (λ s. s.read) ss)) (h 0 s (omega arith))
      ∙ (ap (λ xs. ordered order s.seat.drawn ++ xs) (numbers_drawn order ss (λ k d lt. h (suc k) d (omega (arith, lt))))
      ∙ sym (map-append (λ (n : ℕ). get_or order n 0) s.seat.drawn (drawn_of_all (map (λ s. s.seat) ss))))

  seat_at : (stints : List (Stint F)) (k : ℕ) (s : Stint F) → k < length stints → get_or stints k s ≡ s
      → (k < length (map (λ s. s.seat) stints)) × (get_or (map (λ s. s.seat) stints) k s.seat ≡ s.seat) × (length s.seat.drawn ≤ length (drawn_of_all (map (λ s. s.seat) stints)))
  seat_at [] k s lt at = absurd (omega (arith, lt))
  seat_at (z ∷ zs) zero s lt at =
      let same : length z.seat.drawn ≡ length s.seat.drawn = ap (λ (t : Stint F). length t.seat.drawn) at in
      (omega arith, ap (λ (t : Stint F). t.seat) at, omega (arith, same, length-append z.seat.drawn (drawn_of_all (map (λ s. s.seat) zs))))
  seat_at (z ∷ zs) (suc k) s lt at =
      let r = seat_at zs k s (omega (arith, lt)) at in
      (omega (arith, r.0), r.1, omega (arith, r.2, length-append z.seat.drawn (drawn_of_all (map (λ s. s.seat) zs))))

  none_past : (n x : ℕ) (stints : List (Stint F)) → All (λ s. All (λ m. m < n) s.seat.drawn) stints → n ≤ x → count_by (λ y. y == x) (drawn_of_all (map (λ s. s.seat) stints)) ≡ 0
  none_past n x [] all le = refl
  none_past n x (s ∷ ss) all le =
      let here = none_in n x s.seat.drawn (all 0 s (omega arith)) le in
      let others = none_past n x ss (λ k d lt. all (suc k) d (omega (arith, lt))) le in
      sum_by-append (λ z. times (z == x)) s.seat.drawn (drawn_of_all (map (λ s. s.seat) ss)) ∙ omega (arith, here, others)

  -- what of a stint is asked of each seat, in terms of these tickets
  pub leaves_none : (of : Counter) (s : Stint F) → s.seat.of ≡ of → IfOk s.end (λ done. LeavesNone s.seat) → IfOk s.end (λ done. s.seat.is_done ≡ false → of.count ≤ length s.seat.drawn)
  leaves_none of s made h = subst (λ (o : Counter). IfOk s.end (λ done. s.seat.is_done ≡ false → o.count ≤ length s.seat.drawn)) made h

  -- one of the seats found none left, or has drawn as many as there are
  pub each_once : (n : ℕ) (stints : List (Stint F)) (drawn : List ℕ) → drawn ≡ drawn_of_all (map (λ s. s.seat) stints) → AreBelow (length drawn) drawn
      → (Any (λ (p : SeatView). p.is_done ≡ true) (map (λ s. s.seat) stints) → length drawn ≡ n)
      → All (λ s. All (λ m. m < n) s.seat.drawn) stints → All (λ s. IfOk s.end (λ done. s.seat.is_done ≡ false → n ≤ length s.seat.drawn)) stints
      → Any (λ s. IsOk s.end) stints → AreBelow n drawn
  each_once n stints drawn lists below left there ended any =
      let s = any.1 in
      let at = seat_at stints any.0 s any.2 any.3 in
      let here : IfOk s.end (λ done. s.seat.is_done ≡ false → n ≤ length s.seat.drawn) =
      subst (λ (t : Stint F). IfOk t.end (λ done. t.seat.is_done ≡ false → n ≤ length t.seat.drawn)) any.3 (ended any.0 s any.2) in
      elim s.seat.is_done as (λ b. s.seat.is_done ≡ b → AreBelow n drawn) [
        | true ↦ λ e. subst (λ (m : ℕ). AreBelow m drawn) (left (any.0, s.seat, at.0, at.1, e)) below
        | false ↦ λ e.
            let most : n ≤ length s.seat.drawn = if_ok s.end (s.seat.is_done ≡ false → n ≤ length s.seat.drawn) any.4 here e in
            enough n drawn (omega (arith, most, at.2, ap length lists)) (λ x le. ap (count_by (λ y. y == x)) lists ∙ none_past n x stints there le) below
      ] refl
