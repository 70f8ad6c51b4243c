-- A draw and a split keep the rule of the tickets.
use Rattle.std.proofs.Common.{◌≡◌, ℕ, ◌+◌, ◌%◌, ◌^◌, ◌<◌, ◌≤◌, ◌==◌, min, Bool, true, false, List, [], ◌∷◌, ◌++◌, length, set, refl, sym, ap, subst, ◌∙◌, inl, inr, ⊎_elim, arith}
use Rattle.std.specs.Prelude.{nat_lt, slice_index, slice_set, if◌then◌else◌, cond}
use Rattle.std.specs.List.{count_by}
use Rattle.std.proofs.lemmas.Bool.{ltb-true, ltb-false, lt-ltb, le-ltb, eq-eqb, ne_eqb, cases_lt}
use Rattle.std.proofs.lemmas.List.Sums.{sum_by_push}
use Rattle.std.proofs.lemmas.List.{length-append}
use Rattle.std.proofs.Math.Nat.{min-eq_left, min-eq_right, min-le_right, mod-eq_of_lt}
use mathlib.Core.Option.{some}
use lib.ListN.{get_elem?}
use Rattle.atomic_table.specs.Table.{State, Me, keeps, stepped, Allows, Splits}
use Rattle.atomic_table.proofs.Lists.{at_set, at_snoc}
use Rattle.eos_source.specs.declared.rule.Limits.{Limits}
use Rattle.eos_source.specs.declared.rule.View.{View}
use Rattle.eos_source.specs.SeatViews.{once_below}
use Rattle.eos_source.specs.TicketRule.{times_drawn, drawn_count, allowances, all_parts, Fits, KeepsRule, drawn_by, one_less, newcomer}
use Rattle.eos_source.proofs.SeatSums.{sum_by_set}

word_set : (ws : List ℕ) (n : ℕ) → length ws ≡ 1 → (slice_index (slice_set ws 0 n) 0 ≡ n) × (length (slice_set ws 0 n) ≡ 1)
word_set [] n e = absurd (omega arith)
word_set (w ∷ ws) n e = (refl, e)

-- one number more is below
once_more : (x n : ℕ) → once_below x n + cond (n == x) 1 0 ≡ once_below x (n + 1)
once_more x n = elim (cases_lt x n) [
  | inl less ↦ rw (lt-ltb x n less, lt-ltb x (n + 1) (omega (arith, less)), ne_eqb n x (λ e. omega (arith, less, e))) refl
  | inr more ↦ elim (cases_lt n x) [
    | inl above ↦ rw (le-ltb x n more, le-ltb x (n + 1) (omega (arith, above)), ne_eqb n x (λ e. omega (arith, above, e))) refl
    | inr same ↦ rw (le-ltb x n more, lt-ltb x (n + 1) (omega (arith, same)), eq-eqb n x (omega (arith, more, same))) refl
  ]
]

-- what is known of each seat, after one of which the same is known
pub still_fits : (key : Limits) (views : List View) (id : ℕ) (w : View) → Fits key w → ((seat : ℕ) (v : View) → get_elem? views seat ≡ some v → Fits key v)
    → (seat : ℕ) (v : View) → get_elem? (set views id w) seat ≡ some v → Fits key v
still_fits key views id w c fits seat v e = ⊎_elim (λ t. subst (Fits key) t.1 c) (λ t. fits seat v t.1) (at_set views id seat w v e)

-- what the rule says of the word and the views
pub record Facts (key : Limits) (w : ℕ) (views : List View) : Type 0 where
  pub limits : (key.count ≤ 65536) × (key.workers ≤ 64)
  pub each_once : (x : ℕ) → times_drawn x views ≡ once_below x (min w key.count)
  pub all_drawn : drawn_count views ≡ min w key.count
  pub balance : w + allowances views ≡ drawn_count views + key.workers
  pub shared : all_parts views ≡ key.workers
  pub each_fits : (seat : ℕ) (v : View) → get_elem? views seat ≡ some v → Fits key v

pub facts_of : (key : Limits) (s : State (Unit {0}) View) → KeepsRule key s → Facts key (slice_index s.words 0) s.views
facts_of key s r = record { limits = r.limits; each_once = r.each_once; all_drawn = r.all_drawn; balance = r.balance; shared = r.shared; each_fits = r.each_fits }

pub rule_of : (key : Limits) (s : State (Unit {0}) View) (w : ℕ) → length s.words ≡ 1 → slice_index s.words 0 ≡ w → Facts key w s.views → KeepsRule key s
rule_of key s w one e f =
    let g : Facts key (slice_index s.words 0) s.views = subst (λ n. Facts key n s.views) (sym e) f in
    record { one_word = one; limits = g.limits; each_once = g.each_once; all_drawn = g.all_drawn; balance = g.balance; shared = g.shared; each_fits = g.each_fits }

number_drawn : (key : Limits) (w : ℕ) (views : List View) (id : ℕ) (v : View) → Facts key w views → get_elem? views id ≡ some v → v.parts ≡ 1 → w < key.count
    → Facts key (w + 1) (set views id (record v { drawn = v.drawn ++ w ∷ [] }))
number_drawn key w views id v f at part less =
    let next : View = record v { drawn = v.drawn ++ w ∷ [] } in
    let here : min w key.count ≡ w = min-eq_left (omega (arith, less)) in
    let there : min (w + 1) key.count ≡ w + 1 = min-eq_left (omega (arith, less)) in
    let count : drawn_count (set views id next) ≡ drawn_count views + 1 =
    omega (arith, sum_by_set (λ (u : View). length u.drawn) views id v next at, length-append v.drawn (w ∷ [])) in
    let free : allowances (set views id next) ≡ allowances views = omega (arith, sum_by_set (λ (u : View). u.allowance) views id v next at) in
    let parts : all_parts (set views id next) ≡ all_parts views = omega (arith, sum_by_set (λ (u : View). u.parts) views id v next at) in
    let fits = f.each_fits id v at in
    record {
      limits = f.limits;
      each_once = λ x. rw (there) (
          let more : times_drawn x (set views id next) ≡ times_drawn x views + cond (w == x) 1 0 =
          omega (arith, sum_by_set (λ (u : View). count_by (λ y. y == x) u.drawn) views id v next at, sum_by_push (λ y. cond (y == x) 1 0) v.drawn w) in
          let was : times_drawn x views ≡ once_below x w = f.each_once x ∙ ap (once_below x) here in
          more ∙ (ap (λ n. n + cond (w == x) 1 0) was ∙ once_more x w));
      all_drawn = omega (arith, count, f.all_drawn, here, there);
      balance = omega (arith, count, free, f.balance);
      shared = parts ∙ f.shared;
      each_fits = still_fits key views id next (record { told = fits.told; idle = λ none. absurd (omega (arith, part, none)); allowed = fits.allowed }) f.each_fits;
    }

none_found : (key : Limits) (w : ℕ) (views : List View) (id : ℕ) (v : View) → Facts key w views → get_elem? views id ≡ some v → v.allowance ≡ 1 → key.count ≤ w
    → Facts key (w + 1) (set views id (record v { allowance = 0 }))
none_found key w views id v f at one past =
    let next : View = record v { allowance = 0 } in
    let here : min w key.count ≡ key.count = min-eq_right past in
    let there : min (w + 1) key.count ≡ key.count = min-eq_right (omega (arith, past)) in
    let count : drawn_count (set views id next) ≡ drawn_count views = omega (arith, sum_by_set (λ (u : View). length u.drawn) views id v next at) in
    let free : allowances (set views id next) + 1 ≡ allowances views = omega (arith, sum_by_set (λ (u : View). u.allowance) views id v next at, one) in
    let parts : all_parts (set views id next) ≡ all_parts views = omega (arith, sum_by_set (λ (u : View). u.parts) views id v next at) in
    let fits = f.each_fits id v at in
    record {
      limits = f.limits;
      each_once = λ x.
          let same : times_drawn x (set views id next) ≡ times_drawn x views =
          omega (arith, sum_by_set (λ (u : View). count_by (λ y. y == x) u.drawn) views id v next at) in
          same ∙ (f.each_once x ∙ ap (once_below x) (here ∙ sym there));
      all_drawn = omega (arith, count, f.all_drawn, here, there);
      balance = omega (arith, count, free, f.balance);
      shared = parts ∙ f.shared;
      each_fits = still_fits key views id next (record { told = fits.told; idle = fits.idle; allowed = omega arith }) f.each_fits;
    }

-- whichever it finds
drawn_keeps : (key : Limits) (w : ℕ) (views : List View) (id : ℕ) (v : View) → Facts key w views → get_elem? views id ≡ some v → v.parts ≡ 1 → v.allowance ≡ 1
    → (b : Bool) → nat_lt w v.count ≡ b → Facts key (w + 1) (set views id (if b then record v { drawn = v.drawn ++ w ∷ [] } else record v { allowance = 0 }))
drawn_keeps key w views id v f at part one true e =
    let l : w < v.count = ltb-true w v.count e in
    let known : v.count ≡ key.count = ((f.each_fits id v at).told (omega (arith, part))).0 in
    number_drawn key w views id v f at part (omega (arith, l, known))
drawn_keeps key w views id v f at part one false e =
    let l : v.count ≤ w = ltb-false w v.count e in
    let known : v.count ≡ key.count = ((f.each_fits id v at).told (omega (arith, part))).0 in
    none_found key w views id v f at one (omega (arith, l, known))

-- the word stays small
small : (key : Limits) (w : ℕ) (views : List View) → Facts key w views → (w + 1) % 2 ^ 64 ≡ w + 1
small key w views f = mod-eq_of_lt (omega (arith, f.balance, f.all_drawn, min-le_right w key.count, f.limits.0, f.limits.1))

pub draw_allowed : (key : Limits) (slots id : ℕ) (me : Me (Unit {0}) View) → me.0.parts ≡ 1 → me.0.allowance ≡ 1
    → Allows (KeepsRule key) slots id me 0 (λ n. (n + 1) % 2 ^ 64) (λ n after. (after.1 ≡ me.1) × (after.0 ≡ drawn_by me.0 n))
draw_allowed key slots id me part one s rule len at fits =
    let w : ℕ = slice_index s.words 0 in
    let f = facts_of key s rule in
    let word = word_set s.words ((w + 1) % 2 ^ 64) rule.one_word in (
      drawn_by me.0 w,
      keeps,
      tt,
      rule_of key (stepped s 0 ((w + 1) % 2 ^ 64) id me.1 (drawn_by me.0 w) keeps) (w + 1) word.1 (word.0 ∙ small key w s.views f)
          (drawn_keeps key w s.views id me.0 f at part one (nat_lt w me.0.count) refl),
      (refl, refl),
    )

-- ---- a new seat

pub snoc_fits : (key : Limits) (views : List View) (new : View) → Fits key new → ((seat : ℕ) (v : View) → get_elem? views seat ≡ some v → Fits key v)
    → (seat : ℕ) (v : View) → get_elem? (views ++ new ∷ []) seat ≡ some v → Fits key v
snoc_fits key views new c fits seat v e = ⊎_elim (λ t. fits seat v t) (λ t. subst (Fits key) t c) (at_snoc views new v seat e)

split_keeps : (key : Limits) (w : ℕ) (views : List View) (id : ℕ) (v : View) → Facts key w views → get_elem? views id ≡ some v
    → 1 ≤ v.allowance → v.parts ≡ v.allowance → v.drawn ≡ [] → Facts key w (set views id (one_less v) ++ newcomer v ∷ [])
split_keeps key w views id v f at some_left alike none =
    let known = (f.each_fits id v at).told (omega (arith, some_left, alike)) in
    let count : drawn_count (set views id (one_less v) ++ newcomer v ∷ []) ≡ drawn_count views =
    omega (arith, sum_by_set (λ (u : View). length u.drawn) views id v (one_less v) at, sum_by_push (λ (u : View). length u.drawn) (set views id (one_less v)) (newcomer v)) in
    let free : allowances (set views id (one_less v) ++ newcomer v ∷ []) ≡ allowances views =
    omega (arith, some_left, sum_by_set (λ (u : View). u.allowance) views id v (one_less v) at, sum_by_push (λ (u : View). u.allowance) (set views id (one_less v)) (newcomer v)) in
    let parts : all_parts (set views id (one_less v) ++ newcomer v ∷ []) ≡ all_parts views =
    omega (arith, some_left, alike, sum_by_set (λ (u : View). u.parts) views id v (one_less v) at, sum_by_push (λ (u : View). u.parts) (set views id (one_less v)) (newcomer v)) in
    let rest : Fits key (one_less v) = record { told = λ some. known; idle = λ no_part. none; allowed = omega (arith, some_left, alike) } in
    let new : Fits key (newcomer v) = record { told = λ some. known; idle = λ no_part. refl; allowed = omega arith } in
    record {
      limits = f.limits;
      each_once = λ x.
          let same : times_drawn x (set views id (one_less v) ++ newcomer v ∷ []) ≡ times_drawn x views =
          omega (
            arith,
            sum_by_set (λ (u : View). count_by (λ y. y == x) u.drawn) views id v (one_less v) at,
            sum_by_push (λ (u : View). count_by (λ y. y == x) u.drawn) (set views id (one_less v)) (newcomer v),
          ) in
          same ∙ f.each_once x;
      all_drawn = omega (arith, count, f.all_drawn);
      balance = omega (arith, count, free, f.balance);
      shared = parts ∙ f.shared;
      each_fits = snoc_fits key (set views id (one_less v)) (newcomer v) new (still_fits key views id (one_less v) rest f.each_fits);
    }

pub split_allowed : (key : Limits) (id : ℕ) (v : View) → 1 ≤ v.allowance → v.parts ≡ v.allowance → v.drawn ≡ [] → Splits (KeepsRule key) id v (one_less v) (newcomer v)
split_allowed key id v some_left alike none s rule at =
    rule_of key (record { words = s.words; homes = s.homes; views = slice_set s.views id (one_less v) ++ newcomer v ∷ [] }) (slice_index s.words 0) rule.one_word refl
    (split_keeps key (slice_index s.words 0) s.views id v (facts_of key s rule) at some_left alike none)
