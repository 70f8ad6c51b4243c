-- All seats in one: joins keep the rule of the tickets, and a seat with all parts knows what all have drawn.
use Rattle.std.proofs.Common.{◌≡◌, ℕ, zero, suc, ◌+◌, ◌<◌, ◌≤◌, ◌==◌, min, List, [], ◌∷◌, ◌++◌, length, get_or, set, refl, sym, ap, subst, ◌∙◌, ⊎_elim, arith}
use Rattle.std.specs.Prelude.{Bool, true, false, if◌then◌else◌, slice_index, slice_set, Any}
use Rattle.std.specs.List.{sum_by, count_by}
use Rattle.std.proofs.lemmas.List.Sums.{sum_by-append, sum_by-cons, sum_by_push}
use Rattle.std.proofs.lemmas.List.{length-append}
use Rattle.std.proofs.Math.Nat.{min-eq_right}
use mathlib.Core.Option.{some, some-injective, some-ne-none}
use lib.ListN.{get_elem?}
use Rattle.atomic_table.specs.Table.{Me, keeps, stepped, Allows, Enters, Joins}
use Rattle.atomic_table.proofs.Lists.{at_set, set_again}
use Rattle.eos_source.specs.declared.rule.Limits.{Limits}
use Rattle.eos_source.specs.declared.rule.View.{View}
use Rattle.eos_source.specs.SeatViews.{SeatView, once_below}
use Rattle.eos_source.specs.steps.OpenSeats.{open_seats}
use Rattle.eos_source.specs.TicketRule.{allowances, all_parts, Fits, KeepsRule, KnowsAll, nobody, together}
use Rattle.eos_source.proofs.SeatSums.{sum_by_set}
use Rattle.eos_source.proofs.TicketSteps.{Facts, facts_of, rule_of, still_fits, snoc_fits}

nobody_fits : (key : Limits) → Fits key nobody
nobody_fits key = record { told = λ some. absurd (omega (arith, some)); idle = λ none. refl; allowed = omega arith }

-- a view more that counts for nothing
one_more : (f : View → ℕ) (views : List View) → f nobody ≡ 0 → sum_by f (views ++ nobody ∷ []) ≡ sum_by f views
one_more f views none = omega (arith, none, sum_by_push f views nobody)

pub nobody_allowed : (key : Limits) (slots : ℕ) → Enters (KeepsRule key) slots 0 (λ n w. w ≡ nobody)
nobody_allowed key slots s rule len small =
    let f = facts_of key s rule in
    let views = s.views ++ nobody ∷ [] in (
      nobody,
      rule_of key (record { words = s.words; homes = s.homes; views = views }) (slice_index s.words 0) rule.one_word refl
          (record {
            limits = f.limits;
            each_once = λ x. one_more (λ (u : View). count_by (λ y. y == x) u.drawn) s.views refl ∙ f.each_once x;
            all_drawn = one_more (λ (u : View). length u.drawn) s.views refl ∙ f.all_drawn;
            balance = omega (arith, one_more (λ (u : View). u.allowance) s.views refl, one_more (λ (u : View). length u.drawn) s.views refl, f.balance);
            shared = one_more (λ (u : View). u.parts) s.views refl ∙ f.shared;
            each_fits = snoc_fits key s.views nobody (nobody_fits key) f.each_fits;
          }),
      refl,
    )

-- ---- two seats in one

-- what adds up over two lists of numbers adds up as before
both_sum : (f : View → ℕ) (views : List View) (id other : ℕ) (v w : View) → get_elem? views id ≡ some v → get_elem? (set views id (together v w)) other ≡ some w
    → f nobody ≡ 0 → f (together v w) ≡ f v + f w → sum_by f (set (set views id (together v w)) other nobody) ≡ sum_by f views
both_sum f views id other v w at there none adds =
    omega (arith, none, adds, sum_by_set f views id v (together v w) at, sum_by_set f (set views id (together v w)) other w nobody there)

both_fit : (key : Limits) (v w : View) → Fits key v → Fits key w → 0 < w.parts → Fits key (together v w)
both_fit key v w fv fw part = record {
  told = λ some. fw.told part;
  idle = λ none. absurd (omega (arith, none, part));
  allowed = omega (arith, fv.allowed, fw.allowed);
}

pub join_allowed : (key : Limits) (id : ℕ) (v : View) (other : ℕ) (w : View) → 0 < w.parts → Joins (KeepsRule key) id v other w (together v w) nobody
join_allowed key id v other w part s rule at apart there =
    let f = facts_of key s rule in
    let fits : Fits key w = ⊎_elim (λ t. absurd (apart t.0)) (λ t. f.each_fits other w t.1) (at_set s.views id other (together v w) w there) in
    let views = set (set s.views id (together v w)) other nobody in
    let sums : (g : View → ℕ) → g nobody ≡ 0 → g (together v w) ≡ g v + g w → sum_by g views ≡ sum_by g s.views = λ g. both_sum g s.views id other v w at there in
    let drawn = sums (λ u. length u.drawn) refl (length-append v.drawn w.drawn) in
    rule_of key (record { words = s.words; homes = s.homes; views = views }) (slice_index s.words 0) rule.one_word refl
    (record {
      limits = f.limits;
      each_once = λ x. sums (λ u. count_by (λ y. y == x) u.drawn) refl (sum_by-append _ v.drawn w.drawn) ∙ f.each_once x;
      all_drawn = drawn ∙ f.all_drawn;
      balance = omega (arith, sums (λ u. u.allowance) refl refl, drawn, f.balance);
      shared = sums (λ u. u.parts) refl refl ∙ f.shared;
      each_fits = still_fits key (set s.views id (together v w)) other nobody (nobody_fits key)
          (still_fits key s.views id (together v w) (both_fit key v w (f.each_fits id v at) fits part) f.each_fits);
    })

-- ---- the seat with all parts

at_least : (f : View → ℕ) (views : List View) (id : ℕ) (v : View) → get_elem? views id ≡ some v → f v ≤ sum_by f views
at_least f [] id v at = absurd (some-ne-none v (sym at))
at_least f (x ∷ xs) zero v at = omega (arith, ap f (some-injective x v at), sum_by-cons f x xs)
at_least f (x ∷ xs) (suc id) v at = omega (arith, at_least f xs id v at, sum_by-cons f x xs)

-- where no view has a part, what counts for nothing in such a view adds up to nothing
none_at_all : (f : View → ℕ) (views : List View) → ((seat : ℕ) (v : View) → get_elem? views seat ≡ some v → v.parts ≡ 0 → f v ≡ 0) → all_parts views ≡ 0 → sum_by f views ≡ 0
none_at_all f [] zero_of none = refl
none_at_all f (x ∷ xs) zero_of none =
    let parts = sum_by-cons (λ (u : View). u.parts) x xs in
    let first : f x ≡ 0 = zero_of 0 x refl (omega (arith, none, parts)) in
    let others : sum_by f xs ≡ 0 = none_at_all f xs (λ seat v at. zero_of (suc seat) v at) (omega (arith, none, parts)) in
    omega (arith, sum_by-cons f x xs, first, others)

-- one view that has all parts has all that adds up
all_of_one : (f : View → ℕ) (views : List View) (id : ℕ) (v : View) → get_elem? views id ≡ some v
    → ((seat : ℕ) (u : View) → get_elem? views seat ≡ some u → u.parts ≡ 0 → f u ≡ 0) → all_parts views ≡ v.parts → sum_by f views ≡ f v
all_of_one f [] id v at zero_of all = absurd (some-ne-none v (sym at))
all_of_one f (x ∷ xs) zero v at zero_of all =
    let same : x ≡ v = some-injective x v at in
    let parts = sum_by-cons (λ (u : View). u.parts) x xs in
    let others : sum_by f xs ≡ 0 = none_at_all f xs (λ seat u there. zero_of (suc seat) u there) (omega (arith, all, parts, ap (λ (u : View). u.parts) same)) in
    omega (arith, sum_by-cons f x xs, ap f same, others)
all_of_one f (x ∷ xs) (suc id) v at zero_of all =
    let parts = sum_by-cons (λ (u : View). u.parts) x xs in
    let less = at_least (λ (u : View). u.parts) xs id v at in
    let first : f x ≡ 0 = zero_of 0 x refl (omega (arith, all, parts, less)) in
    omega (arith, sum_by-cons f x xs, first, all_of_one f xs id v at (λ seat u there. zero_of (suc seat) u there) (omega (arith, all, parts, less)))

knows_all : (key : Limits) (w : ℕ) (views : List View) (id : ℕ) (v : View) → Facts key w views → get_elem? views id ≡ some v → v.parts ≡ key.workers → KnowsAll v
knows_all key w views id v f at all =
    let whole : all_parts views ≡ v.parts = f.shared ∙ sym all in
    let idle : (seat : ℕ) (u : View) → get_elem? views seat ≡ some u → u.parts ≡ 0 → u.drawn ≡ [] = λ seat u there none. (f.each_fits seat u there).idle none in
    let drawn : length v.drawn ≡ min w key.count =
    sym (all_of_one (λ u. length u.drawn) views id v at (λ seat u there none. ap length (idle seat u there none)) whole) ∙ f.all_drawn in
    let free : allowances views ≡ v.allowance =
    all_of_one (λ u. u.allowance) views id v at (λ seat u there none. omega (arith, none, (f.each_fits seat u there).allowed)) whole in
    record {
      each_once = λ x.
          sym (all_of_one (λ u. count_by (λ y. y == x) u.drawn) views id v at (λ seat u there none. ap (count_by (λ y. y == x)) (idle seat u there none)) whole)
          ∙ (f.each_once x ∙ ap (once_below x) (sym drawn));
      none_left = λ less.
          let told : v.count ≡ key.count = ((f.each_fits id v at).told (omega (arith, less))).0 in
          let past : key.count ≤ w = omega (arith, less, f.balance, f.all_drawn, free, all) in
          drawn ∙ (min-eq_right past ∙ sym told);
    }

word_again : (words : List ℕ) → length words ≡ 1 → slice_set words 0 (slice_index words 0) ≡ words
word_again [] one = absurd (omega arith)
word_again (w ∷ ws) one = refl

pub look_allowed : (key : Limits) (slots id : ℕ) (me : Me (Unit {0}) View) → me.0.parts ≡ key.workers
    → Allows (KeepsRule key) slots id me 0 (λ n. n) (λ n after. (after ≡ me) × KnowsAll me.0)
look_allowed key slots id me all s rule len at fits =
    let w : ℕ = slice_index s.words 0 in
    let f = facts_of key s rule in
    let same = word_again s.words rule.one_word in (
      me.0,
      keeps,
      tt,
      rule_of key (stepped s 0 w id me.1 me.0 keeps) w (ap length same ∙ rule.one_word) (ap (λ words. slice_index words 0) same) (subst (Facts key w) (sym (set_again s.views id me.0 at)) f),
      (refl, knows_all key w s.views id me.0 f at all),
    )

-- ---- seats that may still draw

abbrev test : Bool → ℕ
test is_done = if is_done then 0 else 1

abbrev may_draw : SeatView → ℕ
may_draw seat = test seat.is_done

at_most_one : (is_done : Bool) → (if is_done then 0 else 1) ≤ 1
at_most_one true = omega arith
at_most_one false = omega arith

at_most_all : (seats : List SeatView) → open_seats seats ≤ length seats
at_most_all [] = omega arith
at_most_all (s ∷ ss) = omega (arith, at_most_one s.is_done, at_most_all ss, sum_by-cons may_draw s ss)

fewer : (seats : List SeatView) (k : ℕ) (x : SeatView) → k < length seats → get_or seats k x ≡ x → x.is_done ≡ true → open_seats seats < length seats
fewer [] k x less at done = absurd (omega (arith, less))
fewer (s ∷ ss) zero x less at done =
    let none : may_draw s ≡ 0 = ap may_draw at ∙ ap test done in
    omega (arith, none, at_most_all ss, sum_by-cons may_draw s ss)
fewer (s ∷ ss) (suc k) x less at done =
    omega (arith, at_most_one s.is_done, fewer ss k x (omega (arith, less)) at done, sum_by-cons may_draw s ss)

-- where one of the seats is done, not all may draw
pub some_done : (seats : List SeatView) → Any (λ s. s.is_done ≡ true) seats → open_seats seats < length seats
some_done seats any = fewer seats any.0 any.1 any.2 any.3 any.4
