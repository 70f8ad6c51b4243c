-- Whether one of a batch's records was asked for, by its first and its last offset.
use Rattle.std.proofs.Common.{◌≡◌, ℕ, ◌+◌, ◌<◌, ◌≤◌, suc, ℤ, pos, negsuc, ◌≤ℤ◌, Bool, false, ltb, List, [], ◌∷◌, length, min, max, ◌⊎◌, inl, inr, arith, refl, sym, ◌∙◌}
use Rattle.std.proofs.lemmas.Bool.{lt-ltb, le-ltb, le-leb, lt-leb, cases_lt}
use Rattle.std.proofs.lemmas.Int.{ints}
use Rattle.eos_batch.specs.declared.record.Record.{Record}
use Rattle.eos_segment.specs.declared.options.ListingOptions.{ListingOptions}
use Rattle.eos_segment.specs.Choosing.{asks_for_one}

one_by_numbers : (o : ListingOptions) (n : ℕ) (rs : List Record) → asks_for_one o (pos n) rs ≡ ltb (max o.from n) (min o.to (n + length rs))
one_by_numbers o n [] = sym (le-ltb (max o.from n) (min o.to (n + 0)) (omega arith))
one_by_numbers o n (r ∷ rs) = cases (one_by_numbers o (n + 1) rs) (cases_lt n o.from) (cases_lt n o.to)
  where
    cases : asks_for_one o (pos (n + 1)) rs ≡ ltb (max o.from (n + 1)) (min o.to ((n + 1) + length rs)) → (n < o.from) ⊎ (o.from ≤ n) → (n < o.to) ⊎ (o.to ≤ n) → asks_for_one o (pos n) (r ∷ rs) ≡ ltb (max o.from n) (min o.to (n + suc (length rs)))
    cases after (inl before) to =
        let low : max o.from (n + 1) ≡ max o.from n = omega arith in
        let high : min o.to ((n + 1) + length rs) ≡ min o.to (n + suc (length rs)) = omega arith in
        rw (lt-leb o.from n before, after, low, high) refl
    cases after (inr from) (inl to) =
        rw (le-leb o.from n from, lt-ltb n o.to to) (sym (lt-ltb (max o.from n) (min o.to (n + suc (length rs))) (omega arith)))
    cases after (inr from) (inr past) =
        let later : asks_for_one o (pos (n + 1)) rs ≡ false = after ∙ le-ltb (max o.from (n + 1)) (min o.to ((n + 1) + length rs)) (omega arith) in
        rw (le-leb o.from n from, le-ltb n o.to past, later) (sym (le-ltb (max o.from n) (min o.to (n + suc (length rs))) (omega arith)))

pub one_of_records : (o : ListingOptions) (base : ℤ) (rs : List Record) (result : Bool) → pos 0 ≤ℤ base
    → ((n : ℕ) → base ≡ pos n → result ≡ ltb (max o.from n) (min o.to (n + length rs))) → result ≡ asks_for_one o base rs
one_of_records o (pos n) rs result low h = h n refl ∙ sym (one_by_numbers o n rs)
one_of_records o (negsuc n) rs result low h = absurd (omega (arith, ints, low))
