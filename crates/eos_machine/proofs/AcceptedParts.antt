-- The parts of a cluster's evidence are accepted.
use Rattle.std.proofs.Common.{◌≡◌, ℕ, zero, suc, ◌+◌, ◌-◌, ◌^◌, ◌<◌, ◌≤◌, ◌==◌, Bool, true, false, pos, [], ◌∷◌, length, map, Ok, refl, ap, ◌∙◌, arith}
use Rattle.std.specs.Prelude.{nat_le, nat_lt, int_le, int_lt, if◌then◌else◌}
use Rattle.std.specs.List.{list_all, list_any, range_with_len}
use Rattle.std.specs.Ordering.{is_eq}
use Rattle.std.proofs.lemmas.List.FromFn.{length-map-range_with_len}
use Rattle.std.proofs.lemmas.Int.{ints}
use Rattle.std.proofs.lemmas.Bool.{and_from}
use Rattle.eos_evidence.specs.Topics.{is_topic}
use Rattle.eos_evidence.specs.Ends.{end_cmp, is_within, is_legal_end, are_apart, insert_end, ordered}
use Rattle.eos_evidence.specs.SpecFields.{are_legal_apps, accepted}
use Rattle.eos_machine.specs.declared.config.Config.{Config}
use Rattle.eos_machine.specs.LogIndexes.{IsConfig, log_count, offsets_topic, transactions_topic, final_topic, input_topic, output_topic, final_index, input_index, output_index, topic_of, number_of}
use Rattle.eos_machine.specs.World.{World, log_at}
use Rattle.eos_machine.proofs.Written.{few_finals}
use Rattle.eos_machine.specs.Evidences.{application, second_application, groups_of, end_of, parts_of}
use Rattle.eos_machine.proofs.PlaceNames.{ends_rise}

-- ---- each end is legal

legal_topic : (c : Config) (p : ℕ) → is_topic (topic_of c p) ≡ true
legal_topic c p = by (p == 0) (nat_le p c.transaction_logs) (nat_lt p (input_index c 0)) (nat_lt p (output_index c 0))
  where
    by : (x y f z : Bool) → is_topic (if x then offsets_topic else if y then transactions_topic else if f then final_topic else if z then input_topic else output_topic) ≡ true
    by true y f z = refl
    by false true f z = refl
    by false false true z = refl
    by false false false true = refl
    by false false false false = refl

pub number_small : (c : Config) (p : ℕ) → number_of c p ≤ p
number_small c p = by (p == 0) (nat_le p c.transaction_logs) (nat_lt p (input_index c 0)) (nat_lt p (output_index c 0))
  where
    by : (x y f z : Bool) → (if x then 0 else if y then p - 1 else if f then p - final_index c 0 else if z then p - input_index c 0 else p - output_index c 0) ≤ p
    by true y f z = omega arith
    by false true f z = omega arith
    by false false true z = omega arith
    by false false false true = omega arith
    by false false false false = omega arith

within : (limit n : ℕ) → n < limit → is_within limit (pos n) ≡ true
within limit n l = and_from (int_le (pos 0) (pos n)) (int_lt (pos n) (pos limit)) (from_zero n) (below n limit l)
  where
    from_zero : (n : ℕ) → int_le (pos 0) (pos n) ≡ true
    from_zero n = grind (arith, ints)

    below : (n limit : ℕ) → n < limit → int_lt (pos n) (pos limit) ≡ true
    below n limit l = grind (arith, ints, l)

pub place_few : (c : Config) → IsConfig c → log_count c ≤ 53
place_few c i = let f = few_finals c i in omega (arith, f, i.inputs.1, i.outputs.1, i.transaction_logs.1)

legal : (c : Config) (w : World) (p : ℕ) → p ≤ 53 → length (log_at w p) < 2 ^ 63 → is_legal_end (end_of c w p) ≡ true
legal c w p f l =
    let n = number_small c p in
    rw (legal_topic c p, within (2 ^ 31) (number_of c p) (omega (arith, n, f)), within (2 ^ 63) (length (log_at w p)) l) refl

all_legal : (c : Config) (w : World) (a n : ℕ) → a + n ≤ 53 → ((p : ℕ) → length (log_at w p) < 2 ^ 63) → list_all is_legal_end (map (end_of c w) (range_with_len a n)) ≡ true
all_legal c w a zero f l = refl
all_legal c w a (suc n) f l = rw (legal c w a (omega (arith, f)) (l a)) (all_legal c w (a + 1) n (omega (arith, f)) l)

-- ---- no partition stands twice, and they are in order

none_tied : (c : Config) (w : World) (p a n : ℕ) → p < a → list_any (λ f. is_eq (end_cmp (end_of c w p) f)) (map (end_of c w) (range_with_len a n)) ≡ false
none_tied c w p a zero l = refl
none_tied c w p a (suc n) l =
    rw (ends_rise c p a (end_of c w p) (end_of c w a) l refl refl refl refl) (none_tied c w p (a + 1) n (omega (arith, l)))

apart : (c : Config) (w : World) (a n : ℕ) → are_apart (map (end_of c w) (range_with_len a n)) ≡ true
apart c w a zero = refl
apart c w a (suc n) = rw (none_tied c w a (a + 1) n (omega arith)) (apart c w (a + 1) n)

pub ordered_ends : (c : Config) (w : World) (a n : ℕ) → ordered (map (end_of c w) (range_with_len a n)) ≡ map (end_of c w) (range_with_len a n)
unfolding ordered insert_end
ordered_ends c w a zero = refl
ordered_ends c w a (suc zero) = refl
ordered_ends c w a (suc (suc n)) =
    ap (insert_end (end_of c w a)) (ordered_ends c w (a + 1) (suc n))
    ∙ rw (ends_rise c a (a + 1) (end_of c w a) (end_of c w (a + 1)) (omega arith) refl refl refl refl) refl

-- ---- all of them

few_ends : (c : Config) (w : World) → IsConfig c → nat_le (length (map (end_of c w) (range_with_len 0 (log_count c)))) 4096 ≡ true
few_ends c w i =
    let e : length (map (end_of c w) (range_with_len 0 (log_count c))) ≡ log_count c = length-map-range_with_len (end_of c w) 0 (log_count c) in
    rw e (small (log_count c) (place_few c i))
  where
    small : (n : ℕ) → n ≤ 53 → nat_le n 4096 ≡ true
    small n l = grind (arith, l)

legal_groups : (c : Config) → are_legal_apps (groups_of c) ≡ true
legal_groups c = by c.chain
  where
    by : (t : Bool) → are_legal_apps (if t then application ∷ second_application ∷ [] else application ∷ []) ≡ true
    by true = refl
    by false = refl

few_groups : (c : Config) → nat_le (length (groups_of c)) 256 ≡ true
few_groups c = by c.chain
  where
    by : (t : Bool) → nat_le (length (if t then application ∷ second_application ∷ [] else application ∷ [])) 256 ≡ true
    by true = refl
    by false = refl

pub accepted_parts : (c : Config) (w : World) → IsConfig c → ((p : ℕ) → length (log_at w p) < 2 ^ 63) → accepted (parts_of c w) ≡ Ok (parts_of c w)
unfolding accepted
accepted_parts c w i l =
    let f = place_few c i in
    rw (legal_groups c, few_groups c, all_legal c w 0 (log_count c) (omega (arith, f)) l, apart c w 0 (log_count c), few_ends c w i, ordered_ends c w 0 (log_count c)) refl
