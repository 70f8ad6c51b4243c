-- The front of a log's segments is all its batches, and nothing is left.
use Rattle.std.proofs.Common.{◌≡◌, ℕ, zero, suc, ◌+◌, ◌-◌, ◌*◌, ◌/◌, ◌%◌, ◌<◌, ◌≤◌, List, [], ◌∷◌, ◌++◌, map, length, take, drop, refl, sym, ap, subst, ◌∙◌, arith, inl, inr, append-nil}
use Rattle.std.specs.List.{flat_map, range_with_len}
use Rattle.std.proofs.Math.Nat.{div-add-mod, mod-lt, mul_comm}
use Rattle.std.proofs.Math.ListN.{drop_of_length-le}
use Rattle.std.proofs.lemmas.List.{take-append-drop, length-drop, drop-drop}
use Rattle.std.proofs.lemmas.Bool.{cases_lt}
use Rattle.eos_batch.specs.declared.batch.Batch.{Batch}
use Rattle.eos_batch.specs.Encoding.{batch_text_of}
use Rattle.eos_batch.specs.Segment.{Splits}
use Rattle.eos_fold.specs.declared.stop.Stop.TheVariants.{AtEnd}
use Rattle.eos_touch.specs.Front.{records_in, ContinuesFrom}
use Rattle.eos_fold.specs.Fronts.{IsFront}
use Rattle.eos_machine.specs.declared.config.Config.{Config}
use Rattle.eos_machine.specs.LogIndexes.{IsConfig}
use Rattle.eos_machine.specs.declared.item.Item.{Item}
use Rattle.eos_machine.specs.declared.state.Election.{Election}
use Rattle.eos_machine.specs.Batches.{batches_from, led, texts_of, AreTexts}
use Rattle.eos_machine.specs.Evidences.{segment_count, batches_at, segment_at, log_segments, HaveTexts}
use Rattle.eos_simulate.proofs.Singles.{item_batch, singles_from}
use Rattle.eos_simulate.proofs.Agreeing.{Agrees, agrees_nil, items_agree}
use Rattle.eos_simulate.proofs.LedBatches.{agrees_on, led_agrees}

-- ---- the items as batches of their own

singles_count : (c : Config) (o : ℕ) (xs : List Item) → records_in (singles_from c o xs) ≡ length xs
singles_count c o [] = refl
singles_count c o (x ∷ xs) = let b = singles_count c (o + 1) xs in omega (arith, b)

singles_continue : (c : Config) (o : ℕ) (xs : List Item) → ContinuesFrom o (singles_from c o xs)
singles_continue c o [] = tt
singles_continue c o (x ∷ xs) = (refl, singles_continue c (o + 1) xs)

singles_append : (c : Config) (o : ℕ) (xs ys : List Item) → singles_from c o (xs ++ ys) ≡ singles_from c o xs ++ singles_from c (o + length xs) ys
singles_append c o [] ys = let e : o ≡ o + 0 = omega arith in ap (λ n. singles_from c n ys) e
singles_append c o (x ∷ xs) ys =
    let e : o + 1 + length xs ≡ o + suc (length xs) = omega arith in
    ap (λ bs. item_batch c o x ∷ bs) (singles_append c (o + 1) xs ys ∙ ap (λ n. singles_from c (o + 1) xs ++ singles_from c n ys) e)

-- ---- the batches of a segment

alone : (c : Config) (o : ℕ) (xs : List Item) → Agrees (batches_from c o xs) (singles_from c o xs)
alone c o xs = subst (λ bs. Agrees bs (singles_from c o xs)) (append-nil (batches_from c o xs)) (subst (Agrees (batches_from c o xs ++ [])) (append-nil (singles_from c o xs)) (items_agree c o xs [] [] agrees_nil))

splits : (bs : List Batch) → AreTexts bs → Splits (texts_of bs) bs []
splits [] h = refl
splits (b ∷ bs) h = (batch_text_of b, texts_of bs, h.0, refl, splits bs h.1)

-- in their leader epochs
led_alone : (p : ℕ) (es : List Election) (bs cs : List Batch) → Agrees bs cs → Agrees (map (led p es) bs) cs
led_alone p es bs cs a =
    agrees_on (map (led p es) bs) bs cs (subst (λ xs. Agrees xs bs) (append-nil (map (led p es) bs)) (subst (Agrees (map (led p es) bs ++ [])) (append-nil bs) (led_agrees p es bs []))) a

-- ---- segment by segment

length_take : (n : ℕ) (xs : List Item) → n ≤ length xs → length (take n xs) ≡ n
length_take zero xs l = refl
length_take (suc n) [] l = absurd (omega (arith, l))
length_take (suc n) (x ∷ xs) l = let e = length_take n xs (omega (arith, l)) in omega (arith, e)

times_more : (i n : ℕ) → (i + 1) * n ≡ i * n + n
times_more zero n = omega arith
times_more (suc i) n = let e = times_more i n in omega (arith, e)

-- what is left at the i-th segment: the segments from it on are as many as it takes
abbrev IsLeft : Config → ℕ → List Item → Type 0
IsLeft c zero rest = rest ≡ []
IsLeft c (suc k) rest = (k * c.segment_records < length rest) × (length rest ≤ k * c.segment_records + c.segment_records)

left_next : (c : Config) (k : ℕ) (rest : List Item) → IsLeft c (suc k) rest → IsLeft c k (drop c.segment_records rest)
left_next c zero rest h = drop_of_length-le rest (omega (arith, h.1))
left_next c (suc k) rest h =
    let d = length-drop c.segment_records rest in
    (omega (arith, d, h.0), omega (arith, d, h.1))

-- what stands from a segment on
record IsRest (c : Config) (log : List Item) (k i o : ℕ) (rest : List Item) : Type 0 where
  at : o ≡ i * c.segment_records
  of : rest ≡ drop o log
  left : IsLeft c k rest

part_is : (c : Config) (p : ℕ) (es : List Election) (log : List Item) (k i o : ℕ) (rest : List Item) → IsRest c log k i o rest → batches_at c p es log i ≡ map (led p es) (batches_from c o (take c.segment_records rest))
part_is c p es log k i o rest h = ap (λ j. map (led p es) (batches_from c j (take c.segment_records (drop j log)))) (sym h.at) ∙ ap (λ xs. map (led p es) (batches_from c o (take c.segment_records xs))) (sym h.of)

rest_next : (c : Config) (log : List Item) (k i o : ℕ) (rest : List Item) → IsRest c log (suc k) i o rest → IsRest c log k (i + 1) (o + c.segment_records) (drop c.segment_records rest)
rest_next c log k i o rest h = record {
  at = ap (λ j. j + c.segment_records) h.at ∙ sym (times_more i c.segment_records);
  of = ap (drop c.segment_records) h.of ∙ drop-drop c.segment_records o log;
  left = left_next c k rest h.left;
}

-- behind a segment that isn't full nothing is left
singles_part : (c : Config) (o n : ℕ) (rest : List Item) → singles_from c o rest ≡ singles_from c o (take n rest) ++ singles_from c (o + n) (drop n rest)
singles_part c o n rest = elim (cases_lt (length rest) n) [
  | inl s ↦ let none : drop n rest ≡ [] = drop_of_length-le rest (omega (arith, s)) in
      whole ∙ (ap (λ xs. singles_from c o m ++ singles_from c (o + length m) xs) none ∙ sym (ap (λ xs. singles_from c o m ++ singles_from c (o + n) xs) none))
  | inr f ↦ whole ∙ ap (λ j. singles_from c o m ++ singles_from c (o + j) (drop n rest)) (length_take n rest f)
]
  where
    m : List Item
    m = take n rest

    whole : singles_from c o rest ≡ singles_from c o (take n rest) ++ singles_from c (o + length (take n rest)) (drop n rest)
    whole = ap (singles_from c o) (sym (take-append-drop n rest)) ∙ singles_append c o (take n rest) (drop n rest)

-- the batches of so many segments from this one on
abbrev batches_in : Config → ℕ → List Election → List Item → ℕ → ℕ → List Batch
batches_in c p es log i k = flat_map (batches_at c p es log) (range_with_len i k)

agree_from : (c : Config) (p : ℕ) (es : List Election) (log : List Item) (k i o : ℕ) (rest : List Item) → IsRest c log k i o rest → Agrees (batches_in c p es log i k) (singles_from c o rest)
agree_from c p es log zero i o rest h = subst (λ xs. Agrees [] (singles_from c o xs)) (sym h.left) agrees_nil
agree_from c p es log (suc k) i o rest h =
    let n : ℕ = c.segment_records in
    let others = agree_from c p es log k (i + 1) (o + n) (drop n rest) (rest_next c log k i o rest h) in
    subst (λ bs. Agrees (bs ++ batches_in c p es log (i + 1) k) (singles_from c o rest)) (sym (part_is c p es log (suc k) i o rest h))
    (agrees_on (map (led p es) (batches_from c o (take n rest)) ++ batches_in c p es log (i + 1) k) (batches_from c o (take n rest) ++ batches_in c p es log (i + 1) k) (singles_from c o rest)
    (led_agrees p es (batches_from c o (take n rest)) (batches_in c p es log (i + 1) k))
    (subst (Agrees (batches_from c o (take n rest) ++ batches_in c p es log (i + 1) k)) (sym (singles_part c o n rest))
    (items_agree c o (take n rest) (batches_in c p es log (i + 1) k) (singles_from c (o + n) (drop n rest)) others)))

-- the front of one segment, and that of those behind it
front_step : (c : Config) (p : ℕ) (es : List Election) (log : List Item) (k i o : ℕ) (rest : List Item) → IsRest c log (suc k) i o rest → AreTexts (batches_at c p es log i)
    → IsFront (o + c.segment_records) (map (segment_at c p es log) (range_with_len (i + 1) k)) (batches_in c p es log (i + 1) k) AtEnd
    → IsFront o (map (segment_at c p es log) (range_with_len i (suc k))) (batches_in c p es log i (suc k)) AtEnd
front_step c p es log k i o rest h w next =
    inr (
      sym h.at,
      batches_at c p es log i,
      AtEnd,
      record { rest = []; texts = splits (batches_at c p es log i) w; continuous = subst (ContinuesFrom o) (sym is) (agrees.continues o (singles_continue c o m)); stops = refl },
      (batches_in c p es log (i + 1) k, refl, subst (λ j. Behind (o + j)) (sym counted) others),
    )
  where
    n : ℕ
    n = c.segment_records

    m : List Item
    m = take n rest

    Behind : ℕ → Type 0
    Behind at = IsFront at (map (segment_at c p es log) (range_with_len (i + 1) k)) (batches_in c p es log (i + 1) k) AtEnd

    is : batches_at c p es log i ≡ map (led p es) (batches_from c o m)
    is = part_is c p es log (suc k) i o rest h

    agrees : Agrees (map (led p es) (batches_from c o m)) (singles_from c o m)
    agrees = led_alone p es (batches_from c o m) (singles_from c o m) (alone c o m)

    counted : records_in (batches_at c p es log i) ≡ length m
    counted = ap records_in is ∙ (agrees.records ∙ singles_count c o m)

    last : (k : ℕ) → IsLeft c (suc k) rest → length rest ≤ n → IsFront (o + length m) (map (segment_at c p es log) (range_with_len (i + 1) k)) (batches_in c p es log (i + 1) k) AtEnd
    last zero l s = (refl, refl)
    last (suc j) l s = absurd (omega (arith, l.0, s))

    others : Behind (o + length m)
    others = elim (cases_lt (length rest) n) [
      | inl s ↦ last k h.left (omega (arith, s))
      | inr f ↦ subst (λ j. Behind (o + j)) (sym (length_take n rest f)) next
    ]

goes_on : (c : Config) (p : ℕ) (es : List Election) (log : List Item) (k i o : ℕ) (rest : List Item) → IsRest c log k i o rest → ((j : ℕ) → j < i + k → AreTexts (batches_at c p es log j))
    → IsFront o (map (segment_at c p es log) (range_with_len i k)) (batches_in c p es log i k) AtEnd
goes_on c p es log zero i o rest h w = (refl, refl)
goes_on c p es log (suc k) i o rest h w =
    front_step c p es log k i o rest h (w i (omega arith))
    (goes_on c p es log k (i + 1) (o + c.segment_records) (drop c.segment_records rest) (rest_next c log k i o rest h) (λ j l. w j (omega (arith, l))))

-- ---- as many segments as it takes

count_by : (m n q r : ℕ) → 1 ≤ n → n * q + r ≡ m + (n - 1) → r < n → q * n ≡ n * q → (m ≤ q * n) × ((k : ℕ) → q ≡ suc k → k * n < m)
count_by m n q r l e s t = (omega (arith, l, e, s, t), λ k d. below k d)
  where
    below : (k : ℕ) → q ≡ suc k → k * n < m
    below k d = let f : q ≡ k + 1 = omega (arith, d) in let u : q * n ≡ k * n + n = ap (λ j. j * n) f ∙ times_more k n in omega (arith, l, e, s, t, u)

is_left : (c : Config) (log : List Item) (q : ℕ) → (length log ≤ q * c.segment_records) × ((k : ℕ) → q ≡ suc k → k * c.segment_records < length log) → IsLeft c q log
is_left c [] zero h = refl
is_left c (x ∷ xs) zero h = absurd (let l = h.0 in omega (arith, l))
is_left c log (suc k) h = (h.1 k refl, omega (arith, h.0))

-- all batches of a log
abbrev pub all_batches : Config → ℕ → List Election → List Item → List Batch
all_batches c p es log = batches_in c p es log 0 (segment_count c (length log))

whole : (c : Config) (log : List Item) → IsConfig c → IsRest c log (segment_count c (length log)) 0 0 log
whole c log i =
    let n : ℕ = c.segment_records in
    let m : ℕ = length log + (n - 1) in
    record {
      at = omega arith;
      of = refl;
      left = is_left c log (m / n) (count_by (length log) n (m / n) (m % n) i.segment_records.0 (div-add-mod m n) (mod-lt m i.segment_records.0) (mul_comm (m / n) n));
    }

-- the front of a log's segments, begun at 0
pub whole_front : (c : Config) (p : ℕ) (es : List Election) (log : List Item) → IsConfig c → HaveTexts c p es log → IsFront 0 (log_segments c p es log) (all_batches c p es log) AtEnd
whole_front c p es log i w = goes_on c p es log (segment_count c (length log)) 0 0 log (whole c log i) (λ j l. w.texts j (omega (arith, l)))

pub all_agree : (c : Config) (p : ℕ) (es : List Election) (log : List Item) → IsConfig c → Agrees (all_batches c p es log) (singles_from c 0 log)
all_agree c p es log i = agree_from c p es log (segment_count c (length log)) 0 0 log (whole c log i)

pub records_are : (c : Config) (p : ℕ) (es : List Election) (log : List Item) → IsConfig c → records_in (all_batches c p es log) ≡ length log
records_are c p es log i = (all_agree c p es log i).records ∙ singles_count c 0 log
