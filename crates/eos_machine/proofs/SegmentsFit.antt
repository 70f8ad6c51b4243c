-- As many segments as a cluster's logs take: the room is enough, and none is too long.
use Rattle.std.proofs.Common.{◌≡◌, ℕ, zero, suc, ◌+◌, ◌-◌, ◌*◌, ◌/◌, ◌^◌, ◌<◌, ◌≤◌, List, [], ◌∷◌, length, take, drop, refl, sym, ap, subst, ◌∙◌, arith, inl, inr, slice_index_or}
use Rattle.std.specs.List.{All, range_with_len}
use Rattle.std.proofs.Math.Nat.{div-add-mod, mod-lt, mul_comm, mul-le-mul_right, add-mul, suc-mul}
use Rattle.std.proofs.lemmas.Bool.{cases_lt}
use Rattle.std.proofs.lemmas.List.Elements.{All-nil, All-cons, All-head, All-tail}
use Rattle.eos_machine.specs.declared.config.Config.{Config}
use Rattle.eos_machine.specs.declared.item.Item.{Item}
use Rattle.eos_machine.specs.LogIndexes.{IsConfig, log_count}
use Rattle.eos_machine.specs.World.{World, Election, log_at}
use Rattle.eos_machine.specs.Batches.{batches_from}
use Rattle.eos_machine.specs.Evidences.{segment_count, part_at, segment_at, HasRoomForAll}
use Rattle.eos_machine.specs.Fitting.{IsFit}
use Rattle.eos_machine.specs.steps.Writable.{total}
use Rattle.eos_machine.proofs.BatchSizes.{texts_short}
use Rattle.eos_machine.proofs.Led.{led_lengths}

-- ---- none is too long

pub all_take : {X : Type 0} (P : X → Type 0) (n : ℕ) (xs : List X) → All P xs → All P (take n xs)
all_take P zero xs h = All-nil P
all_take P (suc n) [] h = All-nil P
all_take P (suc n) (x ∷ xs) h = All-cons P x (take n xs) (All-head P x xs h) (all_take P n xs (All-tail P x xs h))

pub all_drop : {X : Type 0} (P : X → Type 0) (n : ℕ) (xs : List X) → All P xs → All P (drop n xs)
all_drop P zero xs h = h
all_drop P (suc n) [] h = All-nil P
all_drop P (suc n) (x ∷ xs) h = all_drop P n xs (All-tail P x xs h)

pub take_few : {X : Type 0} (n : ℕ) (xs : List X) → length (take n xs) ≤ n
take_few zero xs = omega arith
take_few (suc n) [] = omega arith
take_few (suc n) (x ∷ xs) = let r = take_few n xs in omega (arith, r)

pub segment_short : (c : Config) (p : ℕ) (es : List Election) (log : List Item) (i : ℕ) → IsConfig c → All (IsFit c) log → length (segment_at c p es log i).bytes ≤ 2 ^ 30
segment_short c p es log i f h =
    let xs : List Item = part_at c log i in
    let s = texts_short c 0 (i * c.segment_records) xs (omega arith) f (all_take (IsFit c) c.segment_records (drop (i * c.segment_records) log) (all_drop (IsFit c) (i * c.segment_records) log h)) in
    let t = take_few c.segment_records (drop (i * c.segment_records) log) in
    let l = led_lengths p es (batches_from c (i * c.segment_records) xs) in
    omega (arith, s, t, l, f.segment_records.1)

-- ---- and there are no more than there may be

abbrev pub sum : (ℕ → ℕ) → List ℕ → ℕ
sum f [] = 0
sum f (k ∷ ks) = f k + sum f ks

-- of one log
count_times : (c : Config) (n : ℕ) → 1 ≤ c.segment_records → segment_count c n * c.segment_records ≤ n + (c.segment_records - 1)
count_times c n l =
    let m : ℕ = n + (c.segment_records - 1) in
    let a = div-add-mod m c.segment_records in
    let s = mul_comm (m / c.segment_records) c.segment_records in
    omega (arith, a, s)

sum_times : (n : ℕ → ℕ) (c : Config) (a k : ℕ) → 1 ≤ c.segment_records → sum (λ p. segment_count c (n p)) (range_with_len a k) * c.segment_records ≤ sum n (range_with_len a k) + k * c.segment_records
sum_times n c a zero l = omega arith
sum_times n c a (suc k) l =
    let one = count_times c (n a) l in
    let more = sum_times n c (a + 1) k l in
    let e = add_times (segment_count c (n a)) (sum (λ p. segment_count c (n p)) (range_with_len (a + 1) k)) c.segment_records in
    let f : suc k * c.segment_records ≡ c.segment_records + k * c.segment_records = suc_times k c.segment_records in
    omega (arith, one, more, e, f)
  where
    add_times : (x y r : ℕ) → (x + y) * r ≡ x * r + y * r
    add_times x y r = add-mul x y r

    suc_times : (k r : ℕ) → suc k * r ≡ r + k * r
    suc_times k r = let e = suc-mul k r in omega (arith, e)

-- what is at most so many times r
at_most : (x y r : ℕ) → 1 ≤ r → x * r ≤ y → x ≤ y / r
at_most x y r l h = elim (cases_lt (y / r) x) [
  | inl b ↦
      let d = div-add-mod y r in
      let m = mod-lt y l in
      let s = mul_comm (y / r) r in
      let g = mul-le-mul_right r b in
      let t = next_times (y / r) r in
      absurd (omega (arith, d, m, s, g, t, h))
  | inr b ↦ b
]
  where
    next_times : (n r : ℕ) → (n + 1) * r ≡ n * r + r
    next_times zero r = omega arith
    next_times (suc n) r = let e = next_times n r in omega (arith, e)

-- ---- the items of all logs, place by place

sum_same : (f g : ℕ → ℕ) (ks : List ℕ) → ((k : ℕ) → f k ≡ g k) → sum f ks ≡ sum g ks
sum_same f g [] h = refl
sum_same f g (k ∷ ks) h = let a = h k in let b = sum_same f g ks h in omega (arith, a, b)

sum_shift : (f : ℕ → ℕ) (a k : ℕ) → sum f (range_with_len (a + 1) k) ≡ sum (λ p. f (p + 1)) (range_with_len a k)
sum_shift f a zero = refl
sum_shift f a (suc k) = ap (λ n. f (a + 1) + n) (sum_shift f (a + 1) k)

sum_none : (f : ℕ → ℕ) (a k : ℕ) → ((p : ℕ) → f p ≡ 0) → sum f (range_with_len a k) ≡ 0
sum_none f a zero h = refl
sum_none f a (suc k) h = let a' = h a in let r = sum_none f (a + 1) k h in omega (arith, a', r)

sum_total : (ls : List (List Item)) (k : ℕ) → sum (λ p. length (slice_index_or ls p [])) (range_with_len 0 k) ≤ total ls
sum_total [] k = let e = sum_none (λ p. length (slice_index_or (let e : List (List Item) = [] in e) p [])) 0 k (λ p. refl) in omega (arith, e)
sum_total (l ∷ ls) zero = omega arith
sum_total (l ∷ ls) (suc k) =
    let s = sum_shift (λ p. length (slice_index_or (l ∷ ls) p [])) 0 k in
    let t = sum_same (λ p. length (slice_index_or (l ∷ ls) (p + 1) [])) (λ p. length (slice_index_or ls p [])) (range_with_len 0 k) (λ p. next p) in
    let r = sum_total ls k in
    omega (arith, s, t, r)
  where
    next : (p : ℕ) → length (slice_index_or (l ∷ ls) (p + 1) []) ≡ length (slice_index_or ls p [])
    next p = let e : p + 1 ≡ suc p = omega arith in ap (λ q. length (slice_index_or (l ∷ ls) q [])) e

-- how many segments the log at a place takes
abbrev pub count_at : Config → World → ℕ → ℕ
count_at c w p = segment_count c (length (log_at w p))

pub room_enough : (c : Config) (w : World) → IsConfig c → total w.logs ≤ 2 * w.events → HasRoomForAll c w → sum (count_at c w) (range_with_len 0 (log_count c)) ≤ 65536
room_enough c w i t h =
    let n : ℕ = log_count c in
    let r : ℕ = c.segment_records in
    let s : ℕ = sum (count_at c w) (range_with_len 0 n) in
    let a = sum_times (λ p. length (log_at w p)) c 0 n i.segment_records.0 in
    let b = sum_total w.logs n in
    elim (cases_lt s n) [
      | inl l ↦ omega (arith, l, h)
      | inr l ↦
          let e = parted s n r l in
          let m = at_most (s - n) (2 * w.events) r i.segment_records.0 (omega (arith, a, b, t, e)) in
          omega (arith, m, l, h)
    ]
  where
    parted : (s n r : ℕ) → n ≤ s → s * r ≡ (s - n) * r + n * r
    parted s n r l = let e : s ≡ (s - n) + n = omega (arith, l) in ap (λ k. k * r) e ∙ add-mul (s - n) n r

-- ---- one that isn't there yet

pub sum_less : (f g : ℕ → ℕ) (q a k : ℕ) → ((p : ℕ) → f p ≤ g p) → a ≤ q → q < a + k → f q < g q → sum f (range_with_len a k) < sum g (range_with_len a k)
sum_less f g q a zero h l m d = absurd (omega (arith, l, m))
sum_less f g q a (suc k) h l m d = elim (cases_lt a q) [
  | inl b ↦ let r = sum_less f g q (a + 1) k h (omega (arith, b)) (omega (arith, m)) d in let o = h a in omega (arith, r, o)
  | inr b ↦ let e : a ≡ q = omega (arith, b, l) in let x = subst (λ p. f p < g p) (sym e) d in let r = sum_most f g (range_with_len (a + 1) k) h in omega (arith, x, r)
]
  where
    sum_most : (f g : ℕ → ℕ) (ks : List ℕ) → ((p : ℕ) → f p ≤ g p) → sum f ks ≤ sum g ks
    sum_most f g [] h = omega arith
    sum_most f g (k ∷ ks) h = let o = h k in let r = sum_most f g ks h in omega (arith, o, r)
