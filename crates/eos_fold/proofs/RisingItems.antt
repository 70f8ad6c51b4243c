-- The offsets of a front's data records rise.
use Rattle.std.proofs.Common.{◌≡◌, ℕ, suc, ◌+◌, ◌<◌, ◌≤◌, Bool, true, false, List, [], ◌∷◌, ◌++◌, length, ap, subst, arith, not}
use Rattle.std.specs.Prelude.{if◌then◌else◌, unsigned_abs}
use Rattle.std.specs.List.{AllByRecursion}
use Rattle.std.proofs.lemmas.List.Elements.{All-from_recursion}
use Rattle.std.proofs.lemmas.List.Kept.{AllPairs-cons}
use Rattle.eos_batch.specs.declared.batch.Batch.{Batch}
use Rattle.eos_batch.specs.declared.record.Record.{Record}
use Rattle.eos_batch.specs.Attributes.{is_control}
use Rattle.eos_fold.specs.declared.item.Item.{Item}
use Rattle.eos_fold.specs.Batches.{DataBatch}
use Rattle.eos_fold.specs.Items.{items_from, items_in, items_of}
use Rattle.eos_batch.specs.Offsets.{offset_of}
use Rattle.eos_touch.specs.Front.{records_in, ContinuesFrom}
use Rattle.eos_fold.specs.Parts.{Rises}
use Rattle.eos_fold.specs.Settling.{data_after, data_in}

-- offsets rise, from the first of these to below the second
abbrev Within : ℕ → ℕ → List Item → Type 0
Within low high [] = low ≤ high
Within low high (x ∷ xs) = (low ≤ x.offset) × Within (x.offset + 1) high xs

lower : (m n high : ℕ) (xs : List Item) → m ≤ n → Within n high xs → Within m high xs
lower m n high [] l h = omega (arith, l, h)
lower m n high (x ∷ xs) l h = let f = h.0 in (omega (arith, l, f), h.1)

joined : (low mid high : ℕ) (xs ys : List Item) → Within low mid xs → Within mid high ys → Within low high (xs ++ ys)
joined low mid high [] ys h k = lower low mid high ys h k
joined low mid high (x ∷ xs) ys h k = (h.0, joined (x.offset + 1) mid high xs ys h.1 k)

of_batch : (b : DataBatch) (low place high : ℕ) (rs : List Record) → low ≤ b.offset + place → b.offset + place + length rs ≤ high → Within low high (items_from b place rs)
of_batch b low place high [] l h = omega (arith, l, h)
of_batch b low place high (r ∷ rs) l h = (l, of_batch b (b.offset + place + 1) (suc place) high rs (omega arith) (omega (arith, h)))

by_test : (d : DataBatch) (low mid high : ℕ) (rest : List DataBatch) → low ≤ d.offset → d.offset + length d.records ≤ mid → Within mid high (items_of rest) → (t : Bool) → Within low high (items_of ((if t then d ∷ [] else []) ++ rest))
by_test d low mid high rest l h k true = joined low mid high (items_in d) (items_of rest) (of_batch d low 0 mid d.records (omega (arith, l)) (omega (arith, h))) k
by_test d low mid high rest l h k false = lower low mid high (items_of rest) (omega (arith, l, h)) k

within : (n : ℕ) (bs : List Batch) → ContinuesFrom n bs → Within n (n + records_in bs) (items_of (data_in bs))
within n [] h = omega arith
within n (b ∷ bs) h =
    let at : offset_of b ≡ n = ap unsigned_abs h.0 in
    let sum : n + length b.records + records_in bs ≡ n + (length b.records + records_in bs) = omega arith in
    by_test (data_after b bs) n (n + length b.records) (n + (length b.records + records_in bs)) (data_in bs) (omega (arith, at)) (omega (arith, at))
    (subst (λ (high : ℕ). Within (n + length b.records) high (items_of (data_in bs))) sum (within (n + length b.records) bs h.1)) (not (is_control b.attributes))

above : (k low high : ℕ) (xs : List Item) → k < low → Within low high xs → AllByRecursion (λ y. k < y.offset) xs
above k low high [] l h = tt
above k low high (x ∷ xs) l h = let f = h.0 in (omega (arith, l, f), above k (x.offset + 1) high xs (omega (arith, l, f)) h.1)

rises : (low high : ℕ) (xs : List Item) → Within low high xs → Rises xs
rises low high [] h = λ i j d lt hi. absurd (omega (arith, hi))
rises low high (x ∷ xs) h = AllPairs-cons (λ (a : Item) (b : Item). a.offset < b.offset) x xs (All-from_recursion (λ (y : Item). x.offset < y.offset) xs (above x.offset (x.offset + 1) high xs (omega arith) h.1)) (rises (x.offset + 1) high xs h.1)

pub items_rise : (n : ℕ) (bs : List Batch) → ContinuesFrom n bs → Rises (items_of (data_in bs))
items_rise n bs h = rises n (n + records_in bs) (items_of (data_in bs)) (within n bs h)
