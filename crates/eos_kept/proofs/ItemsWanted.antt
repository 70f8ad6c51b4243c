-- The records that are kept, under the heads of their batches, are what is wanted of the log's data records.
use Rattle.std.proofs.Common.{◌≡◌, ℕ, suc, ◌-◌, List, [], ◌∷◌, ◌++◌, length, map, take, drop, refl, sym, ap, ◌∙◌, arith}
use Rattle.std.proofs.lemmas.List.{map-append, length-map}
use Rattle.std.proofs.Math.Seq.{take-append_seam, drop-append_seam}
use Rattle.eos_batch.specs.declared.record.Record.{Record}
use Rattle.eos_fold.specs.declared.item.Item.{Item}
use Rattle.eos_fold.specs.Batches.{DataBatch}
use Rattle.eos_fold.specs.Heads.{data_head}
use Rattle.eos_fold.specs.Items.{item_of, items_from, items_in, items_of}
use Rattle.eos_kept.specs.Runs.{heads_of}
use Rattle.eos_reading.specs.declared.wanted.Wanted.{Wanted}
use Rattle.eos_reading.specs.declared.wanted.Wanted.TheVariants.{Presence, Claims, Texts}
use Rattle.eos_reading.specs.Wanted.{wanted_item}
use Rattle.eos_reading.specs.Records.{wanted_record}
use Rattle.eos_kept.specs.Items.{item_at, items_at, items_under}
use Rattle.eos_kept.specs.steps.Fronts.{records_of}

one_wanted : (w : Wanted) (d : DataBatch) (place : ℕ) (r : Record) → item_at (data_head d) place (wanted_record w r) ≡ wanted_item w (item_of d place r)
one_wanted Presence d place r = refl
one_wanted Claims d place r = refl
one_wanted Texts d place r = refl

batch_wanted : (w : Wanted) (d : DataBatch) (place : ℕ) (rs : List Record) → items_at (data_head d) place (map (wanted_record w) rs) ≡ map (wanted_item w) (items_from d place rs)
batch_wanted w d place [] = refl
batch_wanted w d place (r ∷ rs) = rw (one_wanted w d place r, batch_wanted w d (suc place) rs) refl

-- a list in front of another, by its length
front_taken : {X : Type 0} (n : ℕ) (xs ys : List X) → n ≡ length xs → take n (xs ++ ys) ≡ xs
front_taken {X} n xs ys e = ap (λ (k : ℕ). take k (xs ++ ys)) e ∙ take-append_seam xs ys

front_dropped : {X : Type 0} (n : ℕ) (xs ys : List X) → n ≡ length xs → drop n (xs ++ ys) ≡ ys
front_dropped {X} n xs ys e = ap (λ (k : ℕ). drop k (xs ++ ys)) e ∙ drop-append_seam xs ys

pub items_wanted : (w : Wanted) (ds : List DataBatch) → items_under (heads_of ds) 0 (map (wanted_record w) (records_of ds)) ≡ map (wanted_item w) (items_of ds)
items_wanted w [] = refl
items_wanted w (d ∷ ds) =
    let g = wanted_record w in
    let own : List Record = map g d.records in
    let rest : List Record = map g (records_of ds) in
    let parts : map g (records_of (d ∷ ds)) ≡ own ++ rest = map-append g d.records (records_of ds) in
    let n : length d.records - 0 ≡ length own = let m = length-map d.records g in omega (arith, m) in
    ap (λ (rs : List Record). items_under (heads_of (d ∷ ds)) 0 rs) parts
    ∙ (ap (λ (rs : List Record). items_at (data_head d) 0 rs ++ items_under (heads_of ds) 0 (drop (length d.records - 0) (own ++ rest))) (front_taken (length d.records - 0) own rest n)
    ∙ (ap (λ (rs : List Record). items_at (data_head d) 0 own ++ items_under (heads_of ds) 0 rs) (front_dropped (length d.records - 0) own rest n)
    ∙ (ap (λ (xs : List Item). xs ++ items_under (heads_of ds) 0 rest) (batch_wanted w d 0 d.records)
    ∙ (ap (λ (xs : List Item). map (wanted_item w) (items_in d) ++ xs) (items_wanted w ds)
    ∙ sym (map-append (wanted_item w) (items_in d) (items_of ds))))))
