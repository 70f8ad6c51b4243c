-- What is wanted of a record, and of a log.
use Rattle.std.proofs.Common.{◌≡◌, ◌↔◌, ℕ, ◌<◌, List, [], ◌∷◌, map, refl, sym, ap}
use Rattle.std.specs.Prelude.{None}
use Rattle.eos_fold.specs.declared.item.Item.{Item}
use Rattle.eos_fold.specs.Parts.{PartLog, Rises}
use Rattle.eos_reading.specs.Wanted.{wanted_headers, wanted_item, wanted_log}
use Rattle.eos_reading.specs.declared.wanted.Wanted.{Wanted}
use Rattle.eos_reading.specs.declared.wanted.Wanted.TheVariants.{Presence, Claims, Texts}
use Rattle.eos_reading.proofs.ClaimHeaders.{back}
use Rattle.eos_reading.proofs.SameThrough.{pairs_same}

pub offset_kept : (w : Wanted) (x : Item) → (wanted_item w x).offset ≡ x.offset
offset_kept Presence x = refl
offset_kept Claims x = refl
offset_kept Texts x = refl

pub item_twice : (w : Wanted) (x : Item) → wanted_item w (wanted_item w x) ≡ wanted_item w x
item_twice Presence x = refl
item_twice Claims x = ap (λ hs. record x { key = None; value = None; headers = wanted_headers hs }) (back x.headers)
item_twice Texts x = ap (λ hs. record x { headers = wanted_headers hs }) (back x.headers)

items_twice : (w : Wanted) (xs : List Item) → map (wanted_item w) (map (wanted_item w) xs) ≡ map (wanted_item w) xs
items_twice w [] = refl
items_twice w (x ∷ xs) = rw (item_twice w x, items_twice w xs) refl

pub log_twice : (w : Wanted) (p : PartLog) → wanted_log w (wanted_log w p) ≡ wanted_log w p
log_twice w p = ap (λ (xs : List Item). record p { segments = []; items = xs }) (items_twice w p.items)

-- ---- offsets

abbrev offset_in : Item → ℕ
offset_in x = x.offset

offsets_kept : (w : Wanted) (xs : List Item) → map offset_in (map (wanted_item w) xs) ≡ map offset_in xs
offsets_kept w [] = refl
offsets_kept w (x ∷ xs) = rw (offset_kept w x, offsets_kept w xs) refl

pub rises_kept : (w : Wanted) (xs : List Item) → Rises (map (wanted_item w) xs) ↔ Rises xs
rises_kept w xs = (
  pairs_same offset_in (map (wanted_item w) xs) xs (offsets_kept w xs) (λ m n. m < n),
  pairs_same offset_in xs (map (wanted_item w) xs) (sym (offsets_kept w xs)) (λ m n. m < n),
)
