-- The records under heads, batch by batch.
use Rattle.std.proofs.Common.{◌≡◌, ℕ, ◌+◌, ◌-◌, ◌<◌, List, ◌∷◌, ◌++◌, length, take, drop, Some, sym, ap, ◌∙◌, arith}
use Rattle.std.specs.List.{slice_get}
use Rattle.std.specs.Prelude.{min}
use Rattle.std.proofs.lemmas.List.{take_min, drop_min}
use Rattle.eos_batch.specs.declared.record.Record.{Record}
use Rattle.eos_fold.specs.Heads.{DataHead}
use Rattle.eos_fold.proofs.ListPlaces.{get_drop, get_take}
use Rattle.eos_kept.specs.Items.{item_at, items_at, items_under}
use Rattle.eos_kept.proofs.HeadPlaces.{at_get}

-- those of the first batch, as far as there are records, stand before those of the others
pub first_batch : (h : DataHead) (hs : List DataHead) (rs : List Record) (n : ℕ) → n ≡ min h.count (length rs) → items_under (h ∷ hs) 0 rs ≡ items_at h 0 (take n rs) ++ items_under hs 0 (drop n rs)
first_batch h hs rs n e =
    let z : h.count - 0 ≡ h.count = omega arith in
    let own : take h.count rs ≡ take n rs = sym (take_min h.count rs) ∙ ap (λ (k : ℕ). take k rs) (sym e) in
    let rest : drop h.count rs ≡ drop n rs = sym (drop_min h.count rs) ∙ ap (λ (k : ℕ). drop k rs) (sym e) in
    ap (λ (k : ℕ). items_at h 0 (take k rs) ++ items_under hs 0 (drop k rs)) z
    ∙ (ap (λ (qs : List Record). items_at h 0 qs ++ items_under hs 0 (drop h.count rs)) own
    ∙ ap (λ (qs : List Record). items_at h 0 (take n rs) ++ items_under hs 0 qs) rest)

-- where the heads behind some begin with this one, it stands there
pub head_behind : (hs : List DataHead) (k : ℕ) (h : DataHead) (rest : List DataHead) → drop k hs ≡ h ∷ rest → slice_get hs k ≡ Some h
head_behind hs k h rest e =
    let z : k + 0 ≡ k = omega arith in
    sym (ap (slice_get hs) z) ∙ (sym (get_drop k hs 0) ∙ ap (λ (gs : List DataHead). slice_get gs 0) e)

-- the record at a place of a batch, some records being passed
pub batch_get : (h : DataHead) (rs : List Record) (passed n i : ℕ) (r : Record) → i < n → slice_get rs (passed + i) ≡ Some r → slice_get (items_at h 0 (take n (drop passed rs))) i ≡ Some (item_at h i r)
batch_get h rs passed n i r lt e =
    let here : slice_get (take n (drop passed rs)) i ≡ Some r = get_take n (drop passed rs) i lt ∙ (get_drop passed rs i ∙ e) in
    let z : 0 + i ≡ i = omega arith in
    at_get h 0 (take n (drop passed rs)) i r here ∙ ap (λ (k : ℕ). Some (item_at h k r)) z
