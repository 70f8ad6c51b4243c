-- The record at a place of those under heads.
use Rattle.std.proofs.Common.{◌≡◌, ℕ, zero, suc, ◌+◌, ◌-◌, ◌<◌, ◌≤◌, List, [], ◌∷◌, length, take, drop, Some, refl, sym, ap, ◌∙◌, arith}
use Rattle.std.specs.List.{slice_get}
use Rattle.std.proofs.lemmas.List.{length-append, length-take, length-take-le}
use Rattle.std.proofs.lemmas.Option.{slice_get_within}
use Rattle.eos_batch.specs.declared.record.Record.{Record}
use Rattle.eos_fold.specs.Heads.{DataHead}
use Rattle.eos_fold.proofs.ListPlaces.{get_left, get_right_at, get_drop, get_take}
use Rattle.eos_kept.specs.Items.{item_at, items_at, items_under}
use Rattle.eos_kept.specs.steps.Counts.{count_in}

-- ---- how many there are

pub at_length : (h : DataHead) (place : ℕ) (rs : List Record) → length (items_at h place rs) ≡ length rs
at_length h place [] = refl
at_length h place (r ∷ rs) = ap suc (at_length h (suc place) rs)

-- not more than the heads say
pub under_count : (hs : List DataHead) (place : ℕ) (rs : List Record) → length (items_under hs place rs) ≤ count_in hs
under_count [] place rs = omega arith
under_count (h ∷ hs) place rs =
    let n = h.count - place in
    omega (arith, length-append (items_at h place (take n rs)) (items_under hs 0 (drop n rs)), at_length h place (take n rs), length-take n rs, under_count hs 0 (drop n rs))

pub count_more : (hs : List DataHead) (i : ℕ) (h : DataHead) → slice_get hs i ≡ Some h → count_in (take (i + 1) hs) ≡ count_in (take i hs) + h.count
count_more hs i h at = let z : i + 1 ≡ suc i = omega arith in ap (λ (n : ℕ). count_in (take n hs)) z ∙ step hs i at
  where
    step : (gs : List DataHead) (k : ℕ) → slice_get gs k ≡ Some h → count_in (take (suc k) gs) ≡ count_in (take k gs) + h.count
    step [] k e = absurd cc
    step (g ∷ gs) zero e =
        let same : g ≡ h = cc in
        ap (λ (x : DataHead). x.count + count_in (take 0 gs)) same ∙ (let z : h.count + 0 ≡ 0 + h.count = omega arith in z)
    step (g ∷ gs) (suc k) e = omega (arith, step gs k e)

-- ---- the one at a place

pub at_get : (h : DataHead) (n : ℕ) (rs : List Record) (i : ℕ) (r : Record) → slice_get rs i ≡ Some r → slice_get (items_at h n rs) i ≡ Some (item_at h (n + i) r)
at_get h n [] i r e = absurd cc
at_get h n (q ∷ qs) zero r e =
    let same : q ≡ r = cc in
    let z : n ≡ n + 0 = omega arith in
    ap (λ (x : Record). Some (item_at h n x)) same ∙ ap (λ (k : ℕ). Some (item_at h k r)) z
at_get h n (q ∷ qs) (suc i) r e =
    let z : suc n + i ≡ n + suc i = omega arith in
    at_get h (suc n) qs i r e ∙ ap (λ (k : ℕ). Some (item_at h k r)) z

-- of the first batch
first_get : (h : DataHead) (hs : List DataHead) (rs : List Record) (i : ℕ) (r : Record) → i < h.count → slice_get rs i ≡ Some r → slice_get (items_under (h ∷ hs) 0 rs) i ≡ Some (item_at h i r)
first_get h hs rs i r lt e =
    let n = h.count - 0 in
    let own : slice_get (take n rs) i ≡ Some r = get_take n rs i (omega (arith, lt)) ∙ e in
    let z : 0 + i ≡ i = omega arith in
    let found : slice_get (items_at h 0 (take n rs)) i ≡ Some (item_at h i r) = at_get h 0 (take n rs) i r own ∙ ap (λ (k : ℕ). Some (item_at h k r)) z in
    get_left (items_at h 0 (take n rs)) (items_under hs 0 (drop n rs)) i (slice_get_within (items_at h 0 (take n rs)) i (item_at h i r) found) ∙ found

-- of a later one
later_get : (h : DataHead) (hs : List DataHead) (rs : List Record) (i : ℕ) → h.count ≤ length rs → slice_get (items_under (h ∷ hs) 0 rs) (h.count + i) ≡ slice_get (items_under hs 0 (drop (h.count - 0) rs)) i
later_get h hs rs i le =
    let n = h.count - 0 in
    let size : length (take n rs) ≡ n = length-take-le n rs (omega (arith, le)) in
    get_right_at (items_at h 0 (take n rs)) (items_under hs 0 (drop n rs)) (h.count + i) i (omega (arith, size, at_length h 0 (take n rs)))

pub under_get : (hs : List DataHead) (rs : List Record) (k place : ℕ) (h : DataHead) (r : Record) → slice_get hs k ≡ Some h → place < h.count → slice_get rs (count_in (take k hs) + place) ≡ Some r
    → slice_get (items_under hs 0 rs) (count_in (take k hs) + place) ≡ Some (item_at h place r)
under_get [] rs k place h r at lt e = absurd cc
under_get (g ∷ gs) rs zero place h r at lt e =
    let same : h ≡ g = cc in
    let inside : place < g.count = omega (arith, lt, ap (λ (x : DataHead). x.count) same) in
    let z : 0 + place ≡ place = omega arith in
    ap (slice_get (items_under (g ∷ gs) 0 rs)) z
    ∙ (first_get g gs rs place r inside (sym (ap (slice_get rs) z) ∙ e)
    ∙ ap (λ (x : DataHead). Some (item_at x place r)) (sym same))
under_get (g ∷ gs) rs (suc k) place h r at lt e =
    let before = count_in (take k gs) in
    let within : (g.count + before) + place < length rs = slice_get_within rs ((g.count + before) + place) r e in
    let z : (g.count + before) + place ≡ g.count + (before + place) = omega arith in
    let n : (g.count - 0) + (before + place) ≡ (g.count + before) + place = omega arith in
    let left : slice_get (drop (g.count - 0) rs) (before + place) ≡ Some r = get_drop (g.count - 0) rs (before + place) ∙ (ap (slice_get rs) n ∙ e) in
    ap (slice_get (items_under (g ∷ gs) 0 rs)) z
    ∙ (later_get g gs rs (before + place) (omega (arith, within))
    ∙ under_get gs (drop (g.count - 0) rs) k place h r at lt left)
