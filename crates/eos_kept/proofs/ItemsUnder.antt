-- The records under heads, one after the other.
use Rattle.std.proofs.Common.{◌≡◌, ℕ, zero, suc, ◌+◌, ◌-◌, ◌<◌, ◌≤◌, List, [], ◌∷◌, ◌++◌, length, take, drop, Some, refl, sym, ap, ◌∙◌, arith}
use Rattle.std.specs.List.{slice_get}
use Rattle.std.proofs.lemmas.List.{drop_all}
use Rattle.eos_batch.specs.declared.record.Record.{Record}
use Rattle.eos_fold.specs.Heads.{DataHead}
use Rattle.eos_fold.proofs.ListPlaces.{drop_get}
use Rattle.eos_kept.specs.Items.{item_at, items_at, items_under}

-- no record is left
pub none_left : (hs : List DataHead) (place : ℕ) → items_under hs place [] ≡ []
none_left [] place = refl
none_left (h ∷ hs) place = by (h.count - place) (none_left hs 0)
  where
    by : (n : ℕ) → items_under hs 0 [] ≡ [] → items_at h place (take n []) ++ items_under hs 0 (drop n []) ≡ []
    by zero e = e
    by (suc n) e = e

-- the first batch has ended
ended : (h : DataHead) (hs : List DataHead) (place : ℕ) (rs : List Record) → h.count ≤ place → items_under (h ∷ hs) place rs ≡ items_under hs 0 rs
ended h hs place rs le =
    let z : h.count - place ≡ 0 = omega (arith, le) in
    ap (λ (n : ℕ). items_at h place (take n rs) ++ items_under hs 0 (drop n rs)) z

-- the first batch has a further record
next_under : (h : DataHead) (hs : List DataHead) (place : ℕ) (r : Record) (rs : List Record) → place < h.count → items_under (h ∷ hs) place (r ∷ rs) ≡ item_at h place r ∷ items_under (h ∷ hs) (place + 1) rs
next_under h hs place r rs lt =
    let m = h.count - (place + 1) in
    let z : h.count - place ≡ suc (h.count - (place + 1)) = omega (arith, lt) in
    let s : suc place ≡ place + 1 = omega arith in
    ap (λ (n : ℕ). items_at h place (take n (r ∷ rs)) ++ items_under hs 0 (drop n (r ∷ rs))) z
    ∙ ap (λ (k : ℕ). item_at h place r ∷ (items_at h k (take m rs) ++ items_under hs 0 (drop m rs))) s

drop_next : {X : Type 0} (xs : List X) (i : ℕ) (x : X) → slice_get xs i ≡ Some x → drop i xs ≡ x ∷ drop (i + 1) xs
drop_next {X} xs i x e =
    let s : suc i ≡ i + 1 = omega arith in
    drop_get xs i x e ∙ ap (λ (k : ℕ). x ∷ drop k xs) s

pub skipped : (hs : List DataHead) (i place : ℕ) (h : DataHead) (rs : List Record) → slice_get hs i ≡ Some h → h.count ≤ place → items_under (drop i hs) place rs ≡ items_under (drop (i + 1) hs) 0 rs
skipped hs i place h rs at le = ap (λ (gs : List DataHead). items_under gs place rs) (drop_next hs i h at) ∙ ended h (drop (i + 1) hs) place rs le

pub past : (hs : List DataHead) (i place : ℕ) (rs : List Record) → length hs ≤ i → items_under (drop i hs) place rs ≡ []
past hs i place rs le = ap (λ (gs : List DataHead). items_under gs place rs) (drop_all i hs le)

pub used_up : (hs : List DataHead) (place i : ℕ) (rs : List Record) → length rs ≤ i → items_under hs place (drop i rs) ≡ []
used_up hs place i rs le = ap (λ (qs : List Record). items_under hs place qs) (drop_all i rs le) ∙ none_left hs place

pub taken : (hs : List DataHead) (i place : ℕ) (h : DataHead) (rs : List Record) (passed : ℕ) (r : Record) → slice_get hs i ≡ Some h → slice_get rs passed ≡ Some r → place < h.count
    → items_under (drop i hs) place (drop passed rs) ≡ item_at h place r ∷ items_under (drop i hs) (place + 1) (drop (passed + 1) rs)
taken hs i place h rs passed r at here lt =
    let heads = drop_next hs i h at in
    ap (λ (gs : List DataHead). items_under gs place (drop passed rs)) heads
    ∙ (ap (λ (qs : List Record). items_under (h ∷ drop (i + 1) hs) place qs) (drop_next rs passed r here)
    ∙ (next_under h (drop (i + 1) hs) place r (drop (passed + 1) rs) lt
    ∙ ap (λ (gs : List DataHead). item_at h place r ∷ items_under gs (place + 1) (drop (passed + 1) rs)) (sym heads)))
