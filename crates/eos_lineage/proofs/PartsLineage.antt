-- What parts in the order of their names give an application.
use Rattle.std.proofs.Common.{◌≡◌, ◌+◌, ◌<◌, ℕ, zero, suc, List, [], ◌∷◌, ◌++◌, length, map, Option, Some, None, refl, sym, subst, ap, ◌∙◌, inl, inr, ◌⊎◌, true, false, Bool, arith, if◌then◌else◌, IsPermutation, IsSorted, cond}
use Rattle.std.specs.Prelude.{slice_index_or}
use Rattle.std.specs.List.{flat_map, filter, AllPairs}
use Rattle.std.specs.Ordering.{nat_cmp, is_eq, is_lt, ordering_reverse, ordering_then}
use Rattle.std.specs.Cmp.Lexicographic.{slice_cmp}
use Rattle.std.specs.declared.cmp.Ordering.TheVariants.{Less, Equal}
use Rattle.std.proofs.lemmas.Cmp.{tied_itself}
use Rattle.std.proofs.lemmas.List.Sorted.{list_any-IsPermutation}
use Rattle.eos_base.specs.declared.partition_name.PartitionName.{PartitionName}
use Rattle.eos_base.specs.Members.{Has}
use Rattle.eos_base.specs.PartitionNames.{name_cmp}
use Rattle.eos_base.proofs.NamesInOrder.{name_total}
use Rattle.eos_base.proofs.Membership.{append_cases, flat_has, map_has, has_map, filter_has, only}
use Rattle.eos_fold.specs.declared.item.Item.{Item}
use Rattle.eos_fold.specs.Parts.{part_name, PartLog, Rises}
use Rattle.eos_evidence.specs.declared.application.App.{App}
use Rattle.eos_claims.specs.declared.claim.Claim.{Claim}
use Rattle.eos_claims.specs.declared.place.Place.{Place}
use Rattle.eos_claims.specs.declared.place.PlaceRef.{PlaceRef}
use Rattle.eos_claims.specs.Headers.{claim_of}
use Rattle.eos_claims.specs.Outputs.{PlacedClaim}
use Rattle.eos_claims.specs.Faults.{place_cmp}
use Rattle.eos_claims.specs.Candidates.{AreApart}
use Rattle.eos_claims.specs.Plain.{plain_place}
use Rattle.eos_claims.proofs.ClaimOrder.{nat_less}
use Rattle.eos_claims.proofs.FaultOrder.{place_total}
use Rattle.eos_commits.specs.Visible.{is_visible, visible}
use Rattle.eos_commits.specs.Faults.{AreInOrder}
use Rattle.eos_commits.specs.Applications.{Topic, is_part_of, parts_of, place_in, inputs_in, claims_with, claims_at, claims_in, placed, application_of}
use Rattle.eos_lineage.specs.steps.Keys.{Climbs}
use Rattle.eos_lineage.specs.steps.Walks.{input_at, inputs_at, claims_of_part, by_place}
use Rattle.eos_commits.proofs.NameSearch.{pairs_head, pairs_tail}

-- ---- lists that are made of parts

flat_filter : {X Y : Type 0} (f : X → List Y) (q : X → Bool) (xs : List X) → flat_map f (filter q xs) ≡ flat_map (λ x. if q x then f x else []) xs
flat_filter f q [] = refl
flat_filter {X} {Y} f q (x ∷ xs) = go (q x) (flat_filter f q xs)
  where
    go : (b : Bool) → flat_map f (filter q xs) ≡ flat_map (λ x. if q x then f x else []) xs
        → flat_map f (cond b (x ∷ filter q xs) (filter q xs)) ≡ (if b then f x else []) ++ flat_map (λ x. if q x then f x else []) xs
    go true r = ap (λ (ys : List Y). f x ++ ys) r
    go false r = r

map_filter : {X Y : Type 0} (f : X → Y) (q : X → Bool) (xs : List X) → map f (filter q xs) ≡ flat_map (λ x. if q x then f x ∷ [] else []) xs
map_filter f q [] = refl
map_filter {X} {Y} f q (x ∷ xs) = go (q x) (map_filter f q xs)
  where
    go : (b : Bool) → map f (filter q xs) ≡ flat_map (λ x. if q x then f x ∷ [] else []) xs
        → map f (cond b (x ∷ filter q xs) (filter q xs)) ≡ (if b then f x ∷ [] else []) ++ flat_map (λ x. if q x then f x ∷ [] else []) xs
    go true r = ap (λ (ys : List Y). f x ∷ ys) r
    go false r = r

flat_same : {X Y : Type 0} (f g : X → List Y) (xs : List X) → ((x : X) → f x ≡ g x) → flat_map f xs ≡ flat_map g xs
flat_same f g [] e = refl
flat_same f g (x ∷ xs) e = λ i. e x i ++ flat_same f g xs e i

same_part : (topics set : List Topic) (p : PartLog) → IsPermutation topics set → is_part_of set p ≡ is_part_of topics p
same_part topics set p perm = sym (list_any-IsPermutation (λ y. is_eq (slice_cmp nat_cmp y p.topic)) topics set perm)

pub claims_same : (topics set : List Topic) (ps : List PartLog) → IsPermutation topics set → flat_map (claims_of_part set) ps ≡ flat_map claims_in (parts_of topics ps)
claims_same topics set ps perm =
    flat_same (claims_of_part set) (λ p. if is_part_of topics p then claims_in p else []) ps
    (λ p. (λ i. if same_part topics set p perm i then sym (flat_filter (claims_at (part_name p)) (λ x. is_visible x.fate) p.items) i else []))
    ∙ sym (flat_filter claims_in (is_part_of topics) ps)

pub inputs_same : (topics set : List Topic) (ps : List PartLog) → IsPermutation topics set → flat_map (inputs_at set) ps ≡ flat_map inputs_in (parts_of topics ps)
inputs_same topics set ps perm =
    flat_same (inputs_at set) (λ p. if is_part_of topics p then inputs_in p else []) ps
    (λ p. (λ i. if same_part topics set p perm i then sym (map_filter (place_in (part_name p)) (λ x. is_visible x.fate) p.items) i else []))
    ∙ sym (flat_filter inputs_in (is_part_of topics) ps)

-- ---- names

pub input_named : (app : App) (ps : List PartLog) (i : Place) → Has (application_of app ps).inputs i → Has (map part_name ps) i.partition
input_named app ps i h =
    let r = flat_has inputs_in (parts_of app.sources ps) i h in
    let p = filter_has (is_part_of app.sources) ps r.0 r.1 in
    let m = map_has (place_in (part_name r.0)) (visible r.0) i r.2 in
    subst (λ (j : Place). Has (map part_name ps) j.partition) m.2 (has_map part_name ps r.0 p.0)

-- ---- no two claims at one place

pairs_of : {X : Type 0} (R : X → X → Type 0) (xs : List X) → AllPairs R xs → (x y : X) → Has xs x → Has xs y → (x ≡ y) ⊎ (R x y ⊎ R y x)
pairs_of R [] up x y h k = absurd h
pairs_of R (z ∷ zs) up x y (inl e) (inl f) = inl (sym e ∙ f)
pairs_of R (z ∷ zs) up x y (inl e) (inr k) = inr (inl (subst (λ w. R w y) e (pairs_head R z zs up y k)))
pairs_of R (z ∷ zs) up x y (inr h) (inl f) = inr (inr (subst (λ w. R w x) f (pairs_head R z zs up x h)))
pairs_of R (z ∷ zs) up x y (inr h) (inr k) = pairs_of R zs (pairs_tail R z zs up) x y h k

apart_names : (p q : PartitionName) → name_cmp p q ≡ Less → p ≡ q → ⊥
apart_names p q l e = let t = tied_itself name_total p in let s : name_cmp p p ≡ Less = subst (λ z. name_cmp p z ≡ Less) (sym e) l in let w : Less ≡ Equal = sym s ∙ t in cc

one_part : (ps : List PartLog) → AreInOrder ps → (p q : PartLog) → Has ps p → Has ps q → part_name p ≡ part_name q → p ≡ q
one_part ps are p q h k e = elim (pairs_of (λ (p q : PartLog). name_cmp (part_name p) (part_name q) ≡ Less) ps are.names p q h k) [
  | inl is ↦ is
  | inr (inl l) ↦ absurd (apart_names (part_name p) (part_name q) l e)
  | inr (inr l) ↦ absurd (apart_names (part_name q) (part_name p) l (sym e))
]

one_item : (xs : List Item) → Rises xs → (x y : Item) → Has xs x → Has xs y → x.offset ≡ y.offset → x ≡ y
one_item xs up x y h k e = elim (pairs_of (λ (x y : Item). x.offset < y.offset) xs up x y h k) [
  | inl is ↦ is
  | inr (inl l) ↦ absurd (omega (arith, l, e))
  | inr (inr l) ↦ absurd (omega (arith, l, e))
]

-- a claim is that of a visible record of a part
record From (ps : List PartLog) (c : PlacedClaim) : Type 0 where
  part : PartLog
  item : Item
  has_part : Has ps part
  has_item : Has part.items item
  is : Has (claims_at (part_name part) item) c

from : (app : App) (ps : List PartLog) (c : PlacedClaim) → Has (application_of app ps).claims c → From ps c
from app ps c h =
    let r = flat_has claims_in (parts_of app.outputs ps) c h in
    let p = filter_has (is_part_of app.outputs) ps r.0 r.1 in
    let m = flat_has (claims_at (part_name r.0)) (visible r.0) c r.2 in
    let v = filter_has (λ (x : Item). is_visible x.fate) r.0.items m.0 m.1 in
    record { part = r.0; item = m.0; has_part = p.0; has_item = v.0; is = m.2 }

at_of : (n : PartitionName) (x : Item) (c : PlacedClaim) (o : Option Claim) → Has (claims_with n x o) c → c.at ≡ place_in n x
at_of n x c None h = absurd h
at_of n x c (Some d) h = ap (λ (e : PlacedClaim). e.at) (sym (only (placed n x d) c h))

one_claim : (n : PartitionName) (x : Item) (c d : PlacedClaim) (o : Option Claim) → Has (claims_with n x o) c → Has (claims_with n x o) d → c ≡ d
one_claim n x c d None h k = absurd h
one_claim n x c d (Some e) h k = sym (only (placed n x e) c h) ∙ only (placed n x e) d k

pub apart : (app : App) (ps : List PartLog) → AreInOrder ps → AreApart (application_of app ps)
apart app ps are c d h k e =
    let f = from app ps c h in
    let g = from app ps d k in
    let same : place_in (part_name f.part) f.item ≡ place_in (part_name g.part) g.item
    = sym (at_of (part_name f.part) f.item c (claim_of f.item.headers) f.is) ∙ (e ∙ at_of (part_name g.part) g.item d (claim_of g.item.headers) g.is) in
    let p : f.part ≡ g.part = one_part ps are f.part g.part f.has_part g.has_part (ap (λ (i : Place). i.partition) same) in
    let inside : Has f.part.items g.item = subst (λ (q : PartLog). Has q.items g.item) (sym p) g.has_item in
    let x : f.item ≡ g.item = one_item f.part.items (are.offsets f.part f.has_part) f.item g.item f.has_item inside (ap (λ (i : Place). i.offset) same) in
    let moved : Has (claims_at (part_name f.part) f.item) d = subst (λ (y : Item). Has (claims_at (part_name f.part) y) d) (sym x) (subst (λ (q : PartLog). Has (claims_at (part_name q) g.item) d) (sym p) g.is) in
    one_claim (part_name f.part) f.item c d (claim_of f.item.headers) f.is moved

-- ---- inputs in their order

climbs_append : (is js : List Place) → Climbs is → Climbs js → ((i j : Place) → Has is i → Has js j → place_cmp i j ≡ Less) → Climbs (is ++ js)
climbs_append [] js u v less = v
climbs_append (i ∷ is) js u v less = (
  λ j h. elim (append_cases is js j h) [ inl a ↦ u.0 j a | inr b ↦ less i j (inl refl) b ],
  climbs_append is js u.1 v (λ k j h g. less k j (inr h) g),
)

in_part : (n : PartitionName) (xs : List Item) → Rises xs → Climbs (flat_map (input_at n) xs)
in_part n [] up = tt
in_part n (x ∷ xs) up = climbs_append (input_at n x) (flat_map (input_at n) xs) (alone (is_visible x.fate)) (in_part n xs (pairs_tail (λ (x y : Item). x.offset < y.offset) x xs up)) less
  where
    alone : (b : Bool) → Climbs (if b then place_in n x ∷ [] else [])
    alone true = (λ j h. absurd h, tt)
    alone false = tt

    is_of : (y : Item) (b : Bool) (i : Place) → Has (if b then place_in n y ∷ [] else []) i → place_in n y ≡ i
    is_of y true i h = only (place_in n y) i h
    is_of y false i h = absurd h

    below : (y : Item) → x.offset < y.offset → place_cmp (place_in n x) (place_in n y) ≡ Less
    below y lt = subst (λ o. ordering_then o (nat_cmp x.offset y.offset) ≡ Less) (sym (tied_itself name_total n)) (nat_less x.offset y.offset lt)

    less : (i j : Place) → Has (input_at n x) i → Has (flat_map (input_at n) xs) j → place_cmp i j ≡ Less
    less i j h k =
        let r = flat_has (input_at n) xs j k in
        let lt = pairs_head (λ (x y : Item). x.offset < y.offset) x xs up r.0 r.1 in
        subst (λ z. place_cmp z j ≡ Less) (is_of x (is_visible x.fate) i h) (subst (λ z. place_cmp (place_in n x) z ≡ Less) (is_of r.0 (is_visible r.0.fate) j r.2) (below r.0 lt))

pub partition_of : (set : List Topic) (p : PartLog) (i : Place) → Has (inputs_at set p) i → i.partition ≡ part_name p
partition_of set p i h = go (is_part_of set p) h
  where
    of_item : (x : Item) (b : Bool) → Has (if b then place_in (part_name p) x ∷ [] else []) i → i.partition ≡ part_name p
    of_item x true h = ap (λ (j : Place). j.partition) (sym (only (place_in (part_name p) x) i h))
    of_item x false h = absurd h

    go : (b : Bool) → Has (if b then flat_map (input_at (part_name p)) p.items else []) i → i.partition ≡ part_name p
    go true h = let r = flat_has (input_at (part_name p)) p.items i h in of_item r.0 (is_visible r.0.fate) r.2
    go false h = absurd h

pub inputs_climb : (set : List Topic) (ps : List PartLog) → AllPairs (λ p q. name_cmp (part_name p) (part_name q) ≡ Less) ps → ((p : PartLog) → Has ps p → Rises p.items) → Climbs (flat_map (inputs_at set) ps)
inputs_climb set [] up rise = tt
inputs_climb set (p ∷ ps) up rise = climbs_append (inputs_at set p) (flat_map (inputs_at set) ps) (here (is_part_of set p))
    (inputs_climb set ps (pairs_tail (λ (p q : PartLog). name_cmp (part_name p) (part_name q) ≡ Less) p ps up) (λ q h. rise q (inr h))) less
  where
    here : (b : Bool) → Climbs (if b then flat_map (input_at (part_name p)) p.items else [])
    here true = in_part (part_name p) p.items (rise p (inl refl))
    here false = tt

    less : (i j : Place) → Has (inputs_at set p) i → Has (flat_map (inputs_at set) ps) j → place_cmp i j ≡ Less
    less i j h k =
        let r = flat_has (inputs_at set) ps j k in
        let l = pairs_head (λ (p q : PartLog). name_cmp (part_name p) (part_name q) ≡ Less) p ps up r.0 r.1 in
        let m : name_cmp i.partition j.partition ≡ Less = subst (λ z. name_cmp z j.partition ≡ Less) (sym (partition_of set p i h)) (subst (λ z. name_cmp (part_name p) z ≡ Less) (sym (partition_of set r.0 j r.2)) l) in
        subst (λ o. ordering_then o (nat_cmp i.offset j.offset) ≡ Less) (sym m) refl

pub sorted_inputs : (rs : List PlaceRef) → Climbs (map plain_place rs) → IsSorted by_place rs
sorted_inputs rs up = λ k d lo hi. let q : suc k ≡ k + 1 = omega arith in subst (λ j. is_lt (by_place (slice_index_or rs j d) (slice_index_or rs k d)) ≡ false) q (neighbours rs up k d (omega (arith, hi)))
  where
    back : (i j : Place) → place_cmp i j ≡ Less → is_lt (place_cmp j i) ≡ false
    back i j l = let r = place_total.antisymm j i ∙ ap ordering_reverse l in rw r refl

    neighbours : (rs : List PlaceRef) → Climbs (map plain_place rs) → (k : ℕ) (d : PlaceRef) → suc k < length rs → is_lt (by_place (slice_index_or rs (suc k) d) (slice_index_or rs k d)) ≡ false
    neighbours [] up k d lt = absurd (omega (arith, lt))
    neighbours (r ∷ []) up k d lt = absurd (omega (arith, lt))
    neighbours (r ∷ s ∷ rs) up zero d lt = back (plain_place r) (plain_place s) (up.0 (plain_place s) (inl refl))
    neighbours (r ∷ s ∷ rs) up (suc k) d lt = neighbours (s ∷ rs) up.1 k d (omega (arith, lt))
