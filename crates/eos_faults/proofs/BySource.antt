-- The faults of one application's outputs, one source further.
use Rattle.std.proofs.Common.{◌≡◌, ◌∙◌, ◌⊎◌, ◌++◌, ◌+◌, ◌-◌, ◌<◌, ◌≤◌, ℕ, zero, suc, arith, List, [], ◌∷◌, map, take, drop, Some, None, Option, refl, sym, ap, subst, inl, inr, false, Bool, not, ◌&&◌, flat_map}
use Rattle.std.specs.Prelude.{slice_get}
use Rattle.std.specs.List.Sorted.{IsStrictlySortedBy}
use Rattle.std.specs.Ordering.{is_gt}
use Rattle.std.specs.declared.cmp.Ordering.{Ordering}
use Rattle.std.specs.declared.cmp.Ordering.TheVariants.{Less, Equal, Greater}
use Rattle.std.proofs.lemmas.List.{map-append, length-take}
use Rattle.std.proofs.lemmas.Grind.{flat_map-append}
use Rattle.std.proofs.lemmas.Option.{slice_get_within}
use Rattle.eos_base.specs.Least.{UpTo}
use Rattle.eos_base.specs.Members.{Has}
use Rattle.eos_base.proofs.Membership.{append_cases, append_left, append_right, flat_has, map_has, if_has, only}
use Rattle.eos_fold.proofs.ListPlaces.{get_take, get_drop}
use Rattle.eos_claims.specs.declared.place.Place.{Place}
use Rattle.eos_claims.specs.declared.fault.OutputFault.{OutputFault}
use Rattle.eos_claims.specs.declared.fault.OutputKind.{OutputKind}
use Rattle.eos_claims.specs.declared.fault.OutputKind.TheVariants.{ForeignSource, NoSuchInput, Early, CountDisagrees, NumberRange, Repeated, OtherTransaction}
use Rattle.eos_claims.specs.Outputs.{PlacedClaim, Application}
use Rattle.eos_claims.specs.Candidates.{counted, fault_at, missing, when, is_source, is_input, is_committed, is_out_of_range, is_passed}
use Rattle.eos_claims.specs.Faults.{place_cmp, fault_cmp}
use Rattle.eos_claims.proofs.CandidatesSound.{when_has}
use Rattle.eos_claims.proofs.FaultOrder.{place_total}
use Rattle.eos_commits.proofs.SpotFaults.{rises_append}
use Rattle.eos_faults.specs.declared.lent.LentPlace.{LentPlace}
use Rattle.eos_faults.specs.declared.lent.VisibleClaim.{VisibleClaim}
use Rattle.eos_faults.specs.steps.OutputFaultsGathered.{place_faults, number_faults, disagrees, is_repeated, first_at, shown_at, placed_at, numbered_at, lacking, lacks, missing_at, first_absent, is_there, top_of, first_of, gathered_by}
use Rattle.eos_faults.specs.steps.Plain.{claim_at, place_at}
use Rattle.eos_faults.specs.steps.BySource.{IsEndOf, AreTold, source_of, itself}
use Rattle.eos_faults.proofs.SortedClaims.{has_get}

-- ---- a stretch of a list

none_of : {X : Type 0} (m : ℕ) → take {A = X} m [] ≡ []
none_of zero = refl
none_of (suc m) = refl

parted : {X : Type 0} (xs : List X) (j m : ℕ) → take (j + m) xs ≡ take j xs ++ take m (drop j xs)
parted xs zero m = let z : 0 + m ≡ m = omega arith in ap (λ n. take n xs) z
parted [] (suc j) m = none_of (suc j + m) ∙ sym (none_of m)
parted (x ∷ xs) (suc j) m = let z : suc j + m ≡ suc (j + m) = omega arith in ap (λ n. take n (x ∷ xs)) z ∙ ap (λ ys. x ∷ ys) (parted xs j m)

-- where an item of a stretch stands
pub get_stretch : {X : Type 0} (xs : List X) (j m k : ℕ) (x : X) → slice_get (take m (drop j xs)) k ≡ Some x → (k < m) × (slice_get xs (j + k) ≡ Some x)
get_stretch xs j m k x at =
    let inside = slice_get_within (take m (drop j xs)) k x at in
    let n = length-take m (drop j xs) in
    let lt : k < m = omega (arith, inside, n) in
    (lt, sym (get_drop j xs k) ∙ (sym (get_take m (drop j xs) k lt) ∙ at))

pub in_stretch : {X : Type 0} (xs : List X) (j m : ℕ) (x : X) → Has (take m (drop j xs)) x → (k : ℕ) × (j ≤ k) × (k < j + m) × (slice_get xs k ≡ Some x)
in_stretch xs j m x h =
    let r = has_get (take m (drop j xs)) x h in
    let g = get_stretch xs j m r.0 x r.1 in
    let lt = g.0 in
    (j + r.0, omega arith, omega (arith, lt), g.1)

-- what is shown at a longer front is shown at the shorter one or at the stretch behind it
module _ {X Y Z : Type 0} (g : Y → List Z) (v : X → Y) (xs : List X) (j m : ℕ) where
  in_parts : flat_map g (map v (take (j + m) xs)) ≡ flat_map g (map v (take j xs)) ++ flat_map g (map v (take m (drop j xs)))
  in_parts = ap (λ ys. flat_map g (map v ys)) (parted xs j m) ∙ (ap (flat_map g) (map-append v (take j xs) (take m (drop j xs))) ∙ flat_map-append g (map v (take j xs)) (map v (take m (drop j xs))))

  part_cases : (z : Z) → Has (flat_map g (map v (take (j + m) xs))) z → Has (flat_map g (map v (take j xs))) z ⊎ Has (flat_map g (map v (take m (drop j xs)))) z
  part_cases z h = append_cases (flat_map g (map v (take j xs))) (flat_map g (map v (take m (drop j xs)))) z (subst (λ ys. Has ys z) in_parts h)

  part_left : (z : Z) → Has (flat_map g (map v (take j xs))) z → Has (flat_map g (map v (take (j + m) xs))) z
  part_left z h = subst (λ ys. Has ys z) (sym in_parts) (append_left (flat_map g (map v (take j xs))) (flat_map g (map v (take m (drop j xs)))) z h)

  part_right : (z : Z) → Has (flat_map g (map v (take m (drop j xs)))) z → Has (flat_map g (map v (take (j + m) xs))) z
  part_right z h = subst (λ ys. Has ys z) (sym in_parts) (append_right (flat_map g (map v (take j xs))) (flat_map g (map v (take m (drop j xs)))) z h)

-- ---- of which source a fault is

source_at : (k : OutputKind) (b : Bool) (c : PlacedClaim) (f : OutputFault) → Has (when b (fault_at k (counted c))) f → c.source ≡ f.source
source_at k b c f h = ap (λ (z : OutputFault). z.source) (when_has b (fault_at k (counted c)) f h).1

placed_source : (s i m p : Bool) (c : PlacedClaim) (f : OutputFault) → Has (place_faults s i m p (counted c)) f → c.source ≡ f.source
placed_source s i m p c f h = elim (append_cases (when (not s) (fault_at ForeignSource (counted c))) _ f h) [
  | inl x ↦ source_at ForeignSource (not s) c f x
  | inr x ↦ elim (append_cases (when (s && not i) (fault_at NoSuchInput (counted c))) _ f x) [
    | inl y ↦ source_at NoSuchInput (s && not i) c f y
    | inr y ↦ elim (append_cases (when (i && not m) (fault_at Early (counted c))) _ f y) [
      | inl z ↦ source_at Early (i && not m) c f z
      | inr z ↦ source_at OtherTransaction (i && (m && not p)) c f z
    ]
  ]
]

numbered_source : (o d r : Bool) (c : PlacedClaim) (f : OutputFault) → Has (number_faults o d r (counted c)) f → c.source ≡ f.source
numbered_source o d r c f h = elim (append_cases (when o (fault_at NumberRange (counted c))) _ f h) [
  | inl x ↦ source_at NumberRange o c f x
  | inr x ↦ elim (append_cases (when d (fault_at CountDisagrees (counted c))) _ f x) [
    | inl y ↦ source_at CountDisagrees d c f y
    | inr y ↦ source_at Repeated r c f y
  ]
]

module _ (a : Application) where
  shown_source : (c : PlacedClaim) (f : OutputFault) → Has (shown_at a c) f → c.source ≡ f.source
  shown_source c f h = elim (append_cases (placed_at a c) (numbered_at a c) f h) [
    | inl x ↦ placed_source (is_source a c.source) (is_input a c.source) (is_committed a c.source) (is_passed a c) c f x
    | inr x ↦ numbered_source (is_out_of_range c.of c.output) (disagrees (first_of a.claims c.source) c.of) (is_repeated (first_at a.claims c.source c.output) c.at) c f x
  ]

  missing_source : (i : Place) (o : Option ℕ) (f : OutputFault) → Has (missing_at i o) f → i ≡ f.source
  missing_source i None f h = absurd h
  missing_source i (Some n) f h = ap (λ (z : OutputFault). z.source) (only (missing i n) f h)

  lacking_source : (i : Place) (f : OutputFault) → Has (lacking a i) f → i ≡ f.source
  lacking_source i f h = missing_source i (first_absent (is_there a.claims i) (top_of (first_of a.claims i)) 1) f (if_has (is_committed a i) (lacks a.claims i) f h).1

-- ---- places in order

pub up_less : (x y z : Place) → UpTo place_cmp x y → place_cmp y z ≡ Less → place_cmp x z ≡ Less
up_less x y z up less = go (place_cmp x y) refl up
  where
    go : (o : Ordering) → place_cmp x y ≡ o → is_gt o ≡ false → place_cmp x z ≡ Less
    go Less e u = place_total.trans x y z e less
    go Equal e u = place_total.congr x y z e ∙ less
    go Greater e u = absurd cc

pub by_source_less : (f g : OutputFault) → place_cmp f.source g.source ≡ Less → fault_cmp f g ≡ Less
by_source_less f g e = rw (e) refl

-- ---- one source further

module _ (a : Application) (cs : List VisibleClaim) (is : List LentPlace) (j m k n : ℕ) where
  abbrev mine : List PlacedClaim
  mine = map claim_at (take m (drop j cs))

  abbrev read : List Place
  read = map place_at (take n (drop k is))

  abbrev At : (PlacedClaim → Type 0) → (Place → Type 0) → Type 0
  At P Q = ((c : VisibleClaim) (i : ℕ) → j ≤ i → i < j + m → slice_get cs i ≡ Some c → P (claim_at c)) × ((x : LentPlace) (i : ℕ) → k ≤ i → i < k + n → slice_get is i ≡ Some x → Q (place_at x))

  -- what holds of the sources of both stretches holds of a fault's
  of_sources : (P : Place → Type 0) → At (λ c. P c.source) P → (f : OutputFault) → Has (gathered_by a mine read) f → P f.source
  of_sources P at f h = elim (append_cases (flat_map (shown_at a) mine) (flat_map (lacking a) read) f h) [
    | inl x ↦
        let c = flat_has (shown_at a) mine f x in
        let d = map_has claim_at (take m (drop j cs)) c.0 c.1 in
        let r = in_stretch cs j m d.0 d.1 in
        subst P (shown_source a c.0 f c.2) (subst (λ (z : PlacedClaim). P z.source) d.2 (at.0 d.0 r.0 r.1 r.2 r.3))
    | inr x ↦
        let i = flat_has (lacking a) read f x in
        let d = map_has place_at (take n (drop k is)) i.0 i.1 in
        let r = in_stretch is k n d.0 d.1 in
        subst P (lacking_source a i.0 f i.2) (subst P d.2 (at.1 d.0 r.0 r.1 r.2 r.3))
  ]

  old_or_new : (f : OutputFault) → Has (gathered_by a (map claim_at (take (j + m) cs)) (map place_at (take (k + n) is))) f
      → Has (gathered_by a (map claim_at (take j cs)) (map place_at (take k is))) f ⊎ Has (gathered_by a mine read) f
  old_or_new f h = elim (append_cases (flat_map (shown_at a) (map claim_at (take (j + m) cs))) (flat_map (lacking a) (map place_at (take (k + n) is))) f h) [
    | inl x ↦ elim (part_cases (shown_at a) claim_at cs j m f x) [ inl y ↦ inl (append_left _ _ f y) | inr y ↦ inr (append_left _ _ f y) ]
    | inr x ↦ elim (part_cases (lacking a) place_at is k n f x) [ inl y ↦ inl (append_right _ _ f y) | inr y ↦ inr (append_right _ _ f y) ]
  ]

  old_stays : (f : OutputFault) → Has (gathered_by a (map claim_at (take j cs)) (map place_at (take k is))) f → Has (gathered_by a (map claim_at (take (j + m) cs)) (map place_at (take (k + n) is))) f
  old_stays f h = elim (append_cases (flat_map (shown_at a) (map claim_at (take j cs))) (flat_map (lacking a) (map place_at (take k is))) f h) [
    | inl x ↦ append_left _ _ f (part_left (shown_at a) claim_at cs j m f x)
    | inr x ↦ append_right _ _ f (part_left (lacking a) place_at is k n f x)
  ]

  new_comes : (f : OutputFault) → Has (gathered_by a mine read) f → Has (gathered_by a (map claim_at (take (j + m) cs)) (map place_at (take (k + n) is))) f
  new_comes f h = elim (append_cases (flat_map (shown_at a) mine) (flat_map (lacking a) read) f h) [
    | inl x ↦ append_left _ _ f (part_right (shown_at a) claim_at cs j m f x)
    | inr x ↦ append_right _ _ f (part_right (lacking a) place_at is k n f x)
  ]

  told_on : (s : LentPlace) (list fs : List OutputFault) → AreTold a cs is j k list → IsEndOf source_of cs j s (j + m) → IsEndOf itself is k s (k + n)
      → IsStrictlySortedBy fault_cmp fs → ((f : OutputFault) → Has fs f → Has (gathered_by a mine read) f) → ((f : OutputFault) → Has (gathered_by a mine read) f → Has fs f)
      → AreTold a cs is (j + m) (k + n) (list ++ fs)
  told_on s list fs told claims inputs rises each all = record {
    rises = rises_append fault_cmp list fs told.rises rises (λ f g h l. by_source_less f g (less f h g (each g l)));
    each = λ f h. elim (append_cases list fs f h) [ inl x ↦ old_stays f (told.each f x) | inr x ↦ new_comes f (each f x) ];
    all = λ f h. elim (old_or_new f h) [ inl x ↦ append_left list fs f (told.all f x) | inr x ↦ append_right list fs f (all f x) ];
    before_claims = λ f h i c le lt is. elim (append_cases list fs f h) [
      | inl x ↦ told.before_claims f x i c (omega (arith, le)) lt is
      | inr x ↦ up_less f.source (place_at s) (place_at c.source) (up f (each f x)) (claims.beyond i c le lt is)
    ];
    before_inputs = λ f h i x le lt at. elim (append_cases list fs f h) [
      | inl y ↦ told.before_inputs f y i x (omega (arith, le)) lt at
      | inr y ↦ up_less f.source (place_at s) (place_at x) (up f (each f y)) (inputs.beyond i x le lt at)
    ];
  }
    where
      up : (f : OutputFault) → Has (gathered_by a mine read) f → UpTo place_cmp f.source (place_at s)
      up = of_sources (λ p. UpTo place_cmp p (place_at s)) (λ c i le lt at. claims.up_to i c le lt at, λ x i le lt at. inputs.up_to i x le lt at)

      less : (f : OutputFault) → Has list f → (g : OutputFault) → Has (gathered_by a mine read) g → place_cmp f.source g.source ≡ Less
      less f h = of_sources (λ p. place_cmp f.source p ≡ Less)
          (λ c i le lt at. told.before_claims f h i c le (let w = claims.within in omega (arith, lt, w)) at, λ x i le lt at. told.before_inputs f h i x le (let w = inputs.within in omega (arith, lt, w)) at)

pub none_told : (a : Application) (cs : List VisibleClaim) (is : List LentPlace) → AreTold a cs is 0 0 []
unfolding IsStrictlySortedBy
none_told a cs is = record {
  rises = tt;
  each = λ f h. absurd h;
  all = λ f h. h;
  before_claims = λ f h. absurd h;
  before_inputs = λ f h. absurd h;
}

-- by places in the lists
pub told_more : (a : Application) (cs : List VisibleClaim) (is : List LentPlace) (j p k q : ℕ) (s : LentPlace) (list fs : List OutputFault) → AreTold a cs is j k list → IsEndOf source_of cs j s p → IsEndOf itself is k s q
    → IsStrictlySortedBy fault_cmp fs
    → ((f : OutputFault) → Has fs f → Has (gathered_by a (map claim_at (take (p - j) (drop j cs))) (map place_at (take (q - k) (drop k is)))) f)
    → ((f : OutputFault) → Has (gathered_by a (map claim_at (take (p - j) (drop j cs))) (map place_at (take (q - k) (drop k is)))) f → Has fs f)
    → AreTold a cs is p q (list ++ fs)
told_more a cs is j p k q s list fs told claims inputs rises each all =
    let further = claims.further in
    let more = inputs.further in
    let e : p ≡ j + (p - j) = omega (arith, further) in
    let g : q ≡ k + (q - k) = omega (arith, more) in
    subst (λ y. AreTold a cs is p y (list ++ fs)) (sym g) (subst (λ y. AreTold a cs is y (k + (q - k)) (list ++ fs)) (sym e)
    (told_on a cs is j (p - j) k (q - k) s list fs told (subst (IsEndOf source_of cs j s) e claims) (subst (IsEndOf itself is k s) g inputs) rises each all))
