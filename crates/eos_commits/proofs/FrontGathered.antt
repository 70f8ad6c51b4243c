-- A walk that ends at the first record that shows a fault has the front of what the whole one gathers.
use Rattle.std.proofs.Common.{◌≡◌, ◌≢◌, ◌∙◌, ◌+◌, ◌<◌, ◌++◌, ℕ, List, [], ◌∷◌, length, drop, get_or, Option, fold, Bool, true, false, refl, sym, ap, subst, inl, inr, append_assoc, if◌then◌else◌, IsPermutation}
use Rattle.std.specs.Prelude.{slice_get}
use Rattle.std.proofs.lemmas.List.{append-nil, drop_more}
use Rattle.eos_base.specs.AllOf.{IsAllOf}
use Rattle.eos_base.specs.Least.{IsLeastOrNone}
use Rattle.eos_base.proofs.WholeList.{first_least, none_listed}
use Rattle.eos_evidence.specs.declared.application.App.{App}
use Rattle.eos_evidence.specs.SpecFields.{outputs_of}
use Rattle.eos_fold.specs.declared.item.Item.{Item}
use Rattle.eos_fold.specs.Parts.{PartLog}
use Rattle.eos_verdict.specs.declared.visible_fault.VisibleFault.{VisibleFault}
use Rattle.eos_commits.specs.declared.shown.Role.{Role}
use Rattle.eos_commits.specs.Visible.{is_visible}
use Rattle.eos_commits.specs.Faults.{visible_cmp, Stands, AreInOrder}
use Rattle.eos_commits.specs.steps.Roles.{Source, sources_of, RoleSets}
use Rattle.eos_commits.specs.steps.Gathered.{Gathered, empty, visible_at, take_visible, take_item, role_in, take_part, gathered, Lists, Takes}
use Rattle.eos_commits.proofs.VisibleOrder.{visible_total}
use Rattle.eos_commits.proofs.SpotsListed.{law as all_listed}

-- ---- what is gathered stays

abbrev Grows : List VisibleFault → List VisibleFault → Type 0
Grows before after = (more : List VisibleFault) × (before ++ more ≡ after)

same : (xs : List VisibleFault) → Grows xs xs
same xs = ([], append-nil xs)

both : (xs ys zs : List VisibleFault) → Grows xs ys → Grows ys zs → Grows xs zs
both xs ys zs a b = (a.0 ++ b.0, sym (append_assoc xs a.0 b.0) ∙ (ap (λ (l : List VisibleFault). l ++ b.0) a.1 ∙ b.1))

one : (sources : List Source) (p : PartLog) (role : Role) (g : Gathered) (x : Item) → Grows g.faults (take_item sources p role g x).faults
one sources p role g x = go (is_visible x.fate)
  where
    go : (seen : Bool) → Grows g.faults (if seen then take_visible sources p role g x else g).faults
    go true = (visible_at sources p role g.homes x, refl)
    go false = same g.faults

items_grow : (sources : List Source) (p : PartLog) (role : Role) (g : Gathered) (xs : List Item) → Grows g.faults (fold (take_item sources p role) g xs).faults
items_grow sources p role g [] = same g.faults
items_grow sources p role g (x ∷ xs) =
    both g.faults (take_item sources p role g x).faults (fold (take_item sources p role) g (x ∷ xs)).faults (one sources p role g x) (items_grow sources p role (take_item sources p role g x) xs)

parts_grow : (r : RoleSets) (g : Gathered) (ps : List PartLog) → Grows g.faults (fold (take_part r) g ps).faults
parts_grow r g [] = same g.faults
parts_grow r g (p ∷ ps) = both g.faults (take_part r g p).faults (fold (take_part r) g (p ∷ ps)).faults (items_grow r.sources p (role_in r.outputs p) g p.items) (parts_grow r (take_part r g p) ps)

-- ---- where the walk ends, and where it goes on

pub stopped_item : (sources : List Source) (p : PartLog) (role : Role) (start before found : Gathered) (all left rest : List Item) (x : Item) (only_first : Bool) → left ≡ x ∷ rest
    → found ≡ take_item sources p role before x → only_first ≡ true → found.faults ≢ [] → fold (take_item sources p role) before left ≡ fold (take_item sources p role) start all
    → Takes only_first found (fold (take_item sources p role) start all)
stopped_item sources p role start before found all left rest x only_first split taken first some so_far =
    let ahead : fold (take_item sources p role) found rest ≡ fold (take_item sources p role) start all =
    ap (λ (g : Gathered). fold (take_item sources p role) g rest) taken ∙ (sym (ap (fold (take_item sources p role) before) split) ∙ so_far) in
    let more = items_grow sources p role found rest in
    inr (first, record { some = some; rest = more.0; joined = more.1 ∙ ap (λ (g : Gathered). g.faults) ahead })

-- a partition was taken, and more are left
module _ (r : RoleSets) (found before : Gathered) (ps : List PartLog) (i : ℕ) (p : PartLog) (only_first : Bool) (lt : i < length ps) (is : p ≡ get_or ps i p) where
  abbrev SoFar : Gathered → List PartLog → Type 0
  SoFar g rest = fold (take_part r) g rest ≡ fold (take_part r) empty ps

  ahead : SoFar before (drop i ps) → SoFar (take_part r before p) (drop (i + 1) ps)
  ahead so_far =
      let left : drop i ps ≡ p ∷ drop (i + 1) ps = drop_more ps i p lt ∙ ap (λ (q : PartLog). q ∷ drop (i + 1) ps) (sym is) in
      sym (ap (fold (take_part r) before) left) ∙ so_far

  pub stopped_part : only_first ≡ true → found.faults ≢ [] → Takes only_first found (take_part r before p) → SoFar before (drop i ps) → Lists only_first found.faults (gathered r ps)
  stopped_part first some taken so_far =
      let here : Grows found.faults (take_part r before p).faults = elim taken [
        | inl e ↦ subst (λ (g : Gathered). Grows found.faults g.faults) e (same found.faults)
        | inr f ↦ (f.1.rest, f.1.joined)
      ] in
      let later = parts_grow r (take_part r before p) (drop (i + 1) ps) in
      let whole = both found.faults (take_part r before p).faults (fold (take_part r) (take_part r before p) (drop (i + 1) ps)).faults here later in
      inr (first, record { some = some; rest = whole.0; joined = whole.1 ∙ ap (λ (g : Gathered). g.faults) (ahead so_far) })

  pub goes_on : (only_first ≡ true → found.faults ≡ []) → Takes only_first found (take_part r before p) → SoFar before (drop i ps) → SoFar found (drop (i + 1) ps)
  goes_on none taken so_far = elim taken [
    | inl e ↦ ap (λ (g : Gathered). fold (take_part r) g (drop (i + 1) ps)) e ∙ ahead so_far
    | inr f ↦ absurd (f.1.some (none f.0))
  ]

-- ---- the first of what is gathered

pub all_of : (found all : List VisibleFault) → Lists false found all → found ≡ all
all_of found all (inl e) = e
all_of found all (inr f) = let bad : false ≡ true = f.0 in absurd cc

least_of : (apps : List App) (ps : List PartLog) (all : List VisibleFault) → IsAllOf visible_cmp (Stands apps ps) all → IsLeastOrNone visible_cmp (Stands apps ps) (slice_get all 0)
least_of apps ps [] a = none_listed visible_cmp (Stands apps ps) a
least_of apps ps (x ∷ xs) a = first_least visible_total (Stands apps ps) x xs a

pub law : (apps : List App) (ps : List PartLog) (r : RoleSets) → IsPermutation (sources_of apps) r.sources → IsPermutation (outputs_of apps) r.outputs → AreInOrder ps
    → (fault : Option VisibleFault) → fault ≡ slice_get (gathered r ps) 0 → IsLeastOrNone visible_cmp (Stands apps ps) fault
law apps ps r p q order fault e = subst (IsLeastOrNone visible_cmp (Stands apps ps)) (sym e) (least_of apps ps (gathered r ps) (all_listed apps ps r p q order))
