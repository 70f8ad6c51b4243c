-- What the walk gathers is what it shows at each record, one after the other.
use Rattle.std.proofs.Common.{◌≡◌, List, [], ◌∷◌, ◌++◌, map, fold, Bool, true, false, refl, sym, ap, ◌∙◌, append_assoc, ◌&&◌, if◌then◌else◌}
use Rattle.std.specs.Prelude.{is_none}
use Rattle.std.proofs.lemmas.List.{append-nil}
use Rattle.std.proofs.lemmas.List.Sums.{fold-append}
use Rattle.eos_fold.specs.declared.item.Item.{Item}
use Rattle.eos_fold.specs.Parts.{PartLog}
use Rattle.eos_claims.specs.Headers.{claim_of}
use Rattle.eos_verdict.specs.declared.visible_fault.VisibleFault.{VisibleFault}
use Rattle.eos_verdict.specs.declared.visible_fault.VisibleFaultKind.TheVariants.{BadLineage}
use Rattle.eos_commits.specs.Visible.{is_visible}
use Rattle.eos_commits.specs.steps.Roles.{RoleSets}
use Rattle.eos_commits.proofs.Spots.{Spot, spot, spots_in, spots}
use Rattle.eos_commits.specs.declared.shown.Role.{Role}
use Rattle.eos_commits.specs.declared.shown.Shown.{Shown}
use Rattle.eos_commits.specs.steps.Gathered.{Homes, nowhere, nothing, by_commit, homes_by_commit, fault_at, tested, shown_at, Gathered, empty, take_visible, take_item, role_in, take_part, gathered}

-- what is asked of it
abbrev pub role_of : RoleSets → Spot → Role
role_of r z = role_in r.outputs z.0

abbrev pub unclaimed_at : RoleSets → Spot → Bool
unclaimed_at r z = if is_visible z.1.fate then (role_of r z).is_output && is_none (claim_of z.1.headers) else false

abbrev pub commit_at : RoleSets → Homes → Spot → Shown
commit_at r homes z = if is_visible z.1.fate then by_commit r.sources (role_of r z) homes z.1 else nothing

abbrev pub next_homes : RoleSets → Homes → Spot → Homes
next_homes r homes z = if is_visible z.1.fate then homes_by_commit r.sources (role_of r z) homes z.1 else homes

abbrev pub listed : Spot → Bool → Shown → List VisibleFault
listed z unclaimed shown = tested unclaimed (fault_at z.0 z.1.offset BadLineage) ++ shown_at z.0 z.1.offset shown

abbrev pub at_spot : RoleSets → Homes → Spot → List VisibleFault
at_spot r homes z = listed z (unclaimed_at r z) (commit_at r homes z)

abbrev pub after : RoleSets → Homes → List Spot → List VisibleFault
after r homes [] = []
after r homes (z ∷ zs) = at_spot r homes z ++ after r (next_homes r homes z) zs

abbrev taken : RoleSets → Gathered → Spot → Gathered
taken r g z = record { homes = next_homes r g.homes z; faults = g.faults ++ at_spot r g.homes z }

one : (r : RoleSets) (g : Gathered) (p : PartLog) (x : Item) → take_item r.sources p (role_in r.outputs p) g x ≡ taken r g (spot p x)
one r g p x = go (is_visible x.fate)
  where
    role : Role
    role = role_in r.outputs p

    go : (b : Bool) → (if b then take_visible r.sources p role g x else g)
        ≡ record {
          homes = if b then homes_by_commit r.sources role g.homes x else g.homes;
          faults = g.faults ++ listed (spot p x) (if b then role.is_output && is_none (claim_of x.headers) else false) (if b then by_commit r.sources role g.homes x else nothing);
        }
    go true = refl
    go false = λ i. record { homes = g.homes; faults = sym (append-nil g.faults) i }

in_part : (r : RoleSets) (p : PartLog) (g : Gathered) (xs : List Item) → fold (take_item r.sources p (role_in r.outputs p)) g xs ≡ fold (taken r) g (map (spot p) xs)
in_part r p g [] = refl
in_part r p g (x ∷ xs) = in_part r p (take_item r.sources p (role_in r.outputs p) g x) xs ∙ ap (λ (h : Gathered). fold (taken r) h (map (spot p) xs)) (one r g p x)

in_parts : (r : RoleSets) (g : Gathered) (ps : List PartLog) → fold (take_part r) g ps ≡ fold (taken r) g (spots ps)
in_parts r g [] = refl
in_parts r g (p ∷ ps) =
    in_parts r (take_part r g p) ps
    ∙ (ap (λ (h : Gathered). fold (taken r) h (spots ps)) (in_part r p g p.items) ∙ sym (fold-append (taken r) g (spots_in p) (spots ps)))

at_spots : (r : RoleSets) (g : Gathered) (zs : List Spot) → (fold (taken r) g zs).faults ≡ g.faults ++ after r g.homes zs
at_spots r g [] = sym (append-nil g.faults)
at_spots r g (z ∷ zs) = at_spots r (taken r g z) zs ∙ append_assoc g.faults (at_spot r g.homes z) (after r (next_homes r g.homes z) zs)

pub gathered_is : (r : RoleSets) (ps : List PartLog) → gathered r ps ≡ after r nowhere (spots ps)
gathered_is r ps = ap (λ (g : Gathered). g.faults) (in_parts r empty ps) ∙ at_spots r empty (spots ps)
