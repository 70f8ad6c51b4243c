-- Nothing is gathered of a partition of which nothing is asked, or that is settled.
use Rattle.std.proofs.Common.{◌≡◌, List, [], ◌∷◌, fold, refl, ap, ◌∙◌, true, false, Bool, not, ◌&&◌, ◌||◌, if◌then◌else◌}
use Rattle.std.specs.Prelude.{is_none}
use Rattle.std.proofs.lemmas.List.{append-nil}
use Rattle.eos_fold.specs.declared.item.Item.{Item}
use Rattle.eos_fold.specs.Parts.{PartLog}
use Rattle.eos_claims.specs.Headers.{claim_of}
use Rattle.eos_commits.specs.declared.shown.Role.{Role}
use Rattle.eos_commits.specs.Visible.{is_visible}
use Rattle.eos_commits.specs.steps.Roles.{Source, RoleSets}
use Rattle.eos_commits.specs.steps.Settled.{are_claimed, is_settled}
use Rattle.eos_commits.specs.steps.Gathered.{Gathered, role_in, take_visible, take_item, take_part}

-- of an output's records: the first isn't bare, and no other one is
first_and_rest : (output seen bare others : Bool) → (not output || (not (seen && bare) && others)) ≡ true → (seen ≡ true → (output && bare) ≡ false) × ((not output || others) ≡ true)
first_and_rest false seen bare others e = (λ q. refl, refl)
first_and_rest true false bare others e = (λ q. absurd cc, e)
first_and_rest true true false others e = (λ q. refl, e)
first_and_rest true true true others e = absurd cc

module _ (sources : List Source) (p : PartLog) (role : Role) (offsets : role.is_offsets ≡ false) where
  unseen : (g : Gathered) (x : Item) → (role.is_output && is_none (claim_of x.headers)) ≡ false → take_visible sources p role g x ≡ g
  unseen g x e = rw (e, offsets) (λ i. record { homes = g.homes; faults = append-nil g.faults i })

  one : (g : Gathered) (x : Item) (seen : Bool) → (seen ≡ true → (role.is_output && is_none (claim_of x.headers)) ≡ false) → (if seen then take_visible sources p role g x else g) ≡ g
  one g x true e = unseen g x (e refl)
  one g x false e = refl

  nothing_shown : (g : Gathered) (xs : List Item) → (not role.is_output || are_claimed xs) ≡ true → fold (take_item sources p role) g xs ≡ g
  nothing_shown g [] e = refl
  nothing_shown g (x ∷ xs) e =
      let t = first_and_rest role.is_output (is_visible x.fate) (is_none (claim_of x.headers)) (are_claimed xs) e in
      ap (λ (h : Gathered). fold (take_item sources p role) h xs) (one g x (is_visible x.fate) t.0) ∙ nothing_shown g xs t.1

quiet_is : (offsets output settled claimed : Bool) → (not offsets && (settled || not output)) ≡ true → (settled ≡ true → (offsets || (not output || claimed)) ≡ true) → (offsets ≡ false) × ((not output || claimed) ≡ true)
quiet_is true output settled claimed q is = absurd cc
quiet_is false output true claimed q is = (refl, is refl)
quiet_is false false false claimed q is = (refl, refl)
quiet_is false true false claimed q is = absurd cc

pub passed : (r : RoleSets) (p : PartLog) (g : Gathered) (settled : Bool) → (not (role_in r.outputs p).is_offsets && (settled || not (role_in r.outputs p).is_output)) ≡ true
    → (settled ≡ true → is_settled r p ≡ true) → take_part r g p ≡ g
passed r p g settled quiet is =
    let role : Role = role_in r.outputs p in
    let t = quiet_is role.is_offsets role.is_output settled (are_claimed p.items) quiet is in
    nothing_shown r.sources p role t.0 g p.items t.1
