-- Faults with lent names, in order and each once, stand for the list of faults.
use Rattle.std.proofs.Common.{◌≡◌, ℕ, List, [], ◌∷◌, map, Option, Some, None, refl, subst, ap, true}
use Rattle.std.specs.List.Sorted.{IsStrictlySortedBy}
use Rattle.std.specs.Ordering.{is_eq}
use Rattle.std.specs.declared.cmp.Ordering.{Ordering}
use Rattle.eos_base.specs.Members.{Has}
use Rattle.eos_base.proofs.Membership.{map_has, has_map}
use Rattle.eos_base.proofs.WholeList.{plain_rises}
use Rattle.eos_claims.specs.declared.fault.OutputFault.{OutputFault}
use Rattle.eos_claims.specs.declared.fault.OutputKind.{OutputKind}
use Rattle.eos_claims.specs.Faults.{fault_cmp}
use Rattle.eos_faults.specs.declared.lent.LentPlace.{LentPlace}
use Rattle.eos_faults.specs.declared.lent.LentFault.{LentFault}
use Rattle.eos_faults.specs.contracts.lent.LentFaultOrd.TheImpl.{ghosts as lent_ghosts}
use Rattle.eos_faults.specs.steps.Plain.{fault_of}

abbrev lent_cmp : LentFault → LentFault → Ordering
lent_cmp = lent_ghosts.cmp

abbrev lent : LentPlace → ℕ → OutputKind → Option LentPlace → LentFault
lent s o k p = record { source = s; output = o; kind = k; at = p }

same_fields : (s : LentPlace) (n : ℕ) (k : OutputKind) (p : Option LentPlace) (t : LentPlace) (m : ℕ) (l : OutputKind) (q : Option LentPlace)
    → lent_cmp (lent s n k p) (lent t m l q) ≡ fault_cmp (fault_of (lent s n k p)) (fault_of (lent t m l q))
same_fields s n k None t m l None = refl
same_fields s n k None t m l (Some q) = refl
same_fields s n k (Some p) t m l None = refl
same_fields s n k (Some p) t m l (Some q) = refl

lent_same : (f g : LentFault) → lent_cmp f g ≡ fault_cmp (fault_of f) (fault_of g)
lent_same f g = same_fields f.source f.output f.kind f.at g.source g.output g.kind g.at

pub lent_rises : (kept : List LentFault) → IsStrictlySortedBy lent_cmp kept → IsStrictlySortedBy fault_cmp (map fault_of kept)
lent_rises kept up = plain_rises fault_of fault_cmp kept (subst (λ (cmp : LentFault → LentFault → Ordering). IsStrictlySortedBy cmp kept) same up)
  where
    same : lent_cmp ≡ (λ f g. fault_cmp (fault_of f) (fault_of g))
    same = λ i f g. lent_same f g i

pub lent_each : (found kept : List LentFault) → ((x : LentFault) → Has kept x → Has found x) → (f : OutputFault) → Has (map fault_of kept) f → Has (map fault_of found) f
lent_each found kept each f h = let r = map_has fault_of kept f h in subst (Has (map fault_of found)) r.2 (has_map fault_of found r.0 (each r.0 r.1))

pub lent_all : (found kept : List LentFault) → ((x : LentFault) → Has found x → (y : LentFault) × Has kept y × (is_eq (lent_cmp x y) ≡ true))
    → (f : OutputFault) → Has (map fault_of found) f → (g : OutputFault) × Has (map fault_of kept) g × (is_eq (fault_cmp f g) ≡ true)
lent_all found kept all f h =
    let r = map_has fault_of found f h in
    let k = all r.0 r.1 in
    let tied = subst (λ o. is_eq o ≡ true) (lent_same r.0 k.0) k.2 in
    (fault_of k.0, has_map fault_of kept k.0 k.1, subst (λ z. is_eq (fault_cmp z (fault_of k.0)) ≡ true) r.2 tied)

pub map_twice : {X Y Z : Type 0} (g : Y → Z) (f : X → Y) (xs : List X) → map (λ x. g (f x)) xs ≡ map g (map f xs)
map_twice g f [] = refl
map_twice g f (x ∷ xs) = ap (λ zs. g (f x) ∷ zs) (map_twice g f xs)
