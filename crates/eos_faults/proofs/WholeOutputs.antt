-- What all claims and inputs show, in order and each once, is the list of one application's faults.
use Rattle.std.proofs.Common.{◌≡◌, List, length, take, map, sym, subst, inl, inr, flat_map, IsPermutation}
use Rattle.std.proofs.Math.Seq.{take-length}
use Rattle.std.proofs.lemmas.List.Sorted.{Contains-permutation}
use Rattle.eos_base.specs.Members.{Has}
use Rattle.eos_base.proofs.Membership.{append_cases, append_left, append_right, flat_has, has_flat, map_has, has_map}
use Rattle.eos_claims.specs.declared.place.Place.{Place}
use Rattle.eos_claims.specs.declared.fault.OutputFault.{OutputFault}
use Rattle.eos_claims.specs.Outputs.{Application, PlacedClaim, ReadsSources}
use Rattle.eos_claims.specs.Candidates.{AreApart}
use Rattle.eos_base.proofs.TiedKept.{contained_has, has_contained}
use Rattle.eos_faults.specs.declared.lent.LentPlace.{LentPlace}
use Rattle.eos_faults.specs.declared.lent.VisibleClaim.{VisibleClaim}
use Rattle.eos_faults.specs.steps.OutputFaultsGathered.{shown_at, lacking, gathered_by, gathered, AreOutputFaults}
use Rattle.eos_faults.specs.steps.Plain.{claim_at, place_at}
use Rattle.eos_faults.specs.steps.BySource.{AreTold}
use Rattle.eos_faults.specs.steps.Tables.{AreClaims, AreInputs}
use Rattle.eos_faults.proofs.GatheredSound.{sound}
use Rattle.eos_faults.proofs.GatheredWhole.{all_whole, one_missing}

-- at claims and inputs that are all among others
moved : (a : Application) (cs ds : List PlacedClaim) (xs ys : List Place) → ((c : PlacedClaim) → Has cs c → Has ds c) → ((i : Place) → Has xs i → Has ys i)
    → (f : OutputFault) → Has (gathered_by a cs xs) f → Has (gathered_by a ds ys) f
moved a cs ds xs ys claims there f h = elim (append_cases (flat_map (shown_at a) cs) (flat_map (lacking a) xs) f h) [
  | inl x ↦ let r = flat_has (shown_at a) cs f x in append_left (flat_map (shown_at a) ds) (flat_map (lacking a) ys) f (has_flat (shown_at a) ds r.0 f (claims r.0 r.1) r.2)
  | inr x ↦ let r = flat_has (lacking a) xs f x in append_right (flat_map (shown_at a) ds) (flat_map (lacking a) ys) f (has_flat (lacking a) ys r.0 f (there r.0 r.1) r.2)
]

in_other_order : {X : Type 0} (xs ys : List X) → IsPermutation xs ys → (x : X) → Has xs x → Has ys x
in_other_order xs ys perm x h = contained_has ys x (Contains-permutation xs ys x perm (has_contained xs x h))

pub mapped_order : {X Y : Type 0} (f : X → Y) (xs ys : List X) → IsPermutation xs ys → (y : Y) → Has (map f xs) y → Has (map f ys) y
mapped_order f xs ys perm y h = let r = map_has f xs y h in subst (Has (map f ys)) r.2 (has_map f ys r.0 (in_other_order xs ys perm r.0 r.1))

pub whole_outputs : (a : Application) → ReadsSources a → AreApart a → (claims : List VisibleClaim) → AreClaims a claims → (inputs : List LentPlace) → AreInputs a inputs
    → (list : List OutputFault) → AreTold a claims inputs (length claims) (length inputs) list → AreOutputFaults a list
whole_outputs a reads apart claims are inputs read list told = record {
  rises = told.rises;
  each = λ f h. sound a f (there f h);
  all = λ f st. elim (all_whole a reads apart f st) [
    | inl h ↦ inl (back f h)
    | inr r ↦ inr (r.0, back r.0 r.1, r.2, r.3)
  ];
  one_missing = λ f g h k of. one_missing a f g (there f h) (there g k) of;
}
  where
    all_claims : take (length claims) claims ≡ claims
    all_claims = take-length claims

    all_inputs : take (length inputs) inputs ≡ inputs
    all_inputs = take-length inputs

    there : (f : OutputFault) → Has list f → Has (gathered a) f
    there f h =
        let by_sorted = subst (λ cs. Has (gathered_by a (map claim_at cs) (map place_at inputs)) f) all_claims
        (subst (λ is. Has (gathered_by a (map claim_at (take (length claims) claims)) (map place_at is)) f) all_inputs (told.each f h)) in
        moved a (map claim_at claims) a.claims (map place_at inputs) a.inputs are.sound read.sound f by_sorted

    back : (f : OutputFault) → Has (gathered a) f → Has list f
    back f h =
        let by_sorted = moved a a.claims (map claim_at claims) a.inputs (map place_at inputs) are.whole read.whole f h in
        told.all f (subst (λ is. Has (gathered_by a (map claim_at (take (length claims) claims)) (map place_at is)) f) (sym all_inputs)
        (subst (λ cs. Has (gathered_by a (map claim_at cs) (map place_at inputs)) f) (sym all_claims) by_sorted))
