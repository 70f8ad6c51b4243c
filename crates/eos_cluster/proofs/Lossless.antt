-- Whether elections have lost nothing, as a test.
use Rattle.std.proofs.Common.{◌≡◌, ◌↔◌, ◌==◌, List, [], ◌∷◌, true, refl}
use Rattle.std.specs.List.{All, list_all}
use Rattle.std.proofs.lemmas.Bool.{and_parts, and_from, eqb-true, eq-eqb}
use Rattle.std.proofs.lemmas.List.Elements.{All-nil, All-cons, All-head, All-tail}
use Rattle.eos_machine.specs.declared.state.Election.{Election}

pub none_lost : (xs : List Election) → list_all (λ x. x.lost == 0) xs ≡ true ↔ All (λ x. x.lost ≡ 0) xs
none_lost [] = (λ h. All-nil (λ x. x.lost ≡ 0), λ h. refl)
none_lost (x ∷ xs) =
    let r = none_lost xs in (
      λ h. let p = and_parts (x.lost == 0) (list_all (λ y. y.lost == 0) xs) h in All-cons (λ y. y.lost ≡ 0) x xs (eqb-true x.lost 0 p.0) (r.0 p.1),
      λ h. and_from (x.lost == 0) (list_all (λ y. y.lost == 0) xs) (eq-eqb x.lost 0 (All-head (λ y. y.lost ≡ 0) x xs h)) (r.1 (All-tail (λ y. y.lost ≡ 0) x xs h)),
    )
