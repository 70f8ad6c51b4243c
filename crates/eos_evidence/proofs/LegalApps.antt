-- Applications that are walked through in turn, each against those after it.
use Rattle.std.proofs.Common.{◌≡◌, ℕ, ◌+◌, ◌-◌, ◌<◌, List, [], ◌∷◌, ◌++◌, Bool, true, false, not, ◌&&◌, ◌||◌, length, get_or, take, drop, refl, ap, sym, ◌∙◌, bytes_eq, drop-cons, add-one, length-drop, arith}
use Rattle.std.proofs.lemmas.Grind.{flat_map-append}
use Rattle.std.proofs.lemmas.List.{append-nil, take_all, take_more}
use Rattle.std.proofs.lemmas.List.Folds.{list_any-append}
use Rattle.std.specs.List.{list_any}
use Rattle.eos_evidence.specs.declared.application.App.{App}
use Rattle.eos_evidence.specs.SpecFields.{groups_of, outputs_of}
use Rattle.eos_evidence.specs.Topics.{is_among, are_unequal}

pub among_groups : (group : List ℕ) (apps : List App) → list_any (λ app. bytes_eq group app.group) apps ≡ is_among group (groups_of apps)
among_groups group [] = refl
among_groups group (app ∷ apps) = ap (λ b. bytes_eq group app.group || b) (among_groups group apps)

pub among_outputs : (topic : List ℕ) (apps : List App) → list_any (λ app. is_among topic app.outputs) apps ≡ is_among topic (outputs_of apps)
among_outputs topic [] = refl
among_outputs topic (app ∷ apps) = ap (λ b. is_among topic app.outputs || b) (among_outputs topic apps) ∙ sym (list_any-append (bytes_eq topic) app.outputs (outputs_of apps))

next : {X : Type 0} (xs : List X) (i : ℕ) (x : X) → i < length xs → drop i xs ≡ get_or xs i x ∷ drop (i + 1) xs
next xs i x lt = drop-cons xs i x lt ∙ ap (λ n. get_or xs i x ∷ drop n xs) (sym (add-one i))

-- those after a place, as a slice of them
abbrev pub after : {X : Type 0} → List X → ℕ → List X
after xs i = take (length xs - (i + 1)) (drop (i + 1) xs)

after_is : {X : Type 0} (xs : List X) (i : ℕ) → after xs i ≡ drop (i + 1) xs
after_is xs i = take_all _ _ (omega (arith, length-drop (i + 1) xs))

pub groups_step : (apps : List App) (i : ℕ) (d : App) (found : Bool) → i < length apps
    → found ≡ list_any (λ other. bytes_eq (get_or apps i d).group other.group) (after apps i) → are_unequal (groups_of (drop i apps)) ≡ (not found && are_unequal (groups_of (drop (i + 1) apps)))
groups_step apps i d found lt found_is =
    let group = (get_or apps i d).group in
    ap (λ l. are_unequal (groups_of l)) (next apps i d lt)
    ∙ ap (λ b. not b && are_unequal (groups_of (drop (i + 1) apps))) (sym (found_is ∙ ap (list_any (λ other. bytes_eq group other.group)) (after_is apps i) ∙ among_groups group (drop (i + 1) apps)))

pub names_step : (names others : List (List ℕ)) (i : ℕ) (name : List ℕ) (among later : Bool) → i < length names → name ≡ get_or names i name
    → among ≡ is_among name (after names i) → later ≡ is_among name others → are_unequal (drop i names ++ others) ≡ (not (among || later) && are_unequal (drop (i + 1) names ++ others))
names_step names others i name among later lt is among_is later_is =
    ap (λ l. are_unequal (l ++ others)) (next names i name lt ∙ ap (λ n. n ∷ drop (i + 1) names) (sym is))
    ∙ ap (λ b. not b && are_unequal (drop (i + 1) names ++ others))
    (list_any-append (bytes_eq name) (drop (i + 1) names) others ∙ (λ j. (sym (among_is ∙ ap (is_among name) (after_is names i)) j) || (sym later_is j)))

pub first_holds : (a b : Bool) → a ≡ true → (a || b) ≡ true
first_holds a b h = ap (λ x. x || b) h

pub second_holds : (a b : Bool) → b ≡ true → (a || b) ≡ true
second_holds true b h = refl
second_holds false b h = h

-- the outputs of one application more
pub outputs_more : (apps : List App) (i : ℕ) (app : App) (before pushed outs : List (List ℕ)) → i < length apps → app ≡ get_or apps i app
    → before ≡ outputs_of (take i apps) → pushed ≡ app.outputs → outs ≡ before ++ pushed → outs ≡ outputs_of (take (i + 1) apps)
outputs_more apps i app before pushed outs lt is so_far own joined =
    let last : outputs_of (app ∷ []) ≡ app.outputs = append-nil app.outputs in
    let taken : take (i + 1) apps ≡ take i apps ++ app ∷ [] = take_more apps i app lt ∙ ap (λ a. take i apps ++ a ∷ []) (sym is) in
    let all : outputs_of (take (i + 1) apps) ≡ outputs_of (take i apps) ++ app.outputs =
    ap outputs_of taken ∙ (flat_map-append (λ a. a.outputs) (take i apps) (app ∷ []) ∙ ap (λ os. outputs_of (take i apps) ++ os) last) in
    joined ∙ ((λ j. so_far j ++ own j) ∙ sym all)
