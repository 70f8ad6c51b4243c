use Rattle.std.proofs.Common.{◌≡◌, ℕ, ◌+◌, ◌<◌, suc, List, ◌∷◌, Some, length, get_or, drop, sym, ap, ◌∙◌, subst, drop-cons, add-one}
use Rattle.serde_json.specs.declared.value.Value.{Value}
use Rattle.serde_json.specs.View.{view, items_view}
use Rattle.eos_evidence.specs.declared.application.App.{App}
use Rattle.eos_evidence.specs.Manifest.{app_in, apps_of}
use Rattle.eos_evidence.proofs.ManifestParts.{with_rest, one_more}
use Rattle.eos_evidence.proofs.manifest_reader.read_app_items.Goals as goal

next : (xs : List Value) (i : ℕ) (x : Value) → i < length xs → x ≡ get_or xs i x → drop i xs ≡ x ∷ drop (i + 1) xs
next xs i x lt is = drop-cons xs i x lt ∙ (ap (λ y. y ∷ drop (suc i) xs) (sym is) ∙ ap (λ n. x ∷ drop n xs) (sym (add-one i)))

pub loop-item-preserved : goal.loop-item-preserved
loop-item-preserved c =
    let items = c.args.items.now in
    let whole = apps_of (items_view items) in
    let left = apps_of (items_view (drop (c.loop-item.item-index + 1) items)) in
    let done = c.loop-item.apps.items in
    let said : Some c.in-Some.app ≡ app_in (view c.item-item.result) = sym c.in-Some.is ∙ c.in_ok-app.ensures in
    let first = next items c.loop-item.item-index c.item-item.result c.loop-item-test.true c.item-item.is in
    let before = subst (λ vs. with_rest done (apps_of (items_view vs)) ≡ whole) first c.loop-item.invariant in
    subst (λ (apps : List App). with_rest apps left ≡ whole) (sym c.in_ok-push.ensures.items) (one_more done c.in-Some.app (app_in (view c.item-item.result)) left whole said before)
