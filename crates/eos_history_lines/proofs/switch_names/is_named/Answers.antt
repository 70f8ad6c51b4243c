use Rattle.std.proofs.Common.{◌≡◌, ℕ, ◌+◌, ◌<◌, suc, Bool, true, false, ◌||◌, List, ◌∷◌, length, get_or, drop, sym, ap, ◌∙◌, drop-cons, add-one}
use Rattle.serde_json.specs.declared.value.Value.{Value}
use Rattle.serde_json.specs.View.{view, items_view}
use Rattle.eos_history_lines.specs.steps.Reading.{is_text, is_named}
use Rattle.eos_history_lines.proofs.switch_names.is_named.Goals as goal

next : (xs : List Value) (i : ℕ) (x : Value) → i < length xs → x ≡ get_or xs i x → drop i xs ≡ x ∷ drop (i + 1) xs
next xs i x lt is = drop-cons xs i x lt ∙ (ap (λ y. y ∷ drop (suc i) xs) (sym is) ∙ ap (λ n. x ∷ drop n xs) (sym (add-one i)))

passed : (name : List ℕ) (xs : List Value) (i : ℕ) (x : Value) (b : Bool) → i < length xs → x ≡ get_or xs i x → b ≡ is_text name (view x)
    → is_named name (items_view (drop i xs)) ≡ is_named name (items_view xs) → (b || is_named name (items_view (drop (i + 1) xs))) ≡ is_named name (items_view xs)
passed name xs i x b lt is told so_far =
    ap (λ t. t || is_named name (items_view (drop (i + 1) xs))) told ∙ ap (λ vs. is_named name (items_view vs)) (sym (next xs i x lt is)) ∙ so_far

pub loop-item-preserved : goal.loop-item-preserved
loop-item-preserved c =
    passed c.args.name.now c.args.names.now c.loop-item.item-index c.item-item.result false c.loop-item-test.true c.item-item.is (sym c.if-is_text.false ∙ c.is_text.ensures) c.loop-item.invariant

pub returns-then-is_text : goal.returns-then-is_text
returns-then-is_text c =
    passed c.args.name.now c.args.names.now c.loop-item.item-index c.item-item.result true c.loop-item-test.true c.item-item.is (sym c.if-is_text.true ∙ c.is_text.ensures) c.loop-item.invariant
