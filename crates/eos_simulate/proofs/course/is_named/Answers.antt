use Rattle.std.proofs.Common.{◌≡◌, ℕ, ◌+◌, ◌<◌, Bool, true, false, ◌||◌, List, ◌∷◌, length, get_or, drop, bytes_eq, Bor, sym, ap, ◌∙◌, drop-cons, add-one}
use Rattle.eos_machine.specs.declared.switches.Switch.{Switch}
use Rattle.eos_machine.specs.Switching.{switch_name}
use Rattle.eos_simulate.specs.Settings.{is_named}
use Rattle.eos_simulate.proofs.course.is_named.Goals as goal

next : (xs : List (Bor (List ℕ))) (i : ℕ) (d : Bor (List ℕ)) → i < length xs → drop i xs ≡ get_or xs i d ∷ drop (i + 1) xs
next xs i d lt = drop-cons xs i d lt ∙ ap (λ n. get_or xs i d ∷ drop n xs) (sym (add-one i))

passed : (xs : List (Bor (List ℕ))) (s : Switch) (i : ℕ) (d : Bor (List ℕ)) (b : Bool) → i < length xs → b ≡ bytes_eq (get_or xs i d).now (switch_name s)
    → is_named (drop i xs) s ≡ is_named xs s → (b || is_named (drop (i + 1) xs) s) ≡ is_named xs s
passed xs s i d b lt told so_far =
    ap (λ t. t || is_named (drop (i + 1) xs) s) told ∙ (ap (λ names. is_named names s) (sym (next xs i d lt)) ∙ so_far)

pub loop-name-preserved : goal.loop-name-preserved
loop-name-preserved c =
    passed c.args.names.now c.args.switch c.loop-name.name-index _ false c.loop-name-test.true (sym c.if-is_called.false ∙ c.is_called.ensures) c.loop-name.invariant

pub returns-then-is_called : goal.returns-then-is_called
returns-then-is_called c =
    passed c.args.names.now c.args.switch c.loop-name.name-index _ true c.loop-name-test.true (sym c.if-is_called.true ∙ c.is_called.ensures) c.loop-name.invariant
