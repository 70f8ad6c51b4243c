-- The last record of an application in a log.
use Rattle.std.proofs.Common.{◌≡◌, ◌<◌, ◌≤◌, ◌-◌, ◌+◌, ℕ, suc, List, [], ◌∷◌, ◌++◌, Some, None, length, get_or, take, drop, refl, sym, ap, ◌∙◌, drop-cons, add-one, arith}
use Rattle.std.proofs.lemmas.List.{take-append-drop}
use Rattle.std.proofs.lemmas.List.Elements.{filter_map-append}
use Rattle.std.specs.List.{cons_option}
use Rattle.eos_machine.specs.World.{state_of}
use Rattle.eos_machine.specs.Logs.{entry_in, entries_of, last_state}
use Rattle.eos_machine.specs.declared.item.Entry.{Entry}
use Rattle.eos_machine.specs.declared.item.Item.{Item}
use Rattle.eos_machine.specs.declared.state.Coordinator.{Coordinator}

last_append : (s : Coordinator) (xs ys : List Entry) → last_state s (xs ++ ys) ≡ last_state (last_state s xs) ys
last_append s [] ys = refl
last_append s (x ∷ xs) ys = last_append (state_of x) xs ys

-- the state that a log leaves is that which its rest leaves after the records before it
pub last_of_rest : (a i : ℕ) (log : List Item) (s : Coordinator) → last_state s (entries_of a log) ≡ last_state (last_state s (entries_of a (take i log))) (entries_of a (drop i log))
last_of_rest a i log s =
    ap (λ l. last_state s (entries_of a l)) (sym (take-append-drop i log))
    ∙ ap (last_state s) (filter_map-append (entry_in a) (take i log) (drop i log))
    ∙ last_append s (entries_of a (take i log)) (entries_of a (drop i log))

before : (i : ℕ) → 0 < i → i - 1 + 1 ≡ i
before i lt = search arith

within : (i n : ℕ) → 0 < i → i ≤ n → i - 1 < n
within i n lt le = search arith

-- a log from the item before this place on
from_before : (i : ℕ) (log : List Item) (x : Item) → 0 < i → i ≤ length log → x ≡ get_or log (i - 1) x → drop (i - 1) log ≡ x ∷ drop i log
from_before i log x lt le is =
    drop-cons log (i - 1) x (within i (length log) lt le)
    ∙ ap (λ y. y ∷ drop (suc (i - 1)) log) (sym is)
    ∙ ap (λ n. x ∷ drop n log) (sym (add-one (i - 1)) ∙ before i lt)

-- the item before this place says nothing of an application, nor do those behind it
pub none_here : (a i : ℕ) (log : List Item) (x : Item) → 0 < i → i ≤ length log → x ≡ get_or log (i - 1) x → None ≡ entry_in a x
    → ((s : Coordinator) → last_state s (entries_of a (drop i log)) ≡ s) → (s : Coordinator) → last_state s (entries_of a (drop (i - 1) log)) ≡ s
none_here a i log x lt le is says rest s =
    ap (λ l. last_state s (entries_of a l)) (from_before i log x lt le is)
    ∙ ap (λ o. last_state s (cons_option o (entries_of a (drop i log)))) (sym says)
    ∙ rest s

-- it does, and those behind it don't
pub some_here : (a i : ℕ) (log : List Item) (x : Item) (e : Entry) → 0 < i → i ≤ length log → x ≡ get_or log (i - 1) x → Some e ≡ entry_in a x
    → ((s : Coordinator) → last_state s (entries_of a (drop i log)) ≡ s) → (s : Coordinator) → last_state s (entries_of a log) ≡ state_of e
some_here a i log x e lt le is says rest s =
    let t = last_state s (entries_of a (take (i - 1) log)) in
    last_of_rest a (i - 1) log s
    ∙ ap (λ l. last_state t (entries_of a l)) (from_before i log x lt le is)
    ∙ ap (λ o. last_state t (cons_option o (entries_of a (drop i log)))) (sym says)
    ∙ rest (state_of e)
