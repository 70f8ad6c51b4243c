-- Items that may stand in one batch.
use Rattle.std.specs.Prelude.{◌≡◌, true, List, [], ◌∷◌, ⊤}
use Rattle.eos_machine.specs.declared.item.Item.{Item}
use Rattle.eos_machine.specs.Grouping.{goes_on}

-- each goes on with the one before it
abbrev pub AreJoined : Item → List Item → Type 0
AreJoined x [] = ⊤
AreJoined x (y ∷ ys) = (goes_on x y ≡ true) × AreJoined y ys
