-- What stays while marks and rows are added.
use Rattle.std.specs.Prelude.{List}
use Rattle.eos_base.specs.Members.{Has}

abbrev pub Keeps : {X : Type 0} → List X → List X → Type 0
Keeps {X} old new = (x : X) → Has old x → Has new x
