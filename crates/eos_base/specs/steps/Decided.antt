-- What holds, or doesn't.
use Rattle.std.specs.Prelude.{◌⊎◌}

abbrev pub Decided : Type 0 → Type 0
Decided P = P ⊎ (P → ⊥)
