-- What a lent name stands for.
use Rattle.std.specs.Prelude.{ℕ, List}
use Rattle.std.specs.Borrow.{Bor}

abbrev pub plain_name : Bor (List ℕ) → List ℕ
plain_name n = n.now
