-- The steps of reading records one after the other: into a list, or passed over.
use Rattle.std.specs.Prelude.{◌≡◌, ℕ, List, [], ◌∷◌, ◌++◌, Result, Ok, Err}
use Rattle.eos_batch.specs.declared.fault.BatchFault.{BatchFault}
use Rattle.eos_batch.specs.Answers.{Fails}

-- what reading gives is put there, and these bytes are left
abbrev pub PushesFrom : {X Y : Type 0} → Result Y BatchFault → List X → List X → List ℕ → Result (X × List ℕ) BatchFault → Type 0
PushesFrom {X} (Ok _) before after rest read = (x : X) × (read ≡ Ok (x, rest)) × (after ≡ before ++ x ∷ [])
PushesFrom (Err e) before after rest read = Fails e read

-- There is something that reading gives.
abbrev pub Passes : {X Y : Type 0} → Result Y BatchFault → Result X BatchFault → Type 0
Passes {X} (Ok _) read = (x : X) × (read ≡ Ok x)
Passes (Err e) read = Fails e read

-- the same, and these bytes are left
abbrev pub PassesFrom : {X Y : Type 0} → Result Y BatchFault → List ℕ → Result (X × List ℕ) BatchFault → Type 0
PassesFrom {X} (Ok _) rest read = (x : X) × (read ≡ Ok (x, rest))
PassesFrom (Err e) rest read = Fails e read
