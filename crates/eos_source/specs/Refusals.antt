-- Why the pieces of a source aren't all read.
use Rattle.std.specs.Prelude.{ℕ, ◌<◌, ◌⊎◌, Option, None, Some}

-- the fault of the first piece, in order, that was refused: each one before it was opened
pub record IsFirstRefusal {F : Type 0} (outcomes : ℕ → Option F → Type 0) (pieces : ℕ) (why : F) : Type 0 where
  pub piece : ℕ
  pub there : piece < pieces
  pub before : (earlier : ℕ) → earlier < piece → outcomes earlier None
  pub refused : outcomes piece (Some why)

-- each of so many pieces was opened
abbrev pub AreOpened : {F : Type 0} → (ℕ → Option F → Type 0) → ℕ → Type 0
AreOpened outcomes pieces = (piece : ℕ) → piece < pieces → outcomes piece None

-- or want of memory, which is said so
abbrev pub IsRefusal : {F : Type 0} → (ℕ → Option F → Type 0) → (F → Type 0) → ℕ → F → Type 0
IsRefusal outcomes IsMemory pieces why = IsFirstRefusal outcomes pieces why ⊎ IsMemory why
