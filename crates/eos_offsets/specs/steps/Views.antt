-- What a key or a value says that is read where it stands.
use Rattle.std.specs.Borrow.{Bor}
use Rattle.std.specs.Prelude.{◌≡◌, ℕ, List, Result, Ok, Err}
use Rattle.eos_base.specs.declared.record_fault.RecordFault.{RecordFault}
use Rattle.eos_offsets.specs.declared.key.OffsetKey.{OffsetKey}
use Rattle.eos_offsets.specs.declared.view.KeyRef.{KeyRef}
use Rattle.eos_offsets.specs.Views.{plain_key}

-- The lent bytes and those that are left are what reading gives.
abbrev pub Lends : Result (Bor (List ℕ)) RecordFault → List ℕ → Result (List ℕ × List ℕ) RecordFault → Type 0
Lends (Ok text) rest read = read ≡ Ok (text.now, rest)
Lends (Err e) rest read = read ≡ Err e

-- The lent key is the key that is said.
abbrev pub LendsKey : Result KeyRef RecordFault → Result OffsetKey RecordFault → Type 0
LendsKey (Ok key) said = said ≡ Ok (plain_key key)
LendsKey (Err e) said = said ≡ Err e
