-- Why bytes are no fold file, and what a contract says of an answer.
use Rattle.std.specs.Prelude.{◌≡◌, ℕ, List, codes, Result, Ok, Err, ⊤}
use Rattle.eos_fold_file.specs.declared.fault.FoldFault.{FoldFault}
use Rattle.eos_fold_file.specs.declared.fault.FoldFault.TheVariants as faults

abbrev pub name_of : FoldFault → List ℕ
name_of faults.Short = codes "Short"
name_of faults.Magic = codes "Magic"
name_of faults.Version = codes "Version"
name_of faults.Roles = codes "Roles"
name_of faults.Number = codes "Number"
name_of faults.Head = codes "Head"
name_of faults.Epoch = codes "Epoch"
name_of faults.Record = codes "Record"
name_of faults.Stop = codes "Stop"
name_of faults.Crc = codes "Crc"
name_of faults.Trailing = codes "Trailing"
name_of faults.OutOfMemory = codes "OutOfMemory"

-- A fault is the one that is said, unless memory ran out.
abbrev pub Fails : {Y : Type 0} → FoldFault → Result Y FoldFault → Type 0
Fails faults.OutOfMemory said = ⊤
Fails faults.Short said = said ≡ Err faults.Short
Fails faults.Magic said = said ≡ Err faults.Magic
Fails faults.Version said = said ≡ Err faults.Version
Fails faults.Roles said = said ≡ Err faults.Roles
Fails faults.Number said = said ≡ Err faults.Number
Fails faults.Head said = said ≡ Err faults.Head
Fails faults.Epoch said = said ≡ Err faults.Epoch
Fails faults.Record said = said ≡ Err faults.Record
Fails faults.Stop said = said ≡ Err faults.Stop
Fails faults.Crc said = said ≡ Err faults.Crc
Fails faults.Trailing said = said ≡ Err faults.Trailing

-- The answer is what is said, unless memory ran out.
abbrev pub Answers : {X : Type 0} → Result X FoldFault → Result X FoldFault → Type 0
Answers (Ok x) said = said ≡ Ok x
Answers (Err e) said = Fails e said
