-- What a contract says of a reading that tells the field.
use Rattle.std.specs.Prelude.{◌≡◌, ℕ, List, Result, Ok, Err, ⊤}
use Rattle.eos_fold_file.specs.declared.fault.FoldFault.{FoldFault}
use Rattle.eos_fold_file.specs.declared.fault.FoldFault.TheVariants as faults
use Rattle.eos_fold_file.specs.declared.refusal.RefusedField.{RefusedField}

-- the refusal is the one that is said, unless memory ran out
abbrev pub FailsIn : {Y : Type 0} → FoldFault → RefusedField → Result Y RefusedField → Type 0
FailsIn faults.OutOfMemory refusal said = ⊤
FailsIn faults.Short refusal said = said ≡ Err refusal
FailsIn faults.Magic refusal said = said ≡ Err refusal
FailsIn faults.Version refusal said = said ≡ Err refusal
FailsIn faults.Roles refusal said = said ≡ Err refusal
FailsIn faults.Number refusal said = said ≡ Err refusal
FailsIn faults.Head refusal said = said ≡ Err refusal
FailsIn faults.Epoch refusal said = said ≡ Err refusal
FailsIn faults.Record refusal said = said ≡ Err refusal
FailsIn faults.Stop refusal said = said ≡ Err refusal
FailsIn faults.Crc refusal said = said ≡ Err refusal
FailsIn faults.Trailing refusal said = said ≡ Err refusal

abbrev pub AnswersIn : {X : Type 0} → Result X RefusedField → Result X RefusedField → Type 0
AnswersIn (Ok x) said = said ≡ Ok x
AnswersIn (Err refusal) said = FailsIn refusal.fault refusal said

abbrev pub GivesIn : {X : Type 0} → Result X RefusedField → List ℕ → Result (X × List ℕ) RefusedField → Type 0
GivesIn (Ok x) rest read = read ≡ Ok (x, rest)
GivesIn (Err refusal) rest read = FailsIn refusal.fault refusal read
