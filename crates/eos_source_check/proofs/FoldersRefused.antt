-- What refuses the pieces of a folder refuses the folder.
use Rattle.std.proofs.Common.{◌≡◌, ℕ, Bool, Option, sym, subst}
use Rattle.eos_disk.specs.declared.folder.FolderFault.{FolderFault}
use Rattle.eos_disk.specs.declared.folder.FolderFault.TheVariants.{OutOfMemory}
use Rattle.eos_source.specs.FirstRefusals.{IsOfPieces}
use Rattle.eos_source.proofs.FirstRefusals.{refused_of, fold_of, changed_of, memory_of}
use Rattle.eos_source_check.specs.Refusals.{IsUntold, IsRefusalFor}
use Rattle.eos_source_check.specs.declared.fault.Unlisted.{Unlisted}
use Rattle.eos_source_check.specs.declared.fault.Unlisted.TheVariants as unlisted

pub untold_of : (outcomes : ℕ → Option FolderFault → Type 0) (pieces : ℕ) (all : Bool) (why : Unlisted FolderFault) (fault : FolderFault) → IsUntold outcomes (λ w. w ≡ OutOfMemory) pieces all why
    → IsRefusalFor outcomes pieces why fault → IsOfPieces outcomes pieces all fault
untold_of outcomes pieces all (unlisted.Refused why) fault u is = subst (IsOfPieces outcomes pieces all) (sym is) (refused_of outcomes pieces all why u)
untold_of outcomes pieces all (unlisted.Fold piece) fault u is = fold_of outcomes pieces all piece fault u is
untold_of outcomes pieces all (unlisted.Changed piece) fault u is = changed_of outcomes pieces all fault u is
untold_of outcomes pieces all unlisted.OutOfMemory fault u is = subst (IsOfPieces outcomes pieces all) (sym is) (memory_of outcomes pieces all)
