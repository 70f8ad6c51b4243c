-- Why there is no manifest that could be written, by steps: of the folder and its transaction log, and of the parts and the logs.
use Rattle.std.specs.Prelude.{◌≡◌, ◌⊎◌, ℕ, List, None, Ok}
use Rattle.eos_base.specs.Members.{Has}
use Rattle.eos_base.specs.declared.partition_name.PartitionName.{PartitionName}
use Rattle.eos_disk.specs.Entries.{Entry}
use Rattle.eos_disk.specs.Paths.{path_of_end}
use Rattle.eos_evidence.specs.declared.application.App.{App}
use Rattle.eos_evidence.specs.declared.ends.End.{End}
use Rattle.eos_evidence.specs.SpecFields.{SpecFields, accepted}
use Rattle.eos_manifest.specs.Manifests.{first_without, parts_for}
use Rattle.eos_commands.specs.Copies.{AreFoldersAt}
use Rattle.eos_commands.specs.InitRefusals.{RefusesBy, RefusesAt, RefusesCopy, RefusesStates, RefusesParts}
use Rattle.eos_commands.specs.declared.init_fault.InitFault.{InitFault}

-- the folder isn't listed; or it is, and the transaction log isn't read
abbrev pub RefusesThere : (List ℕ → Entry) → List ℕ → List App → InitFault → Type 0
RefusesThere holds folder apps why = RefusesBy (RefusesAt holds folder) why
    ⊎ ((folders : List PartitionName) × AreFoldersAt holds folder folders × RefusesStates holds folder apps folders why)

-- the parts aren't those of a manifest; or they are, and the log of one of its partitions isn't read, of which a note would be told
abbrev pub RefusesManifest : (List ℕ → Entry) → List ℕ → List App → List PartitionName → List End → InitFault → Type 0
RefusesManifest holds folder apps required ends why = RefusesParts apps required ends why
    ⊎ ((spec : SpecFields) × (e : End) × (first_without ends required ≡ None) × (accepted (parts_for apps required ends) ≡ Ok spec) × Has spec.ends e
    × RefusesBy (RefusesCopy holds (path_of_end folder e)) why)
