-- The manifest that is made for a folder of copied logs, and what is then printed.
use Rattle.std.specs.Prelude.{◌≡◌, ℕ, List, [], ◌∷◌, ◌++◌, length, map, codes, Option, None, Some, option_map, option_and_then, Ok}
use Rattle.std.specs.Fmt.{decimal}
use Rattle.eos_base.specs.declared.partition_name.PartitionName.{PartitionName}
use Rattle.eos_disk.specs.Entries.{Entry}
use Rattle.eos_disk.specs.GivenTexts.{is_standard, IsTextOf}
use Rattle.eos_disk.specs.Putting.{IsPlaced}
use Rattle.eos_evidence.specs.declared.application.App.{App}
use Rattle.eos_evidence.specs.declared.ends.End.{End}
use Rattle.eos_evidence.specs.Manifest.{spec_said_by}
use Rattle.eos_evidence.specs.SpecFields.{SpecFields, accepted}
use Rattle.eos_disk.specs.Paths.{manifest_path}
use Rattle.eos_manifest.specs.AppWords.{app_in_word}
use Rattle.eos_manifest.specs.Lines.{ends_said_by}
use Rattle.eos_manifest.specs.Manifests.{first_without, parts_for}
use Rattle.eos_commands.specs.Copies.{AreFoldersAt, AreRequired, AreEndsOfCopies}
use Rattle.eos_commands.specs.declared.given.Given.{Given}

-- the applications that these words give
abbrev pub apps_in_words : List (List ℕ) → Option (List App)
apps_in_words [] = Some []
apps_in_words (word ∷ words) = option_and_then (λ app. option_map (λ apps. app ∷ apps) (apps_in_words words)) (app_in_word word)

-- the ends that the lines of a file say, or those of the copied logs where no file is given
abbrev pub AreEndsGiven : Option (List ℕ) → (List ℕ → Entry) → List ℕ → List PartitionName → List PartitionName → Option (List ℕ) → Option (List ℕ) → List End → Type 0
AreEndsGiven (Some path) holds folder folders required old new ends = (text : List ℕ) × IsTextOf (is_standard path) holds path old new text × (ends_said_by text ≡ Ok ends)
AreEndsGiven None holds folder folders required old new ends = AreEndsOfCopies holds folder folders required ends

-- The parts of the manifest that is asked for: the applications of the words; of the ends that are given those of topics that an
-- application or Kafka itself has, and of partitions that have to have one; each of the latter has one.
pub record IsManifestFor (given : Given) (holds : List ℕ → Entry) (old new : Option (List ℕ)) (spec : SpecFields) : Type 0 where
  pub apps : List App
  pub words : apps_in_words (map (λ w. w.now) given.apps.now) ≡ Some apps
  pub folders : List PartitionName
  pub there : AreFoldersAt holds given.folder.now folders
  pub required : List PartitionName
  pub asked : AreRequired holds given.folder.now apps folders required
  pub ends : List End
  pub said : AreEndsGiven (option_map (λ p. p.now) given.ends) holds given.folder.now folders required old new ends
  pub none_lacks : first_without ends required ≡ None
  pub accepts : accepted (parts_for apps required ends) ≡ Ok spec

-- a new file stands at the manifest's place, whose text says these parts, and nothing else changed
pub record IsManifestPlaced (old : List ℕ → Entry) (folder : List ℕ) (spec : SpecFields) (new : List ℕ → Entry) : Type 0 where
  pub text : List ℕ
  pub says : spec_said_by text ≡ Ok spec
  pub placed : IsPlaced old (manifest_path folder) text new

-- how many partitions a manifest has
abbrev pub wrote_line : SpecFields → List ℕ
wrote_line spec = (codes "wrote partitions=" ++ decimal (length spec.ends)) ++ codes "\n"
