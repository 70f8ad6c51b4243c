-- What a manifest leaves on the disk.
use Rattle.std.proofs.Common.{◌≡◌, ℕ, List, [], Option, Ok, refl, subst, inl}
use Rattle.eos_disk.specs.Entries.{Entry}
use Rattle.eos_disk.specs.Putting.{IsPlaced, IsLeft}
use Rattle.eos_disk.proofs.Kept.{known_same}
use Rattle.eos_evidence.specs.Manifest.{spec_said_by}
use Rattle.eos_evidence.specs.SpecFields.{SpecFields}
use Rattle.eos_disk.specs.Paths.{manifest_path}
use Rattle.eos_commands.specs.Making.{IsManifestFor, IsManifestPlaced, wrote_line}
use Rattle.eos_commands.specs.declared.given.Given.{Given}

pub left_nothing : (old : List ℕ → Entry) (path : List ℕ) → (text : List ℕ) × IsLeft old path text old
left_nothing old path = ([], (record { known = λ q. known_same (old q) (old q) refl; others = λ q n. refl }, inl refl))

pub left_there : (old new : List ℕ → Entry) (folder path text : List ℕ) → path ≡ manifest_path folder → IsLeft old path text new → (some : List ℕ) × IsLeft old (manifest_path folder) some new
left_there old new folder path text is left = (text, subst (λ (p : List ℕ). IsLeft old p text new) is left)

pub all_made : (given : Given) (old new : List ℕ → Entry) (input rest : Option (List ℕ)) (path bytes text line : List ℕ) (spec : SpecFields) → IsManifestFor given old input rest spec
    → path ≡ manifest_path given.folder.now → spec_said_by text ≡ Ok spec → bytes ≡ text → IsPlaced old path bytes new → line ≡ wrote_line spec
    → (s : SpecFields) × IsManifestFor given old input rest s × IsManifestPlaced old given.folder.now s new × (line ≡ wrote_line s)
all_made given old new input rest path bytes text line spec is at says same placed told = (
  spec,
  is,
  record {
    text = text;
    says = says;
    placed = subst (λ (b : List ℕ). IsPlaced old (manifest_path given.folder.now) b new) same (subst (λ (p : List ℕ). IsPlaced old p bytes new) at placed);
  },
  told,
)
