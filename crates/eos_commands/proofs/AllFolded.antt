-- What was folded, of what each step gave.
use Rattle.std.proofs.Common.{◌≡◌, ℕ, List, subst}
use Rattle.eos_disk.specs.Entries.{Entry}
use Rattle.eos_evidence.specs.declared.application.App.{App}
use Rattle.eos_evidence.specs.declared.ends.End.{End}
use Rattle.eos_evidence.specs.SpecFields.{SpecFields}
use Rattle.eos_commits.specs.SourceTopics.{AreSourceTopics}
use Rattle.eos_commands.specs.Folding.{AreFoldersAt, Folded, items_of}
use Rattle.eos_commands.specs.declared.folder.PartitionFolder.{PartitionFolder}

pub all_folded : (old new : List ℕ → Entry) (out : List ℕ) (spec : SpecFields) (paths : List (List ℕ)) (folders lent : List PartitionFolder) (ends : List End)
    (apps : List App) (topics wanted : List (List ℕ)) → AreFoldersAt old ends paths folders → ends ≡ spec.ends
    → AreSourceTopics apps topics → apps ≡ spec.apps → Folded old wanted out (items_of apps lent) new → wanted ≡ topics → lent ≡ folders
    → (fs : List PartitionFolder) × (ts : List (List ℕ)) × AreFoldersAt old spec.ends paths fs × AreSourceTopics spec.apps ts × Folded old ts out (items_of spec.apps fs) new
all_folded old new out spec paths folders lent ends apps topics wanted found e read a folded w l = (
  folders,
  topics,
  subst (λ (es : List End). AreFoldersAt old es paths folders) e found,
  subst (λ (xs : List App). AreSourceTopics xs topics) a read,
  subst (λ (ts : List (List ℕ)). Folded old ts out (items_of spec.apps folders) new) w
      (subst (λ (xs : List App). Folded old wanted out (items_of xs folders) new) a (subst (λ (fs : List PartitionFolder). Folded old wanted out (items_of apps fs) new) l folded)),
)
