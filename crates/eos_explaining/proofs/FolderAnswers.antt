-- What is told of what a folder holds is so of the evidence that stands there.
use Rattle.std.proofs.Common.{ℕ, true, List, Option}
use Rattle.eos_disk.specs.Entries.{Entry}
use Rattle.eos_evidence.specs.Evidence.{EvidenceParts, segments_of}
use Rattle.eos_disk.specs.Shapes.{AreKnown}
use Rattle.eos_source.specs.FolderLogs.{is_log_at}
use Rattle.eos_source.specs.Saying.{said_at, StandsAt}
use Rattle.eos_source.specs.Said.{known_by}
use Rattle.eos_source_check.proofs.FoldersRead as folders
use Rattle.eos_source_check.proofs.FoldersRead.{in_too, in_known, stands_there}
use Rattle.eos_source_check.proofs.NamedAgain.{read_there}
use Rattle.eos_explaining.specs.declared.answer.Answer.{Answer}
use Rattle.eos_explaining.specs.declared.folder.Explained.{Explained}
use Rattle.eos_explaining.specs.Folders.{number_of, IsExplained, IsFrontOfExplained, HasThem, HoldsAsNamed, HoldsOf}
use Rattle.eos_explaining.specs.steps.Tellings.{IsAnswer, Tells, TellsFront}

so_too : (holds : List ℕ → Entry) (folder : List ℕ) (Holds Follows : EvidenceParts → Type 0) → ((e : EvidenceParts) → Holds e → Follows e) → HoldsOf holds folder Holds → HoldsOf holds folder Follows
so_too holds folder Holds Follows follows h = in_too holds folder (λ known shape. HoldsAsNamed known shape Holds) (λ known shape. HoldsAsNamed known shape Follows) (λ known shape n. record {
  read = n.read;
  named = n.named;
  are = folders.so_too known shape true (λ e. HasThem e n.read → Holds e) (λ e. HasThem e n.read → Follows e) (λ e is has. follows e (is has)) n.are;
}) h

-- where it is known what stands below the folder, it holds of the evidence that stands there
pub known_of : (holds : List ℕ → Entry) (folder : List ℕ) (Holds : EvidenceParts → Type 0) (e : EvidenceParts) → AreKnown holds folder → StandsAt holds folder e → HoldsOf holds folder Holds → Holds e
known_of holds folder Holds e known at h =
    let said = known_by (said_at holds folder (segments_of at.shape.partitions) at.forms) (is_log_at at.forms) in
    let n = in_known holds folder (λ k shape. HoldsAsNamed k shape Holds) e known at h in
    stands_there holds folder true (λ x. HasThem x n.read → Holds x) e at n.are (λ p has. read_there said at.stands.said at.shape e p at.stands.stands at.stands.is (n.named p has))

-- ---- what is written

pub told_of : (holds : List ℕ → Entry) (folder : List ℕ) (fault : Option ℕ) (answer : Answer) (old new : Option (List ℕ)) (told : Explained) → HoldsOf holds folder (λ e. IsAnswer folder e (number_of fault) answer)
    → Tells fault answer old new told → HoldsOf holds folder (λ e. IsExplained folder e fault old new told)
told_of holds folder fault answer old new told a t = so_too holds folder (λ e. IsAnswer folder e (number_of fault) answer) (λ e. IsExplained folder e fault old new told) (λ e is. t.of folder e is) a

pub front_of : (holds : List ℕ → Entry) (folder : List ℕ) (fault : Option ℕ) (answer : Answer) (old new : Option (List ℕ)) → HoldsOf holds folder (λ e. IsAnswer folder e (number_of fault) answer)
    → TellsFront fault answer old new → HoldsOf holds folder (λ e. IsFrontOfExplained folder e fault old new)
front_of holds folder fault answer old new a t = so_too holds folder (λ e. IsAnswer folder e (number_of fault) answer) (λ e. IsFrontOfExplained folder e fault old new) (λ e is. t.of folder e is) a

pub known_told : (holds : List ℕ → Entry) (folder : List ℕ) (fault : Option ℕ) (answer : Answer) (old new : Option (List ℕ)) (told : Explained) (e : EvidenceParts)
    → HoldsOf holds folder (λ x. IsAnswer folder x (number_of fault) answer) → Tells fault answer old new told → AreKnown holds folder → StandsAt holds folder e → IsExplained folder e fault old new told
known_told holds folder fault answer old new told e a t known at = t.of folder e (known_of holds folder (λ x. IsAnswer folder x (number_of fault) answer) e known at a)

pub known_front : (holds : List ℕ → Entry) (folder : List ℕ) (fault : Option ℕ) (answer : Answer) (old new : Option (List ℕ)) (e : EvidenceParts)
    → HoldsOf holds folder (λ x. IsAnswer folder x (number_of fault) answer) → TellsFront fault answer old new → AreKnown holds folder → StandsAt holds folder e → IsFrontOfExplained folder e fault old new
known_front holds folder fault answer old new e a t known at = t.of folder e (known_of holds folder (λ x. IsAnswer folder x (number_of fault) answer) e known at a)
