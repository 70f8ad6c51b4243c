-- What a comparison of folds with logs finds: of each fold in a folder how its file is to the log of its segment, where one of the
-- folders that are given has it.
-- Source: Kafka's documentation, "Log" (a partition's folder, and the names of its segments).
use Rattle.std.specs.Prelude.{◌≡◌, ◌≢◌, ℕ, List, [], ◌∷◌, ◌++◌, Option, None, Some, string_bytes, ⊤}
use Rattle.eos_base.specs.Members.{Has}
use Rattle.eos_disk.specs.Entries.{Entry, HasBytes, MayLackFile}
use Rattle.eos_evidence.specs.declared.application.App.{App}
use Rattle.eos_evidence.specs.declared.segment.Segment.{Segment}
use Rattle.eos_evidence.specs.Evidence.{EvidenceParts, segments_of}
use Rattle.eos_fold_file.specs.declared.file.FoldFile.{FoldFile}
use Rattle.eos_fold_file.specs.Files.{fold_text}
use Rattle.eos_fold_file.specs.Folds.{IsFoldOf, IsAskedAs}
use Rattle.eos_disk.specs.declared.names.Form.{Form}
use Rattle.eos_disk.specs.declared.names.Form.TheVariants.{Log, Fold}
use Rattle.eos_disk.specs.Paths.{segment_path}
use Rattle.eos_disk.specs.Shapes.{IsShapeAt}
use Rattle.eos_commits.specs.SourceTopics.{AreSourceTopics}
use Rattle.eos_reading.specs.declared.wanted.Wanted.{Wanted}
use Rattle.eos_reading.specs.Wanted.{wanted_of}
use Rattle.eos_commands.specs.declared.found.Likeness.{Likeness}
use Rattle.eos_commands.specs.declared.found.Likeness.TheVariants.{Right, Stale, Forged}
use Rattle.eos_commands.specs.declared.found.Found.{Found}

-- ---- one fold

-- the segment of this name that has these bytes
abbrev pub with_bytes : Segment → List ℕ → Segment
with_bytes name bytes = record { topic = name.topic; partition = name.partition; base = name.base; bytes = bytes }

-- the text is that of the fold of these bytes, as the segment of this name, of what is wanted of its records
pub record IsFoldText (topics : List (List ℕ)) (wanted : Wanted) (name : Segment) (bytes text : List ℕ) : Type 0 where
  pub fold : FoldFile
  pub is : IsFoldOf (with_bytes name bytes) fold
  pub asked : IsAskedAs wanted topics fold.kept
  pub says : text ≡ fold_text fold

-- the text is that of the fold of the log that lies in this folder
pub record HasFold (holds : List ℕ → Entry) (topics : List (List ℕ)) (wanted : Wanted) (name : Segment) (logs text : List ℕ) : Type 0 where
  pub log : List ℕ
  pub stands : HasBytes (holds (segment_path logs name Log)) log
  pub is : IsFoldText topics wanted name log text

-- the text is that of the fold of a front of this log
pub record IsOfFront (holds : List ℕ → Entry) (topics : List (List ℕ)) (wanted : Wanted) (name : Segment) (logs text : List ℕ) : Type 0 where
  pub front : List ℕ
  pub rest : List ℕ
  pub stands : HasBytes (holds (segment_path logs name Log)) (front ++ rest)
  pub is : IsFoldText topics wanted name front text

-- the text isn't that of the fold of this log, which is this one
pub record Differs (holds : List ℕ → Entry) (topics : List (List ℕ)) (wanted : Wanted) (name : Segment) (logs text : List ℕ) : Type 0 where
  pub made : List ℕ
  pub is : HasFold holds topics wanted name logs made
  pub other : text ≢ made

-- how a fold's text is to the log: its fold, another text but the fold of a front of it, or another text
abbrev pub IsLike : (List ℕ → Entry) → List (List ℕ) → Wanted → Segment → List ℕ → List ℕ → Likeness → Type 0
IsLike holds topics wanted name logs text Right = HasFold holds topics wanted name logs text
IsLike holds topics wanted name logs text Stale = Differs holds topics wanted name logs text × IsOfFront holds topics wanted name logs text
IsLike holds topics wanted name logs text Forged = Differs holds topics wanted name logs text

-- none of these folders has the segment's log
abbrev pub HaveNone : (List ℕ → Entry) → Segment → List (List ℕ) → Type 0
HaveNone holds name [] = ⊤
HaveNone holds name (logs ∷ others) = MayLackFile (holds (segment_path logs name Log)) × HaveNone holds name others

-- the fold of this name in the folder has this text, which is so to the log in one of these folders
pub record IsCompared (holds : List ℕ → Entry) (topics : List (List ℕ)) (wanted : Wanted) (folder : List ℕ) (all : List (List ℕ)) (name : Segment) (how : Likeness) : Type 0 where
  pub logs : List ℕ
  pub one : Has all logs
  pub text : List ℕ
  pub stands : HasBytes (holds (segment_path folder name Fold)) text
  pub like : IsLike holds topics wanted name logs text how

abbrev pub IsFoundAs : (List ℕ → Entry) → List (List ℕ) → Wanted → List ℕ → List (List ℕ) → Segment → Option Likeness → Type 0
IsFoundAs holds topics wanted folder all name None = HaveNone holds name all
IsFoundAs holds topics wanted folder all name (Some how) = IsCompared holds topics wanted folder all name how

-- what is found of the fold of this name
pub record IsFound (holds : List ℕ → Entry) (topics : List (List ℕ)) (wanted : Wanted) (folder : List ℕ) (all : List (List ℕ)) (name : Segment) (found : Found) : Type 0 where
  pub path : string_bytes found.path ≡ segment_path folder name Fold
  pub how : IsFoundAs holds topics wanted folder all name found.how

-- ---- all folds

-- nothing is found of a segment that stands there as a log
abbrev pub AreOfOne : (List ℕ → Entry) → List (List ℕ) → Wanted → List ℕ → List (List ℕ) → Segment → Form → List Found → Type 0
AreOfOne holds topics wanted folder all name Log found = found ≡ []
AreOfOne holds topics wanted folder all name Fold found = (one : Found) × IsFound holds topics wanted folder all name one × (found ≡ one ∷ [])

-- what is found of the segments of these names and forms, in order
abbrev pub AreFound : (List ℕ → Entry) → List (List ℕ) → List App → List ℕ → List (List ℕ) → List Segment → List Form → List Found → Type 0
AreFound holds topics apps folder all [] forms found = found ≡ []
AreFound holds topics apps folder all (name ∷ names) [] found = found ≡ []
AreFound holds topics apps folder all (name ∷ names) (form ∷ forms) found =
    (first later : List Found) × AreOfOne holds topics (wanted_of apps name.topic) folder all name form first × (found ≡ first ++ later)
    × AreFound holds topics apps folder all names forms later

-- what is found of the folds that stand in a folder, by the applications of its manifest
pub record AreVerified (holds : List ℕ → Entry) (folder : List ℕ) (all : List (List ℕ)) (found : List Found) : Type 0 where
  pub shape : EvidenceParts
  pub forms : List Form
  pub is : IsShapeAt holds folder shape forms
  pub topics : List (List ℕ)
  pub sources : AreSourceTopics shape.spec.apps topics
  pub are : AreFound holds topics shape.spec.apps folder all (segments_of shape.partitions) forms found
