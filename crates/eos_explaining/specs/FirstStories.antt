-- The stories of the first faults of an evidence, in the order of the list of all.
use Rattle.std.specs.Prelude.{⊤, ℕ, List, [], ◌∷◌, take}
use Rattle.eos_verdict.specs.declared.verdict.Verdict.{Verdict}
use Rattle.eos_evidence.specs.Evidence.{EvidenceParts}
use Rattle.eos_fold.specs.Parts.{PartLog}
use Rattle.eos_explaining.specs.Explaining.{AreTold, AreSeen, IsStoryOf}

-- of each of these verdicts one text, which is the story of its fault
abbrev pub AreStoriesOf : List ℕ → EvidenceParts → List PartLog → List Verdict → List Verdict → List (List ℕ) → Type 0
AreStoriesOf folder e logs told [] [] = ⊤
AreStoriesOf folder e logs told [] (t ∷ ts) = ⊥
AreStoriesOf folder e logs told (v ∷ vs) [] = ⊥
AreStoriesOf folder e logs told (v ∷ vs) (t ∷ ts) = IsStoryOf folder e logs told v t × AreStoriesOf folder e logs told vs ts

-- so many, or all where there are fewer; none of a yes, which has no fault
pub record AreFirstStories (folder : List ℕ) (e : EvidenceParts) (most : ℕ) (texts : List (List ℕ)) : Type 0 where
  pub logs : List PartLog
  pub told : List Verdict
  pub are : AreTold e logs told
  pub seen : List PartLog
  pub sees : AreSeen e logs seen
  pub each : AreStoriesOf folder e seen told (take most told) texts
