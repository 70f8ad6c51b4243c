-- What a run made, as it is brought by a collector who makes mistakes: the evidence, and the texts of its history and of its labels.
use Rattle.std.specs.Prelude.{◌≡◌, ℕ, List, ◌++◌, Option, option_map}
use Rattle.eos_evidence.specs.Evidence.{EvidenceParts}
use Rattle.eos_simulate.specs.declared.mistake.Mistake.{Mistake}
use Rattle.eos_simulate.specs.Collecting.{IsCollected}
use Rattle.eos_simulate.specs.MistakeTexts.{collected_lines}

-- the mistakes are made in the evidence alone, and the labels say them last
pub record IsCollectedAs (ms : List Mistake) (run : EvidenceParts) (said : Option (List ℕ) × Option (List ℕ)) (e : EvidenceParts) (texts : Option (List ℕ) × Option (List ℕ)) : Type 0 where
  pub evidence : IsCollected ms run e
  pub history : texts.0 ≡ said.0
  pub labels : texts.1 ≡ option_map (λ t. t ++ collected_lines ms) said.1
