-- What is drawn of what was judged around its first faults, of whatever evidence that is.
use Rattle.std.specs.Prelude.{◌≡◌, ⊤, ℕ, List, [], ◌∷◌, None, Some, string_bytes}
use Rattle.eos_verdict.specs.declared.verdict.Fault.{Fault}
use Rattle.eos_verdict.specs.declared.verdict.Verdict.{Verdict}
use Rattle.eos_verdict.specs.declared.verdict.Verdict.TheVariants.{No}
use Rattle.eos_evidence.specs.declared.partition.Partition.{Partition}
use Rattle.eos_evidence.specs.Evidence.{EvidenceParts}
use Rattle.eos_source.specs.Said.{Known}
use Rattle.eos_source_check.specs.declared.judged.Judged.{Judged}
use Rattle.eos_source_check.specs.steps.JudgedBy.{HoldsBy}
use Rattle.eos_drawing.specs.declared.answer.Drawn.{Drawn}
use Rattle.eos_drawing.specs.FirstPictures.{AreFirstPictures}
use Rattle.eos_drawing.specs.Folders.{is_later}
use Rattle.eos_drawing.specs.steps.Answers.{IsDrawnBy}

-- the text around the fault of this verdict
pub record IsTextBy (known : ℕ → Known) (partitions : List Partition) (judged : Judged) (verdict : Verdict) (text : List ℕ) : Type 0 where
  pub drawn : Drawn
  pub by : IsDrawnBy known partitions judged verdict None drawn
  pub is : text ≡ string_bytes drawn.text

-- of each of these faults one
abbrev pub AreTextsBy : (ℕ → Known) → List Partition → Judged → List Fault → List (List ℕ) → Type 0
AreTextsBy known partitions judged [] [] = ⊤
AreTextsBy known partitions judged [] (t ∷ ts) = ⊥
AreTextsBy known partitions judged (f ∷ fs) [] = ⊥
AreTextsBy known partitions judged (f ∷ fs) (t ∷ ts) = IsTextBy known partitions judged (No f) t × AreTextsBy known partitions judged fs ts

-- they are those of each evidence of this spec of which this was judged
abbrev pub ArePicturesBy : (ℕ → Known) → EvidenceParts → Judged → ℕ → List (List ℕ) → Type 0
ArePicturesBy known shape judged most texts = HoldsBy known shape judged (is_later (Some most)) (λ e. AreFirstPictures known shape.partitions e most texts)
