-- What is drawn of what was judged, of whatever evidence that is.
use Rattle.std.specs.Prelude.{◌≡◌, ℕ, List, Option, string_bytes}
use Rattle.std.specs.Str.{trim_end}
use Rattle.eos_verdict.specs.declared.verdict.Verdict.{Verdict}
use Rattle.eos_evidence.specs.declared.partition.Partition.{Partition}
use Rattle.eos_evidence.specs.Evidence.{EvidenceParts}
use Rattle.eos_picture.specs.declared.mark.Picture.{Picture}
use Rattle.eos_verdict.specs.VerdictTexts.{verdict_line, status_of}
use Rattle.eos_source.specs.Said.{Known}
use Rattle.eos_source_check.specs.Judged.{IsJudgedFor}
use Rattle.eos_source_check.specs.declared.judged.Judged.{Judged}
use Rattle.eos_source_check.specs.steps.JudgedBy.{HoldsBy}
use Rattle.eos_picture.specs.declared.drawing.Drawing.{Drawing}
use Rattle.eos_picture.specs.declared.times.Times.{Times}
use Rattle.eos_picture.specs.Shapes.{svg_text}
use Rattle.eos_drawing.specs.declared.answer.Answer.{Answer}
use Rattle.eos_drawing.specs.declared.answer.Answer.TheVariants as answers
use Rattle.eos_drawing.specs.declared.answer.Drawn.{Drawn}
use Rattle.eos_drawing.specs.Drawings.{fault_of, around_of, drew_line, IsDrawing, AreTooFew}
use Rattle.eos_drawing.specs.Folders.{is_later}
use Rattle.eos_drawing.specs.Pictures.{IsPictureOf}
use Rattle.eos_picture.specs.Told.{TellOf}
use Rattle.eos_drawing.specs.Whens.{AreTimesOfRows}

abbrev pub IsAnswer : Option ℕ → Option ℕ → Answer → (ℕ → Known) → List Partition → EvidenceParts → Type 0
IsAnswer fault around (answers.Drawn drawn) known partitions e = IsDrawing known partitions e fault around drawn.status (string_bytes drawn.line) (string_bytes drawn.text)
IsAnswer fault around (answers.TooFew count) known partitions e = AreTooFew e fault count

-- the line on this picture's size, the text of a drawing with these times, and the status of the verdict
pub record IsText (picture : Picture) (times : List Times) (verdict : Verdict) (drawn : Drawn) : Type 0 where
  pub size : string_bytes drawn.line ≡ drew_line picture
  pub drawing : Drawing
  pub told : TellOf picture times drawing.shapes
  pub title : string_bytes drawing.title ≡ trim_end (verdict_line verdict)
  pub says : string_bytes drawn.text ≡ svg_text drawing
  pub exit : drawn.status ≡ status_of verdict

-- of a picture around the fault of this verdict, of each evidence of which this was judged, with the times that these partitions say
pub record IsDrawnBy (known : ℕ → Known) (partitions : List Partition) (judged : Judged) (verdict : Verdict) (around : Option ℕ) (drawn : Drawn) : Type 0 where
  pub picture : Picture
  pub is : (e : EvidenceParts) → IsJudgedFor judged e → IsPictureOf e (fault_of verdict) (around_of around) picture
  pub times : List Times
  pub when : AreTimesOfRows known partitions picture.rows.items times
  pub text : IsText picture times verdict drawn

-- it is the answer to each evidence of this spec of which this was judged
abbrev pub IsAnswerBy : (ℕ → Known) → EvidenceParts → Judged → Option ℕ → Option ℕ → Answer → Type 0
IsAnswerBy known shape judged fault around answer = HoldsBy known shape judged (is_later fault) (IsAnswer fault around answer known shape.partitions)
