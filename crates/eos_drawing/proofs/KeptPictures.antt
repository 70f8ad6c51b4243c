-- A picture of what is kept of an evidence's logs is one of the evidence.
use Rattle.std.proofs.Common.{ℕ, List, Option, subst}
use Rattle.eos_verdict.specs.declared.verdict.Fault.{Fault}
use Rattle.eos_evidence.specs.Evidence.{EvidenceParts}
use Rattle.eos_fold.specs.Parts.{PartLog}
use Rattle.eos_picture.specs.Marks.{HasTrueRows}
use Rattle.eos_picture.specs.Whole.{HasWholeRows}
use Rattle.eos_picture.specs.Window.{IsWindow}
use Rattle.eos_picture.specs.declared.mark.Picture.{Picture}
use Rattle.eos_source_check.specs.Judged.{IsJudgedFor}
use Rattle.eos_source_check.specs.declared.judged.Judged.{Judged}
use Rattle.eos_picture.proofs.KeptRows.{true_kept, whole_kept}
use Rattle.eos_picture.proofs.KeptColumns.{window_kept}
use Rattle.eos_drawing.specs.Pictures.{IsPictureOf}

pub picture_kept : (e : EvidenceParts) (j : Judged) (fault : Option Fault) (around : ℕ) (picture : Picture) → IsJudgedFor j e
    → HasTrueRows j.logs.parts.items picture.columns.items picture.rows.items → HasWholeRows j.logs.parts.items picture.columns.items picture.rows.items
    → IsWindow j.logs.parts.items fault around picture → IsPictureOf e fault around picture
picture_kept e j fault around picture is so whole window =
    let apps = e.spec.apps in
    let logs = is.logs.whole in
    let columns = picture.columns.items in
    let rows = picture.rows.items in
    record {
      logs = logs;
      of = is.logs.of;
      so = (true_kept apps logs columns rows).0 (subst (λ (ls : List PartLog). HasTrueRows ls columns rows) is.logs.parts so);
      whole = (whole_kept apps logs columns rows).0 (subst (λ (ls : List PartLog). HasWholeRows ls columns rows) is.logs.parts whole);
      window = window_kept apps logs fault around picture (subst (λ (ls : List PartLog). IsWindow ls fault around picture) is.logs.parts window);
    }
