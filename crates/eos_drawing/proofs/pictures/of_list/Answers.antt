use Rattle.std.proofs.Common.{List, Some, inl, inr, refl, subst, map, string_bytes}
use Rattle.std.proofs.lemmas.Result.{err_from_is_err_and}
use Rattle.eos_source.specs.Said.{known_by}
use Rattle.eos_verdict.specs.declared.verdict.Fault.{Fault}
use Rattle.eos_drawing.specs.steps.Pictures.{AreTextsBy}
use Rattle.eos_drawing.proofs.FirstOnes.{of_list}
use Rattle.eos_drawing.proofs.JudgedAnswers.{later_is}
use Rattle.eos_drawing.proofs.pictures.of_list.Goals as goal

pub returns-clause-texts : goal.returns-clause-texts
returns-clause-texts g c =
    let source = c.args.pieces.source.now in
    let texts = map string_bytes c.in_ok-texts.texts.items in
    let by = subst (λ (fs : List Fault). AreTextsBy (known_by (g.S.Source.said source) (g.S.Source.is_log source)) c.args.pieces.shape.now.partitions c.args.judged.now fs texts) c.truncate.ensures.items c.in_ok-texts.ensures.texts in
    of_list (known_by (g.S.Source.said source) (g.S.Source.is_log source)) c.args.pieces.shape.now c.args.judged.now c.args.most c.in_ok-faults.faults.items texts
    c.requires c.in_ok-faults.ensures.ok by

pub returns-in_err-faults-clause-refused : goal.returns-in_err-faults-clause-refused
returns-in_err-faults-clause-refused g c =
    let p = err_from_is_err_and c.from_residual.result c.from_residual.ensures.1 in
    rw (p.1, p.2) (inl (later_is (Some c.args.most) c.args.most refl c.requires, c.in_err-faults.ensures.earned))

pub returns-in_err-texts-clause-refused : goal.returns-in_err-texts-clause-refused
returns-in_err-texts-clause-refused g c =
    let p = err_from_is_err_and c.from_residual-in_err-texts.result c.from_residual-in_err-texts.ensures.1 in
    rw (p.1, p.2) (inr c.in_err-texts.ensures.refused)
