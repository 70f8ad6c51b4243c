use Rattle.std.proofs.Common.{inl}
use Rattle.eos_source.specs.Said.{known_by}
use Rattle.eos_source_check.proofs.RefusalsTold.{earned_untold}
use Rattle.eos_checking.proofs.SourceAnswers.{list_is}
use Rattle.eos_checking.proofs.source.answer_all.Goals as goal

pub returns-in-Ok-all_told-clause-answer : goal.returns-in-Ok-all_told-clause-answer
returns-in-Ok-all_told-clause-answer g c =
    let asked = c.args.asked.now in
    let told = c.in-Ok-all_told.ensures.answer in
    list_is _ c.args.pieces.shape.now asked.subject asked.json asked.quiet asked.terms asked.report _ told.0 _ c.in-Ok.ensures.judged told.1 told.2

pub returns-in-Err-all_told-clause-refused : goal.returns-in-Err-all_told-clause-refused
returns-in-Err-all_told-clause-refused g c =
    let source = c.args.pieces.source.now in
    earned_untold (known_by (g.S.Source.said source) (g.S.Source.is_log source)) (g.S.Source.outcomes source) _ c.args.pieces.shape.now.partitions _
    c.in-Err-all_told.why c.in-Ok.ensures.opened c.in-Err-all_told.ensures.earned

pub returns-in-Err-clause-refused : goal.returns-in-Err-clause-refused
returns-in-Err-clause-refused g c = inl c.in-Err.ensures.refused
