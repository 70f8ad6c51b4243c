use Rattle.std.proofs.Common.{inl, inr, arith}
use Rattle.eos_source.specs.Said.{known_by}
use Rattle.eos_explaining.proofs.Answered.{fewer_by}
use Rattle.eos_explaining.proofs.answer.told_no.Goals.{then-number-eq0-via-then-number-eq0, then-number-eq0-via-else-number-eq0+then-number-count}
use Rattle.eos_explaining.proofs.answer.told_no.Goals as goal

pub returns-then-number-eq0-clause-answer : goal.returns-then-number-eq0-clause-answer
returns-then-number-eq0-clause-answer g c =
    let source = c.args.pieces.now.source.now in
    fewer_by (known_by (g.S.Source.said source) (g.S.Source.is_log source)) c.args.pieces.now.shape.now c.args.judged c.args.asked.now.folder.now c.args.asked.now.number c.saturating_sub.result c.in-Ok.found c.in-Ok.ensures.found
    (elim c.then-number-eq0.branch [
      | then-number-eq0-via-then-number-eq0 w ↦ inl (omega (arith, w.if-number-eq0.true))
      | then-number-eq0-via-else-number-eq0+then-number-count w ↦ inr (omega (arith, w.if-number-count.true))
    ])

pub returns-in-Err-clause-refused : goal.returns-in-Err-clause-refused
returns-in-Err-clause-refused g c = inl c.in-Err.ensures.earned
