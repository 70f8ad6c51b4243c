use Rattle.std.proofs.Common.{false, List, string_bytes, subst, sym}
use Rattle.eos_verdict.specs.declared.verdict.Fault.{Fault}
use Rattle.eos_evidence.specs.SpecFields.{SpecFields}
use Rattle.eos_source.specs.Said.{known_by}
use Rattle.eos_checking.proofs.Dated.{dated}
use Rattle.eos_checking.specs.steps.Tellings.{TellsOf}
use Rattle.eos_source_check.specs.Judged.{IsNotesTextOf}
use Rattle.eos_checking.proofs.source.first_told.Goals as goal

pub told-requires : goal.told-requires
told-requires g c =
    let noted = c.args.noted.now in
    subst (λ (s : SpecFields). IsNotesTextOf s noted.judged c.args.asked.now.quiet (string_bytes noted.notes)) (sym c.spec.ensures.value) c.requires

pub returns-clause-told : goal.returns-clause-told
returns-clause-told g c =
    let asked = c.args.asked.now in
    let judged = c.args.noted.now.judged in
    let tells = subst (λ (s : SpecFields). TellsOf s judged c.faults_of-first.result.now asked.subject asked.json false asked.quiet asked.terms asked.report c.in_ok-answer.answer) c.spec.ensures.value c.in_ok-answer.ensures.told in
    subst (λ (fs : List Fault). TellsOf c.args.pieces.now.shape.now.spec judged fs asked.subject asked.json false asked.quiet asked.terms asked.report c.in_ok-answer.answer) c.faults_of-first.ensures tells

pub returns-clause-dated : goal.returns-clause-dated
returns-clause-dated g c =
    let source = c.args.pieces.now.source.now in
    dated (known_by (g.S.Source.said source) (g.S.Source.is_log source)) c.args.pieces.now.shape.now.partitions c.args.asked.now.report c.faults_of-first.result.now c.in_ok-dates.dates c.in_ok-answer.answer.report
    c.in_ok-dates.ensures c.in_ok-answer.ensures.dated
