use Rattle.std.proofs.Common.{◌≡◌, ◌∙◌, ℕ, List, Option, subst}
use Rattle.std.proofs.lemmas.Result.{err_from_is_err_and}
use Rattle.eos_verdict.specs.declared.verdict.Fault.{Fault}
use Rattle.eos_picture.specs.declared.mark.Row.{Row}
use Rattle.eos_source.specs.Said.{known_by}
use Rattle.eos_drawing.specs.Drawings.{fault_of, around_of}
use Rattle.eos_drawing.specs.Pictures.{IsPictureOf}
use Rattle.eos_drawing.specs.Whens.{AreTimesOfRows}
use Rattle.eos_drawing.specs.steps.Answers.{IsText}
use Rattle.eos_picture.specs.declared.times.Times.{Times}
use Rattle.eos_drawing.proofs.JudgedAnswers.{many_around, drawn_by}
use Rattle.eos_drawing.proofs.answer.drawn_of.Goals as goal

pub returns-clause-drawn : goal.returns-clause-drawn
returns-clause-drawn g c =
    let source = c.args.pieces.source.now in
    let known = known_by (g.S.Source.said source) (g.S.Source.is_log source) in
    let partitions = c.args.pieces.shape.now.partitions in
    let verdict = c.args.verdict.now in
    let around = c.args.wanted.around in
    let picture = c.in_ok-picture.picture in
    let times = c.in_ok-times.times.items in
    let many : c.unwrap_or-around.result ≡ around_of around = c.unwrap_or-around.ensures ∙ many_around around in
    drawn_by known partitions c.args.judged.now verdict around picture times c.in_ok-drawn.drawn
    (λ e is. subst (λ (n : ℕ). IsPictureOf e (fault_of verdict) n picture) many
    (subst (λ (f : Option Fault). IsPictureOf e f c.unwrap_or-around.result picture) c.fault_of.ensures (c.in_ok-picture.ensures e is)))
    (subst (λ (rows : List Row). AreTimesOfRows known partitions rows times) c.as_slice.ensures.value c.in_ok-times.ensures.times)
    (subst (λ (ts : List Times). IsText picture ts verdict c.in_ok-drawn.drawn) c.as_slice-2.ensures.value c.in_ok-drawn.ensures)

pub returns-in_err-times-clause-refused : goal.returns-in_err-times-clause-refused
returns-in_err-times-clause-refused g c =
    let p = err_from_is_err_and c.from_residual-in_err-times.result c.from_residual-in_err-times.ensures.1 in
    rw (p.1, p.2) c.in_err-times.ensures.refused
