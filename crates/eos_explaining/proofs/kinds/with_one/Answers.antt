use Rattle.std.proofs.Common.{◌≡◌, ◌+◌, refl, rules, subst}
use Rattle.eos_verdict.specs.VerdictNames.{number_of}
use Rattle.eos_explaining.specs.steps.Counting.{HasKind}
use Rattle.eos_explaining.proofs.KindsCounted.{kind_begun, kind_more}
use Rattle.eos_explaining.proofs.kinds.with_one.Goals as goal

pub returns-in-None : goal.returns-in-None
returns-in-None c = λ told f is has.
    kind_begun told f (record { count = 1; phase = c.args.kind.phase; name = c.args.kind.name }) refl is.phase is.name (subst (HasKind told (number_of f)) c.in-None.is has)

pub returns-in_ok-count-in-Some : goal.returns-in_ok-count-in-Some
returns-in_ok-count-in-Some c = λ told f is has.
    let known = c.in-Some.known in
    let one : c.in_ok-count-in-Some.count ≡ known.count + 1 = search rules in
    kind_more told f known (record { count = c.in_ok-count-in-Some.count; phase = known.phase; name = known.name }) one refl refl (subst (HasKind told (number_of f)) c.in-Some.is has)
