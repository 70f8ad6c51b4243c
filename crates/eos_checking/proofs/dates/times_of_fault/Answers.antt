use Rattle.std.proofs.Common.{Option, subst}
use Rattle.eos_claims.specs.declared.place.Place.{Place}
use Rattle.eos_source.specs.Said.{known_by}
use Rattle.eos_checking.specs.Dates.{IsTimeIf}
use Rattle.eos_checking.proofs.dates.times_of_fault.Goals as goal

pub returns : goal.returns
returns g c =
    let source = c.args.pieces.now.source.now in
    let known = known_by (g.S.Source.said source) (g.S.Source.is_log source) in
    let partitions = c.args.pieces.now.shape.now.partitions in (
      subst (λ (p : Option Place). IsTimeIf known partitions p c.in_ok-own.own) c.record_of.ensures c.in_ok-own.ensures,
      subst (λ (p : Option Place). IsTimeIf known partitions p c.in_ok-claim.claim) c.claim_of.ensures c.in_ok-claim.ensures,
    )
