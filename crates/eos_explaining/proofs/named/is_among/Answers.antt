use Rattle.std.proofs.Common.{◌∙◌, length, refl, sym, subst}
use Rattle.std.proofs.lemmas.Option.{slice_get_read}
use Rattle.eos_base.specs.Members.{Has}
use Rattle.eos_explaining.proofs.Covered.{has_at}
use Rattle.eos_explaining.proofs.OwnNames.{same_names}
use Rattle.eos_explaining.proofs.named.is_among.Goals as goal

pub returns-then-is_same : goal.returns-then-is_same
returns-then-is_same c =
    let names = c.args.names.now in
    λ yes. subst (Has names) (same_names c.one-item.result c.args.name.now (sym c.is_same.ensures ∙ c.if-is_same.true)) (has_at names c.loop-one.one-index c.one-item.result (slice_get_read names (length names) c.loop-one.one-index c.one-item.result refl c.loop-one-test.true c.one-item.is))
