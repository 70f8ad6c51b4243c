use Rattle.std.proofs.Common.{arith, rules, ap, ◌∙◌, sym}
use Rattle.std.proofs.lemmas.Grind.{common_steps}
use Rattle.std.specs.Option.{option_map}
use Rattle.eos_cluster.proofs.LastEntries.{none_here, some_here}
use Rattle.eos_cluster.proofs.restarted.last_entry.Goals as goal

pub returns-in-Some : goal.returns-in-Some
returns-in-Some c = some_here c.args.application c.loop-i.i c.args.log.now c.index-log-i.result c.in-Some.entry.now (search rules) (search rules) c.index-log-i.is
    (ap (option_map (λ x. x.now)) (sym c.in-Some.is) ∙ c.entry_of.ensures) c.loop-i.invariant

pub loop-i-preserved : goal.loop-i-preserved
loop-i-preserved c = none_here c.args.application c.loop-i.i c.args.log.now c.index-log-i.result (search rules) (search rules) c.index-log-i.is
    (ap (option_map (λ x. x.now)) (sym c.in-None.is) ∙ c.entry_of.ensures) c.loop-i.invariant

pub returns : goal.returns
returns c = λ s. grind (arith, common_steps, c.loop-i.invariant s)
