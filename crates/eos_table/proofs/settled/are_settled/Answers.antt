use Rattle.std.proofs.Common.{◌∙◌, ap, sym, inr}
use Rattle.std.specs.Map.{lookup}
use Rattle.std.specs.BTreeMap.{is_at}
use Rattle.std.specs.Ordering.{nat_cmp}
use Rattle.std.specs.Cmp.Lexicographic.{slice_cmp}
use Rattle.eos_table.proofs.SettledIds.{past_step, past_end, all_settled}
use Rattle.eos_table.proofs.settled.are_settled.Goals as goal

pub loop-value-init : goal.loop-value-init
loop-value-init c = λ id v e. inr (ap (lookup (is_at (slice_cmp nat_cmp id))) c.iter-rest.ensures.rest ∙ e)

pub loop-value-preserved : goal.loop-value-preserved
loop-value-preserved c = λ id v e.
    past_step c.loop-value.rest c.next.new.self c.in-Some.field-0-0.now c.in-Some.value.now id v c.in-Some.ensures.steps (sym c.is_unfinished.ensures ∙ c.if-is_unfinished.false) (c.loop-value.invariant id v e)

pub returns : goal.returns
returns c = λ yes. all_settled c.args.last.now (λ id v e. past_end c.loop-value.rest id v c.in_default.ensures.steps.0 (c.loop-value.invariant id v e))
