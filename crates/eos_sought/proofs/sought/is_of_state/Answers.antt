use Rattle.std.proofs.Common.{◌≡◌, sym, rules, ◌∙◌}
use Rattle.eos_sought.specs.Sought.{is_state}
use Rattle.eos_sought.specs.States.{state_in}
use Rattle.eos_sought.proofs.NoState.{none_of}
use Rattle.eos_sought.proofs.sought.is_of_state.Goals as goal

pub returns-in-None : goal.returns-in-None
returns-in-None c =
    let read : c.in_ok-state_of.field-0 ≡ state_in c.args.item.now.value = search rules in
    none_of (is_state c.args.part.now) c.args.sought.now (state_in c.args.item.now.value) (sym read ∙ c.in-None.is)
