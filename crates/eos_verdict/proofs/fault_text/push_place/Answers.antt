use Rattle.std.proofs.Common.{◌++◌}
use Rattle.eos_text.specs.Adding.{Adds}
use Rattle.eos_verdict.specs.FaultTexts.{place_text, name_text}
use Rattle.eos_verdict.proofs.Labelled.{more}
use Rattle.eos_verdict.proofs.fault_text.push_place.Goals as goal

pub returns : goal.returns
unfolding place_text
returns c =
    let named : Adds _ _ (c.args.label.now ++ name_text c.args.place.now.partition.topic c.args.place.now.partition.partition) = rw c.as_slice.ensures at c.in_ok-push_name.ensures in
    more c.args.label.now _ _ named c.in_ok-push_value.ensures
