use Rattle.std.proofs.Common.{◌∷◌, []}
use Rattle.eos_commands.proofs.NameSets.{gains_one, gains_more}
use Rattle.eos_commands.proofs.copied.insert_all.Goals as goal

pub loop-name-preserved : goal.loop-name-preserved
loop-name-preserved c =
    gains_more c.args.names.now c.loop-name.names c.insert.new.self c.loop-name.yielded (c.in-Some.name ∷ []) c.loop-name.invariant
    (gains_one c.loop-name.names c.insert.new.self c.in-Some.name c.in_ok-insert.ensures.updates)
