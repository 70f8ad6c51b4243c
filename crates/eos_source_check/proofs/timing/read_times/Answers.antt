use Rattle.std.proofs.Common.{refl}
use Rattle.eos_source_check.proofs.TimedBytes.{timing_none, timing_end}
use Rattle.eos_source_check.proofs.timing.read_times.Goals as goal

pub returns-clause-ok : goal.returns-clause-ok
returns-clause-ok g c =
    let e = c.in_ok-timing.ensures.ok in
    let last = e.3 (timing_none c.args.asked.now _ c.new.ensures.items c.begin.ensures refl) in
    (e.0, e.1, e.2, timing_end c.args.asked.now e.0 last.0 c.in_ok-timing.timing last.2)
