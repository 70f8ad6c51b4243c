use Rattle.eos_batch.proofs.SegmentTexts.{text_takes}
use Rattle.eos_batch.proofs.segment.next_batch.Goals as goal

pub returns-in-Ok-clause-further : goal.returns-in-Ok-clause-further
returns-in-Ok-clause-further c =
    let t = c.in-Ok.ensures.text in
    (text_takes c.args.bytes.now c.args.at c.in-Ok.read.1 c.in-Ok.read.0 t, t.0)
