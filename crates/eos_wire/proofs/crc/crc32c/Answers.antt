use Rattle.std.proofs.Common.{◌∙◌, take, drop}
use Rattle.eos_wire.specs.Crc.{remainder}
use Rattle.eos_wire.proofs.Register.{remainder-take-drop}
use Rattle.eos_wire.proofs.crc.crc32c.Goals as goal

pub loop-front-preserved-in-Some-split_first_chunk : goal.loop-front-preserved-in-Some-split_first_chunk
loop-front-preserved-in-Some-split_first_chunk c =
    let register = c.loop-front.register in
    let rest = c.loop-front.rest.now in
    rw (c.after_sixteen-register.ensures, c.in-Some-split_first_chunk.ensures.cases.0, c.in-Some-split_first_chunk.ensures.cases.1, c.in-Some.ensures.cases.0, c.in-Some.ensures.cases.1)
    (remainder-take-drop 8 (remainder register (take 8 rest)) (drop 8 rest) ∙ (remainder-take-drop 8 register rest ∙ c.loop-front.invariant))

pub loop-front-preserved : goal.loop-front-preserved
loop-front-preserved c =
    rw (c.after_eight-register.ensures, c.in-Some.ensures.cases.0, c.in-Some.ensures.cases.1)
    (remainder-take-drop 8 c.loop-front.register c.loop-front.rest.now ∙ c.loop-front.invariant)
