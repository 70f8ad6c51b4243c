use Rattle.std.proofs.Common.{refl}
use Rattle.eos_cluster.proofs.deliveries.arrival_of.Goals as goal

pub returns-in_ok-output_arrival-in-Output-clause-answer : goal.returns-in_ok-output_arrival-in-Output-clause-answer
returns-in_ok-output_arrival-in-Output-clause-answer c =
    rw (c.in-Output.is, ← c.in_ok-output_arrival-in-Output.ensures.answer, c.new-request.ensures, c.new-sent.ensures, c.written_index-place.ensures, c.config.ensures.config) refl

pub returns-in-Offset-clause-answer : goal.returns-in-Offset-clause-answer
returns-in-Offset-clause-answer c =
    rw (c.in-Offset.is, ← c.offset_arrival.ensures.answer, c.new-request-in-Offset.ensures, c.new-commit.ensures) refl
