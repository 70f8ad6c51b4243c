use Rattle.std.proofs.Common.{ap, ◌∙◌, sym, arith, pos}
use Rattle.eos_offsets.specs.Writing.{write_value}
use Rattle.eos_log_writer.proofs.Refusals.{written_bytes}
use Rattle.eos_log_writer.proofs.values.offset_value.Goals as goal

pub returns-in-Ok : goal.returns-in-Ok
returns-in-Ok c = written_bytes c.args.offset c.in-Ok.bytes (omega (arith, c.ranges.offset.fits)) (ap (λ k. write_value k (pos 3)) (sym c.commit_of-commit.ensures) ∙ c.in-Ok.ensures.answer)
