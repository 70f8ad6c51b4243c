use Rattle.std.proofs.Common.{arith}
use Rattle.eos_table.proofs.KnownTexts.{set_cut}
use Rattle.eos_table.proofs.around.set_text.Goals as goal

pub returns : goal.returns
returns c = λ value is.
    set_cut c.args.form c.args.written.now value c.min.result c.saturating_sub-end.result is
    (omega (arith, c.saturating_sub-end.ensures, c.tail_len.ensures)) (omega (arith, c.min.ensures))
