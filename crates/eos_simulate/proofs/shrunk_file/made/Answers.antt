use Rattle.std.proofs.Common.{string_bytes}
use Rattle.eos_simulate.proofs.ShrunkFiles.{shrunk_text}
use Rattle.eos_simulate.proofs.shrunk_file.made.Goals as goal

pub returns : goal.returns
returns g c =
    shrunk_text c.args.schedule.now c.args.code.now (string_bytes c.in_ok-text.text) (string_bytes c.in_ok-line.line) c.in_ok-shrunk.shrunk.history c.len.result c.in_ok-shrunk.shrunk.runs
    c.in_ok-shrunk.ensures c.in_ok-text.ensures c.len.ensures c.in_ok-line.ensures
