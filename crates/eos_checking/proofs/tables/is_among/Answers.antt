use Rattle.std.proofs.Common.{sym, ◌∙◌}
use Rattle.eos_checking.proofs.TablesRead.{found}
use Rattle.eos_checking.proofs.tables.is_among.Goals as goal

pub returns : goal.returns
returns c = λ so. found c.args.offsets.now c.args.offset c.binary_search.result c.binary_search.ensures.bound c.binary_search.ensures.ok (sym c.is_ok.ensures.value ∙ so)
