use Rattle.std.proofs.Common.{sym, codes}
use Rattle.std.proofs.lemmas.Map.Text.{is_eq-slice_cmp}
use Rattle.eos_table.proofs.last_values.is_of_transaction_log.Goals as goal

pub returns : goal.returns
returns c = rw (c.eq.ensures, c.as_slice.ensures, c.topic.ensures, c.as_slice-2.ensures) (sym (is_eq-slice_cmp c.args.part.now.topic (codes "__transaction_state")))
