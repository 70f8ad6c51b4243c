use Rattle.std.proofs.Common.{ℕ, List, subst}
use Rattle.eos_base.specs.Records.{Settles}
use Rattle.eos_txnlog.specs.Reading.{read_value}
use Rattle.eos_wire.specs.Numbers.{IsBytes}
use Rattle.eos_txnlog.proofs.ValueTexts.{value_answered, each_value_answered}
use Rattle.eos_txnlog.proofs.reading.decode_value.Goals as goal

pub returns-clause-text : goal.returns-clause-text
returns-clause-text c = value_answered c.args.bytes.now c.read_value.result (subst IsBytes c.as_slice.ensures c.are_bytes.ensures) (subst (λ (xs : List ℕ). Settles c.read_value.result (read_value xs)) c.new.ensures c.read_value.ensures)

pub returns-clause-each_text : goal.returns-clause-each_text
returns-clause-each_text c = each_value_answered c.args.bytes.now c.read_value.result (subst (λ (xs : List ℕ). Settles c.read_value.result (read_value xs)) c.new.ensures c.read_value.ensures)
