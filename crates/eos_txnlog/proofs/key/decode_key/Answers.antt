use Rattle.std.proofs.Common.{ℕ, List, subst}
use Rattle.eos_base.specs.Records.{Settles}
use Rattle.eos_txnlog.specs.Reading.{read_key}
use Rattle.eos_wire.specs.Numbers.{IsBytes}
use Rattle.eos_txnlog.proofs.ValueTexts.{key_answered, each_key_answered}
use Rattle.eos_txnlog.proofs.key.decode_key.Goals as goal

pub returns-clause-text : goal.returns-clause-text
returns-clause-text c = key_answered c.args.bytes.now c.read_key.result (subst IsBytes c.as_slice.ensures c.are_bytes.ensures) (subst (λ (xs : List ℕ). Settles c.read_key.result (read_key xs)) c.new.ensures c.read_key.ensures)

pub returns-clause-each_text : goal.returns-clause-each_text
returns-clause-each_text c = each_key_answered c.args.bytes.now c.read_key.result (subst (λ (xs : List ℕ). Settles c.read_key.result (read_key xs)) c.new.ensures c.read_key.ensures)
