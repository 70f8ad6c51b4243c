-- What reading says of a key is right both ways, so what settles it is.
use Rattle.std.proofs.Common.{ℕ, List, subst, Some, None}
use Rattle.eos_wire.specs.Numbers.{IsBytes}
use Rattle.eos_base.specs.Records.{Settles}
use Rattle.eos_offsets.specs.Reading.{read_key}
use Rattle.eos_offsets.proofs.FieldTexts.{settles_ok}
use Rattle.eos_offsets.proofs.KeyTexts.{key_sound, key_whole, other_sound, other_whole}
use Rattle.eos_offsets.proofs.key.decode_key.Goals as goal

said : (c : goal.After-read_key) → Settles c.read_key.result (read_key c.args.bytes.now)
said c = subst (λ (xs : List ℕ). Settles c.read_key.result (read_key xs)) c.new.ensures c.read_key.ensures.answer

bytes : (c : goal.After-read_key) → IsBytes c.args.bytes.now
bytes c = subst IsBytes c.as_slice.ensures c.are_bytes.ensures

pub returns-clause-text : goal.returns-clause-text
returns-clause-text c = λ key is. key_sound c.args.bytes.now key (bytes c) (settles_ok c.read_key.result (read_key c.args.bytes.now) (Some key) (said c) is)

pub returns-clause-each_text : goal.returns-clause-each_text
returns-clause-each_text c = λ key text. subst (Settles c.read_key.result) (key_whole c.args.bytes.now key text) (said c)

pub returns-clause-other_text : goal.returns-clause-other_text
returns-clause-other_text c = λ is. other_sound c.args.bytes.now (bytes c) (settles_ok c.read_key.result (read_key c.args.bytes.now) None (said c) is)

pub returns-clause-each_other_text : goal.returns-clause-each_other_text
returns-clause-each_other_text c = λ text. subst (Settles c.read_key.result) (other_whole c.args.bytes.now text) (said c)
