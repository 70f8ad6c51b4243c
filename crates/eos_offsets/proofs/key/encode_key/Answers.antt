-- What is written is a text of the key, so it is read.
use Rattle.eos_offsets.proofs.KeyTexts.{key_whole}
use Rattle.eos_offsets.proofs.key.encode_key.Goals as goal

pub returns-clause-reads_back : goal.returns-clause-reads_back
returns-clause-reads_back c = key_whole c.in_ok-write_key.field-0 c.args.key.now c.in_ok-write_key.ensures.text
