-- What reading says of a value is right both ways.
use Rattle.std.proofs.Common.{◌≡◌, ◌∙◌, sym, ap, subst}
use Rattle.eos_wire.specs.Numbers.{IsBytes}
use Rattle.eos_offsets.specs.Reading.{read_value}
use Rattle.eos_offsets.proofs.ValueTexts.{value_sound, value_whole}
use Rattle.eos_offsets.proofs.value.decode_value.Goals as goal

pub returns-clause-texts : goal.returns-clause-texts
returns-clause-texts c =
    let said : c.read_value.result ≡ read_value c.args.bytes.now = c.read_value.ensures.reading ∙ ap read_value (c.new.ensures ∙ c.as_slice-2.ensures) in
    let bytes : IsBytes c.args.bytes.now = subst IsBytes c.as_slice.ensures c.are_bytes.ensures in
    λ offset. (λ is. value_sound c.args.bytes.now offset bytes (sym said ∙ is), λ text. said ∙ value_whole c.args.bytes.now offset text)
