-- What is written is a text of the committed offset, and a text is read.
use Rattle.std.proofs.Common.{◌≡◌, ℕ, true, List, rules, sym, subst, w64}
use Rattle.std.specs.Prelude.{FitsSigned}
use Rattle.eos_offsets.specs.Text.{IsValueText}
use Rattle.eos_offsets.specs.Reading.{is_value_version}
use Rattle.eos_offsets.specs.Writing.{value_bytes}
use Rattle.eos_offsets.proofs.ValueTexts.{value_whole}
use Rattle.eos_offsets.proofs.WrittenTexts.{value_is_text}
use Rattle.eos_offsets.proofs.value.encode_value.Goals as goal

pub returns-clause-text : goal.returns-clause-text
returns-clause-text c =
    let offset = c.args.commit.now.offset in
    let fits : FitsSigned w64 offset = search rules in
    let known : is_value_version c.args.version ≡ true = search rules in
    let is : c.in_ok-write_value.field-0 ≡ value_bytes offset c.args.version = search rules in
    subst (λ (bytes : List ℕ). IsValueText bytes offset) (sym is) (value_is_text offset c.args.version fits known)

pub returns-clause-reads_back : goal.returns-clause-reads_back
returns-clause-reads_back c = value_whole c.in_ok-write_value.field-0 c.args.commit.now.offset (returns-clause-text c)
