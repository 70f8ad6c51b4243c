use Rattle.std.proofs.Common.{rules, ◌≡◌, ◌++◌, List, ℕ, length, Ok, sym, ap, subst, ◌∙◌}
use Rattle.std.proofs.lemmas.List.{append-nil, nil_from_length}
use Rattle.eos_wire.specs.Numbers.{IsBytes}
use Rattle.eos_wire.specs.Reading.{section_from}
use Rattle.eos_wire.specs.Texts.{IsSectionText}
use Rattle.eos_wire.specs.declared.form.Form.TheVariants.{Flexible}
use Rattle.eos_wire.proofs.FieldTexts.{section_sound}
use Rattle.eos_table.proofs.section.is_section.Goals as goal

pub returns-in-Ok : goal.returns-in-Ok
returns-in-Ok c = λ empty.
    let bytes : List ℕ = c.args.bytes.now in
    let rest : List ℕ = c.skip_section.new.rest in
    let read : section_from Flexible bytes ≡ Ok (c.in-Ok.field-0, rest) = ap (section_from Flexible) (sym c.new-rest.ensures) ∙ c.in-Ok.ensures in
    let fits : IsBytes bytes = search rules in
    let none : length rest ≡ 0 = search rules in
    let taken = section_sound Flexible bytes (c.in-Ok.field-0, rest) fits read in
    let whole : bytes ≡ taken.text = taken.parts ∙ (ap (λ (z : List ℕ). taken.text ++ z) (nil_from_length rest none) ∙ append-nil taken.text) in
    subst (IsSectionText Flexible) (sym whole) taken.holds
