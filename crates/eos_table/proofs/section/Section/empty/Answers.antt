use Rattle.std.proofs.Common.{rules, ◌≡◌, sym, subst}
use Rattle.eos_wire.specs.FieldWriting.{section_text}
use Rattle.eos_wire.specs.Texts.{IsSectionText}
use Rattle.eos_wire.specs.Writing.{uvarint_of, groups_of}
use Rattle.eos_wire.specs.declared.form.Form.TheVariants.{Flexible}
use Rattle.eos_txnlog.proofs.WrittenTexts.{section_written}
use Rattle.eos_table.proofs.section.Section.empty.Goals as goal

pub invariant_of-result : goal.invariant_of-result
unfolding uvarint_of groups_of
invariant_of-result c =
    let is : c.in_ok-copy_from_slice.field-0 ≡ section_text Flexible = search rules in
    subst (IsSectionText Flexible) (sym is) (section_written Flexible)
