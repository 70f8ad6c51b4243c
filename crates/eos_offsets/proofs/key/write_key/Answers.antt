-- Each field is written after the one before, and what is written is a text of the key.
use Rattle.std.proofs.Common.{◌≡◌, ◌++◌, ◌∙◌, ◌^◌, ℕ, List, length, rules, sym, subst, pos, w32}
use Rattle.std.proofs.lemmas.Bool.{ltb-true}
use Rattle.std.specs.Prelude.{FitsSigned}
use Rattle.eos_wire.specs.Numbers.{i16_text, i32_text}
use Rattle.eos_offsets.specs.Text.{IsKeyText}
use Rattle.eos_wire.specs.declared.form.Form.TheVariants.{Plain}
use Rattle.eos_wire.specs.FieldWriting.{string_text}
use Rattle.eos_offsets.proofs.WrittenTexts.{key_written, key_is_text}
use Rattle.eos_offsets.proofs.key.write_key.Goals as goal

pub returns-clause-bytes : goal.returns-clause-bytes
unfolding i16_text i32_text
returns-clause-bytes c =
    let key = c.args.key.now in
    let v = c.write_i16.new.out.items in
    let g = c.write_text.new.out.items in
    let t = c.write_text-2.new.out.items in
    let p = c.write_i32.new.out.items in
    let pv : v ≡ i16_text (pos 1) = search rules in
    let pg : g ≡ v ++ string_text Plain key.group = search rules in
    let pt : t ≡ g ++ string_text Plain key.topic = search rules in
    let pp : p ≡ t ++ i32_text key.partition = search rules in
    c.in_ok-from_vec.ensures.ok ∙ key_written key v g t p pv pg pt pp

pub returns-clause-text : goal.returns-clause-text
returns-clause-text c =
    let key = c.args.key.now in
    let fits : FitsSigned w32 key.partition = search rules in
    subst (λ (bytes : List ℕ). IsKeyText bytes key) (sym (returns-clause-bytes c)) (key_is_text key fits (ltb-true (length key.group) (2 ^ 15) c.requires.group) (ltb-true (length key.topic) (2 ^ 15) c.requires.topic))
