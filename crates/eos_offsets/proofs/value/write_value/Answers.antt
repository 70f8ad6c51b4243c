-- Each field is written after the one before.
use Rattle.std.proofs.Common.{◌≡◌, ◌++◌, [], rules, ◌∙◌, pos}
use Rattle.eos_wire.specs.Numbers.{i16_text, i64_text}
use Rattle.eos_wire.specs.declared.form.Form.TheVariants.{Plain}
use Rattle.eos_wire.specs.FieldWriting.{string_text}
use Rattle.eos_offsets.specs.Writing.{leader_epoch_text, expire_timestamp_text}
use Rattle.eos_offsets.proofs.WrittenTexts.{value_written}
use Rattle.eos_offsets.proofs.value.write_value.Goals as goal

pub returns : goal.returns
unfolding i16_text i64_text
returns c =
    let a = c.put_i16.new.self.items in
    let b = c.put_i64.new.self.items in
    let l = c.put_leader_epoch.new.out.items in
    let m = c.put_i16-2.new.self.items in
    let t = c.put_i64-2.new.self.items in
    let x = c.put_expire_timestamp.new.out.items in
    let pa : a ≡ i16_text c.args.version = search rules in
    let pb : b ≡ a ++ i64_text c.args.offset = search rules in
    let pl : l ≡ b ++ leader_epoch_text c.args.version = search rules in
    let pm : m ≡ l ++ string_text Plain [] = search rules in
    let pt : t ≡ m ++ i64_text (pos 0) = search rules in
    let px : x ≡ t ++ expire_timestamp_text c.args.version = search rules in
    c.in_ok-freeze.ensures.ok ∙ value_written c.args.offset c.args.version a b l m t x pa pb pl pm pt px
