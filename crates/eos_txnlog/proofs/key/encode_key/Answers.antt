use Rattle.std.proofs.Common.{◌≡◌, ℕ, List, true, length, sym, subst, rules}
use Rattle.eos_wire.specs.declared.form.Form.TheVariants.{Plain}
use Rattle.eos_txnlog.specs.Text.{IsKeyText}
use Rattle.eos_wire.specs.FieldWriting.{fits_length}
use Rattle.eos_txnlog.specs.Writing.{key_text}
use Rattle.eos_txnlog.proofs.ValueTexts.{key_whole}
use Rattle.eos_txnlog.proofs.WrittenTexts.{key_written}
use Rattle.eos_txnlog.proofs.key.encode_key.Goals as goal

pub returns-clause-text : goal.returns-clause-text
returns-clause-text c =
    let fits : fits_length Plain (length c.args.id.now) ≡ true = search rules in
    let is : c.in_ok-write_key.field-0 ≡ key_text c.args.id.now = search rules in
    subst (λ (bytes : List ℕ). IsKeyText bytes c.args.id.now) (sym is) (key_written c.args.id.now fits)

pub returns-clause-reads_back : goal.returns-clause-reads_back
returns-clause-reads_back c = key_whole c.in_ok-write_key.field-0 c.args.id.now (returns-clause-text c)
