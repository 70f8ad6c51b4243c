use Rattle.std.proofs.Common.{◌≡◌, ℕ, List, true, false, string_bytes, sym, ◌∙◌, subst}
use Rattle.eos_disk.specs.GivenTexts.{is_standard}
use Rattle.eos_disk.specs.Refusals.{RefusesFile}
use Rattle.eos_disk.proofs.GivenTexts.{text_of_input, text_of_file}
use Rattle.eos_disk.proofs.given.read_given.Goals as goal

pub returns-then-not-is_standard-clause-ok : goal.returns-then-not-is_standard-clause-ok
returns-then-not-is_standard-clause-ok g c =
    let not_so : is_standard c.args.path.now ≡ false = sym c.is_standard.ensures ∙ c.if-not-is_standard.true in
    text_of_file (g.D.Disk.holds c.args.disk.now) c.args.path.now (string_bytes c.in_ok-own.own) _ _ c.in_ok-read_file.field-0 not_so c.in_ok-own.ensures.ok c.in_ok-read_file.ensures.ok

pub returns-in-Ok-clause-ok : goal.returns-in-Ok-clause-ok
returns-in-Ok-clause-ok g c =
    let so : is_standard c.args.path.now ≡ true = sym c.is_standard.ensures ∙ c.if-not-is_standard.false in
    text_of_input (g.D.Disk.holds c.args.disk.now) c.args.path.now _ _ c.in-Ok.bytes so c.in-Ok.ensures.bytes c.in-Ok.ensures.end

pub returns-in-Err-clause-err : goal.returns-in-Err-clause-err
returns-in-Err-clause-err g c = subst (λ (path : List ℕ). RefusesFile path c.refusal_of.result) c.in_ok-own.ensures.ok c.refusal_of.ensures.path

pub returns-in-Err-clause-so : goal.returns-in-Err-clause-so
returns-in-Err-clause-so g c = c.refusal_of.ensures.so _
