use Rattle.std.proofs.Common.{◌≡◌, sym, subst, ◌∙◌, rules}
use Rattle.eos_table.specs.steps.Known.{IsSetText}
use Rattle.eos_table.proofs.KnownTexts.{kept_set}
use Rattle.eos_table.proofs.known.Known.keep_written.Goals as goal

pub keep_set-requires : goal.keep_set-requires
keep_set-requires c =
    let is : c.as_slice.result.now ≡ c.in-Ok.written = search rules in
    subst (IsSetText c.in-Some.form c.set_text-text.result.now) (sym c.requires)
    (kept_set c.in-Some.form c.in-Ok.written c.set_text-text.result.now c.args.state.now c.version_of.result c.version_of.ensures c.in-Ok.ensures.answer c.in-Ok.ensures.text
    (λ v e. c.set_text-text.ensures v (is ∙ e)))
