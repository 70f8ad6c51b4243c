-- Bytes are read as a text exactly where they are UTF-8.
use Rattle.std.proofs.Common.{◌∙◌, sym, ap}
use Rattle.std.proofs.lemmas.Bool.{cond-true, cond-false, false_from_ne_true}
use Rattle.std.proofs.lemmas.Result.{on_ok_weaker}
use Rattle.std.proofs.lemmas.Str.{IsUtf8-from_is_utf8, is_utf8-from_IsUtf8}
use Rattle.serde_json.specs.Data.{string, put}
use Rattle.eos_manifest.specs.Objects.{held}
use Rattle.eos_manifest.proofs.object.Object.put_text.Goals as goal

pub returns-in-Ok : goal.returns-in-Ok
returns-in-Ok c =
    let same = ap string c.in-Ok.ensures.cases.0 ∙ sym (cond-true _ _ _ (is_utf8-from_IsUtf8 _ c.in-Ok.ensures.cases.1)) in
    on_ok_weaker c.put_str.result (λ is. is ∙ ap (λ d. put c.args.name.now d (held c.args.self.now)) same) c.put_str.ensures

pub returns-in_ok-digits-in-Err : goal.returns-in_ok-digits-in-Err
returns-in_ok-digits-in-Err c =
    let other = false_from_ne_true _ (λ e. c.in-Err.ensures.cases.0 (IsUtf8-from_is_utf8 _ e)) in
    on_ok_weaker c.put.result (λ is. is ∙ ap (λ d. put c.args.name.now d (held c.args.self.now)) (c.in_ok-digits-in-Err.ensures ∙ sym (cond-false _ _ _ other))) c.put.ensures
