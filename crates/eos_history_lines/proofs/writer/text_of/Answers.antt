use Rattle.std.proofs.Common.{◌≡◌, ◌≤◌, ◌++◌, ◌∙◌, false, Some, sym, ap, subst, codes, string_bytes}
use Rattle.serde_json.specs.Data.{Data, object, depth}
use Rattle.serde_json.specs.Read.{read, max_depth}
use Rattle.serde_json.specs.Written.{has_float, compact_text, IsInOrder}
use Rattle.eos_history_lines.specs.Names.{NamesOnce}
use Rattle.eos_history_lines.proofs.OnceNamed.{named_once}
use Rattle.eos_manifest.specs.Objects.{held}
use Rattle.eos_history_lines.proofs.writer.text_of.Goals as goal

pub returns-clause-says : goal.returns-clause-says
returns-clause-says c =
    let plain : has_float (object (held c.args.made)) ≡ false = c.requires.plain in
    let text = c.in_ok-text.ensures.text (subst (λ d. has_float d ≡ false) (sym c.into_value-value.ensures) plain) ∙ ap compact_text c.into_value-value.ensures in
    c.in_ok-push_str.ensures.bytes ∙ ap (λ t. t ++ codes "\n") text

pub returns-clause-reads : goal.returns-clause-reads
returns-clause-reads c =
    let plain : has_float (object (held c.args.made)) ≡ false = c.requires.plain in
    let shallow : depth (object (held c.args.made)) ≤ max_depth = c.requires.shallow in
    let text = c.in_ok-text.ensures.text (subst (λ d. has_float d ≡ false) (sym c.into_value-value.ensures) plain) ∙ ap compact_text c.into_value-value.ensures in
    ap read (sym text) ∙ c.in_ok-text.ensures.reads_back (subst (λ d. depth d ≤ max_depth) (sym c.into_value-value.ensures) shallow) ∙ ap (λ (d : Data). Some d) c.into_value-value.ensures

pub returns-clause-once : goal.returns-clause-once
returns-clause-once c =
    let plain : has_float (object (held c.args.made)) ≡ false = c.requires.plain in
    let shallow : depth (object (held c.args.made)) ≤ max_depth = c.requires.shallow in
    let text = c.in_ok-text.ensures.text (subst (λ d. has_float d ≡ false) (sym c.into_value-value.ensures) plain) ∙ ap compact_text c.into_value-value.ensures in
    let order = subst (IsInOrder (string_bytes c.in_ok-text.text)) c.into_value-value.ensures c.in_ok-text.ensures.order in
    λ once. subst NamesOnce text (named_once (string_bytes c.in_ok-text.text) (object (held c.args.made)) order plain shallow once)
