-- A text reads as its value, and a value without floats has one text.
use Rattle.std.proofs.Common.{◌≡◌, List, ℕ, ◌++◌, Some, sym, ap, ◌∙◌, false, subst, codes, string_bytes, rules}
use Rattle.std.proofs.lemmas.List.{append_cancel_right}
use Rattle.serde_json.specs.Data.{Data}
use Rattle.serde_json.specs.Read.{read}
use Rattle.serde_json.specs.Written.{has_float, compact_text}
use Rattle.eos_history_lines.proofs.same.is_same.Goals as goal

one_value : (s t : List ℕ) (d e : Data) → s ≡ t → read s ≡ Some d → read t ≡ Some e → d ≡ e
one_value s t d e is p q = let both : Some d ≡ Some e = sym p ∙ ap read is ∙ q in cc both

pub returns-clause-same : goal.returns-clause-same
returns-clause-same c = λ yes d says reads.
    let texts : string_bytes c.push_str.new.self ≡ string_bytes c.args.line.now = search rules in
    let text : string_bytes c.in_ok-text.text ≡ compact_text d = append_cancel_right _ _ (codes "\n") (sym c.in_ok-push_str.ensures.bytes ∙ texts ∙ says) in
    one_value (string_bytes c.in_ok-text.text) (compact_text d) _ _ text (c.in_ok-text.ensures.reads_back c.requires) reads

pub returns-clause-differ : goal.returns-clause-differ
returns-clause-differ c = λ no d says plain same.
    let text : string_bytes c.in_ok-text.text ≡ compact_text d = c.in_ok-text.ensures.text (subst (λ e. has_float e ≡ false) (sym same) plain) ∙ ap compact_text same in
    let texts : string_bytes c.push_str.new.self ≡ string_bytes c.args.line.now = c.in_ok-push_str.ensures.bytes ∙ ap (λ t. t ++ codes "\n") text ∙ sym says in
    search rules
