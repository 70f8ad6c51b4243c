use Rattle.std.proofs.Common.{◌≡◌, ℕ, ◌≤◌, length, take, sym, subst, ap, ◌∙◌, rules}
use Rattle.std.specs.Prelude.{nat_eq, min}
use Rattle.std.specs.List.{common_prefix_len}
use Rattle.eos_fold_file.specs.Texts.{most_shared, shared}
use Rattle.eos_fold_file.proofs.Shared.{shared_is, shared_few, shared_rest}
use Rattle.eos_fold_file.proofs.texts.shared.Goals as goal

pub returns-clause-value : goal.returns-clause-value
returns-clause-value c =
    let before = c.args.before.now in
    let text = c.args.text.now in
    let cut : c.min.result ≡ min (most_shared (length text)) (length before) = search rules in
    c.common.ensures ∙ (ap (λ (n : ℕ). common_prefix_len nat_eq (take n before) text) cut ∙ shared_is before text)

pub returns-clause-few : goal.returns-clause-few
returns-clause-few c =
    let before = c.args.before.now in
    let text = c.args.text.now in
    let cut : c.min.result ≡ min (most_shared (length text)) (length before) = search rules in
    let value : c.common.result ≡ shared before text = c.common.ensures ∙ (ap (λ (n : ℕ). common_prefix_len nat_eq (take n before) text) cut ∙ shared_is before text) in
    subst (λ (n : ℕ). n ≤ 127) (sym value) (shared_few before text)

pub returns-clause-within : goal.returns-clause-within
returns-clause-within c =
    let before = c.args.before.now in
    let text = c.args.text.now in
    let cut : c.min.result ≡ min (most_shared (length text)) (length before) = search rules in
    let value : c.common.result ≡ shared before text = c.common.ensures ∙ (ap (λ (n : ℕ). common_prefix_len nat_eq (take n before) text) cut ∙ shared_is before text) in
    subst (λ (n : ℕ). n ≤ length text) (sym value) (shared_rest before text)
