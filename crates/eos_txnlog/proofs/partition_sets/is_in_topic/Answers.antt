use Rattle.std.proofs.Common.{◌≡◌, ◌∙◌, sym, ap, true, false, Bool, List, ℕ, arith}
use Rattle.std.specs.Prelude.{◌&&◌}
use Rattle.std.specs.List.{list_any}
use Rattle.std.specs.Ordering.{int_eq}
use Rattle.std.specs.Str.{bytes_eq}
use Rattle.std.proofs.lemmas.Int.{to_z-of_z}
use Rattle.eos_txnlog.proofs.SameNames.{found_in_topic}
use Rattle.eos_txnlog.proofs.partition_sets.is_in_topic.Goals as goal

pub returns-then-eq : goal.returns-then-eq
returns-then-eq c =
    let same : bytes_eq c.args.t.now.topic c.args.topic.now ≡ true = ap (λ (xs : List ℕ). bytes_eq xs c.args.topic.now) (sym c.as_slice.ensures) ∙ (sym c.eq.ensures ∙ c.if-eq.true) in
    let has : c.contains.result ≡ list_any (λ n. int_eq n c.args.number) c.args.t.now.numbers = grind (arith, to_z-of_z) in
    has ∙ (ap (λ (b : Bool). b && list_any (λ n. int_eq n c.args.number) c.args.t.now.numbers) (sym same) ∙ sym (found_in_topic c.args.t.now.topic c.args.t.now.numbers c.args.topic.now c.args.number))

pub returns-else-eq : goal.returns-else-eq
returns-else-eq c =
    let same : bytes_eq c.args.t.now.topic c.args.topic.now ≡ false = ap (λ (xs : List ℕ). bytes_eq xs c.args.topic.now) (sym c.as_slice.ensures) ∙ (sym c.eq.ensures ∙ c.if-eq.false) in
    c.if-eq.false ∙ (ap (λ (b : Bool). b && list_any (λ n. int_eq n c.args.number) c.args.t.now.numbers) (sym same) ∙ sym (found_in_topic c.args.t.now.topic c.args.t.now.numbers c.args.topic.now c.args.number))
