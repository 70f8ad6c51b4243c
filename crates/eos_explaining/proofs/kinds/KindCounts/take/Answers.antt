use Rattle.std.proofs.Common.{◌≡◌, ◌+◌, ◌<◌, ℕ, Some, cond, rules, subst, sym}
use Rattle.std.specs.BTreeMap.{get}
use Rattle.std.specs.Ordering.{nat_cmp, is_eq}
use Rattle.eos_verdict.specs.VerdictNames.{number_of}
use Rattle.eos_explaining.specs.steps.Counting.{HasKind}
use Rattle.eos_explaining.proofs.KindsCounted.{kinds_more}
use Rattle.eos_explaining.proofs.kinds.KindCounts.take.Goals as goal

pub returns : goal.returns
returns c = λ told f is are.
    let old = c.args.self.now in
    let new = c.put_count.new.kinds in
    let number = c.args.kind.number in
    let known = c.counted_in.result in
    let all : c.in_ok-self.field-0 ≡ old.all + 1 = search rules in
    let has : number_of f < 13 → HasKind told (number_of f) known = λ lt. subst (λ (n : ℕ). HasKind told n known) is.number (subst (HasKind told number) (sym c.counted_in.ensures) (are.each number (subst (λ n. n < 13) (sym is.number) lt))) in
    let put = subst (λ (m : ℕ). (n : ℕ) → get nat_cmp new n ≡ cond (is_eq (nat_cmp m n)) (Some c.in_ok-count.count) (get nat_cmp old.kinds n)) is.number c.in_ok-put_count.ensures in
    kinds_more told f old (record { all = c.in_ok-self.field-0; kinds = new }) c.in_ok-count.count are all (λ lt. c.in_ok-count.ensures told f is (has lt)) put
