use Rattle.std.proofs.Common.{◌++◌, ◌∷◌, [], ℤ, pos, map, take, get_or, sym, ap, ◌∙◌, append_assoc, rules, w16, w64, FitsSigned}
use Rattle.std.proofs.lemmas.Int.{to_z-of_z}
use Rattle.eos_picture.specs.Transactions.{undecided_column}
use Rattle.eos_picture.proofs.Standings.{map_next}
use Rattle.eos_picture.proofs.transactions.push_undecided_columns.Goals as goal

pub loop-writer-preserved : goal.loop-writer-preserved
loop-writer-preserved c =
    let others = c.args.others.now in
    let i = c.loop-writer.writer-index in
    let start = c.args.columns.now.items in
    let writer : ℤ × ℤ = get_or others i (pos 0, pos 0) in
    let producer : FitsSigned w64 writer.0 = search rules in
    let epoch : FitsSigned w16 writer.1 = search rules in
    let next = undecided_column writer ∷ [] in
    let pushed = simp to_z-of_z at c.in_ok-put.ensures in
    pushed ∙ (ap (λ z. z ++ next) c.loop-writer.invariant
    ∙ (append_assoc start (map undecided_column (take i others)) next ∙ ap (λ z. start ++ z) (sym (map_next undecided_column others i (pos 0, pos 0) c.loop-writer-test.true))))
