use Rattle.std.proofs.Common.{Some, cond, w32, rules, sym, ◌∙◌}
use Rattle.std.proofs.lemmas.Int.{to_z-of_z}
use Rattle.std.proofs.lemmas.Map.Text.{btree_map_updates_str, is_eq-slice_cmp}
use mir.Val.{SFits}
use Rattle.eos_commits.specs.steps.Lent.{homes_of}
use Rattle.eos_commits.proofs.homes.put_home.Goals as goal

pub returns : goal.returns
returns c = λ other.
    let fits : SFits w32 c.args.number = search rules in
    let number = to_z-of_z w32 c.args.number fits in
    btree_map_updates_str c.args.group.now c.args.homes.now c.insert.new.self _ c.in_ok-insert.ensures.updates other
    ∙ (λ i. cond (sym (is_eq-slice_cmp c.args.group.now other) i) (Some (number i)) (homes_of c.args.homes.now other))
