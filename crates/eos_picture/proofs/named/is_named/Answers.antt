use Rattle.std.proofs.Common.{rules, ◌≡◌, Some}
use Rattle.eos_picture.specs.Order.{is_of_name}
use Rattle.eos_picture.proofs.Standings.{same_name, other_name}
use Rattle.eos_picture.proofs.named.is_named.Goals as goal

pub returns-clause-yes : goal.returns-clause-yes
returns-clause-yes c =
    let is : c.is_at.result ≡ is_of_name (Some c.args.name.now) c.args.part.now = search rules in
    same_name c.is_at.result c.args.part.now c.args.name.now is

pub returns-clause-no : goal.returns-clause-no
returns-clause-no c =
    let is : c.is_at.result ≡ is_of_name (Some c.args.name.now) c.args.part.now = search rules in
    other_name c.is_at.result c.args.part.now c.args.name.now is
