use Rattle.std.proofs.Common.{◌≡◌, ◌∙◌, rules}
use Rattle.std.specs.BTreeMap.{get}
use Rattle.eos_picture.specs.steps.Standing.{by_writer}
use Rattle.eos_picture.proofs.order.last_in.Goals as goal

pub returns : goal.returns
returns c =
    let is : c.copied.result ≡ get by_writer c.args.lasts.now c.args.writer = search rules in
    is ∙ c.requires _
