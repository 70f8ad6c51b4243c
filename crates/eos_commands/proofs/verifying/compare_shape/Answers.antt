use Rattle.std.proofs.Common.{map, rules}
use Rattle.std.proofs.lemmas.Result.{IfOk-weaker}
use Rattle.eos_evidence.specs.Evidence.{segments_of}
use Rattle.eos_commands.proofs.FoundMore.{of_shape}
use Rattle.eos_commands.proofs.verifying.compare_shape.Goals as goal

pub returns : goal.returns
returns g c =
    let shape = c.args.shape.now in
    IfOk-weaker c.compare_all.result _ _ (λ found are. of_shape (g.D.Disk.holds c.args.disk.now) shape.evidence.spec.apps c.as_slice.result.now c.in_ok-topics.topics.items c.as_slice-2.result.now
    c.args.given.folder.now (map (λ l. l.now) c.args.given.logs.now) (segments_of shape.evidence.partitions) shape.forms.items found.items (search rules) c.as_slice-2.ensures.value
    c.in_ok-topics.ensures are) c.compare_all.ensures
