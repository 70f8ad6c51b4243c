use Rattle.std.proofs.Common.{◌≡◌, map, length, ap, ◌∙◌, rules}
use Rattle.eos_evidence.specs.Evidence.{segments_of}
use Rattle.eos_reading.specs.Wanted.{wanted_of}
use Rattle.eos_commands.proofs.FoundMore.{next_found, all_found, done_by}
use Rattle.eos_commands.proofs.verifying.Sides.compare_all.Goals as goal

pub loop-i-preserved : goal.loop-i-preserved
loop-i-preserved g c =
    let self = c.args.self.now in
    let shape = c.args.shape.now in
    let apps = c.as_slice.result.now in
    let name = c.piece-name.result.now in
    let one = c.in_ok-push.ensures in
    let same : apps ≡ shape.evidence.spec.apps = search rules in
    let asked = c.of_topic-wanted.ensures apps c.in_ok-wants.ensures ∙ ap (λ t. wanted_of apps t) c.as_slice-in-loop-i.ensures ∙ ap (λ xs. wanted_of xs name.topic) same in
    next_found (g.D.Disk.holds self.disk.now) self.topics.now shape.evidence.spec.apps self.folder.now (map (λ p. p.now) self.logs.now) (segments_of shape.evidence.partitions) shape.forms.items
    c.loop-i.i name c.form_at-form.result c.of_topic-wanted.result c.loop-i.found.items c.push.new.found.items one.0 c.piece-name.ensures (rw c.as_slice-forms.ensures.value at c.form_at-form.ensures)
    asked c.loop-i.invariant one.1 one.2

pub returns : goal.returns
returns g c =
    let self = c.args.self.now in
    let shape = c.args.shape.now in
    let names = segments_of shape.evidence.partitions in
    let one = rw (c.pieces.ensures.count, c.as_slice-forms.ensures.value) at c.fewer-count.ensures.one in
    all_found (g.D.Disk.holds self.disk.now) self.topics.now shape.evidence.spec.apps self.folder.now (map (λ p. p.now) self.logs.now) names shape.forms.items c.loop-i.i c.loop-i.found.items
    (done_by (length names) (length shape.forms.items) _ c.loop-i.i one c.loop-i-test.false) c.loop-i.invariant
