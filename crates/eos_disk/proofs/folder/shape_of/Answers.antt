use Rattle.eos_disk.proofs.PartitionsCut.{shape_to}
use Rattle.eos_disk.proofs.ShapeRead.{shape_stands}
use Rattle.eos_disk.proofs.folder.shape_of.Goals as goal

pub returns-clause-all : goal.returns-clause-all
returns-clause-all g c = λ listed.
    let listing = c.in_ok-spec.field-0 in
    let says = c.in_ok-spec.ensures.says in
    shape_stands (g.D.Disk.holds c.args.disk.now) c.args.folder.now says.0 listing.spec listing.segments.names.items c.in_ok-evidence.evidence listing.segments.forms.items
    says.1 says.2 c.in_ok-evidence.ensures.spec c.in_ok-evidence.ensures.partitions c.in_ok-evidence.ensures.evidence (c.in_ok-spec.ensures.named listed)

pub returns-clause-front : goal.returns-clause-front
returns-clause-front g c = λ why refused.
    let listing = c.in_ok-spec.field-0 in
    let says = c.in_ok-spec.ensures.says in
    shape_to (g.D.Disk.holds c.args.disk.now) c.args.folder.now says.0 listing.spec listing.segments.names.items c.in_ok-evidence.evidence listing.segments.forms.items why
    says.1 says.2 c.in_ok-evidence.ensures.spec c.in_ok-evidence.ensures.partitions c.in_ok-evidence.ensures.evidence (c.in_ok-spec.ensures.cut why refused)
