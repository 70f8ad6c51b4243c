use Rattle.std.proofs.Common.{◌≡◌, List, Some, subst}
use Rattle.std.specs.Prelude.{slice_get}
use Rattle.eos_evidence.specs.Evidence.{segments_of}
use Rattle.eos_disk.specs.declared.names.Form.{Form}
use Rattle.eos_source.proofs.Refused.{fold_at}
use Rattle.eos_source.proofs.folder_source.FolderSourceSource.unfit.Goals as goal

pub returns-in-Some : goal.returns-in-Some
returns-in-Some g c =
    let source = c.args.self.now in
    let form = subst (λ (fs : List Form). slice_get fs c.args.piece ≡ Some c.in-Some.form) c.as_slice.ensures.value c.in-Some.ensures.form in
    fold_at (g.D.Disk.holds source.folder.disk.now) source.folder.path.now (segments_of source.shape.now.evidence.partitions) source.shape.now.forms.items c.args.piece c.in-Some.name.now c.in-Some.form
    c.segment_path.result c.refused_unfit.result c.in-Some.ensures.name form c.segment_path.ensures c.refused_unfit.ensures
