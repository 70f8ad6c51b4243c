-- A fold's file that can't be read, or that is no fold of its segment.
use Rattle.std.proofs.Common.{◌≡◌, List, Some, String, Global, string_bytes, ap, ◌∙◌, subst}
use Rattle.std.proofs.lemmas.Result.{err_from_is_err_and}
use Rattle.std.specs.Prelude.{slice_get}
use Rattle.eos_evidence.specs.Evidence.{segments_of}
use Rattle.eos_disk.specs.declared.names.Form.{Form}
use Rattle.eos_source.proofs.Refused.{file_at, piece_at}
use Rattle.eos_source.proofs.folder_source.FolderSourceSource.open.Goals as goal

pub returns-in_err-bytes-in-Fold-clause-refused : goal.returns-in_err-bytes-in-Fold-clause-refused
returns-in_err-bytes-in-Fold-clause-refused g c =
    let p = err_from_is_err_and c.from_residual-in_err-bytes-in-Fold.result c.from_residual-in_err-bytes-in-Fold.ensures.1 in
    let source = c.args.self.now in
    let form = subst (λ (fs : List Form). slice_get fs c.args.piece ≡ Some c.in-Some.form) c.as_slice.ensures.value c.in-Some.ensures.form in
    let path = ap (λ (s : String Global). string_bytes s) c.in_ok-named.ensures.ok.1 ∙ c.in_ok-path.ensures in
    rw (p.1, p.2) (file_at (g.D.Disk.holds source.folder.disk.now) source.folder.path.now (segments_of source.shape.now.evidence.partitions) source.shape.now.forms.items c.args.piece c.in-Some.name.now
    c.in-Some.form (string_bytes c.in_ok-named.named.path) c.in_err-bytes-in-Fold.field-0.0 c.in-Some.ensures.name form path c.in_err-bytes-in-Fold.ensures.err c.in_err-bytes-in-Fold.ensures.so)

pub returns-in_err-fold-in-Fold-clause-refused : goal.returns-in_err-fold-in-Fold-clause-refused
returns-in_err-fold-in-Fold-clause-refused g c =
    let p = err_from_is_err_and c.from_residual-in_err-fold-in-Fold.result c.from_residual-in_err-fold-in-Fold.ensures.1 in
    let source = c.args.self.now in
    let form = subst (λ (fs : List Form). slice_get fs c.args.piece ≡ Some c.in-Some.form) c.as_slice.ensures.value c.in-Some.ensures.form ∙ ap Some c.in-Fold.is in
    rw (p.1, p.2) (piece_at (g.D.Disk.holds source.folder.disk.now) source.folder.path.now (segments_of source.shape.now.evidence.partitions) source.shape.now.forms.items c.args.piece c.in-Some.name.now
    c.in_err-fold-in-Fold.field-0.0 c.in-Some.ensures.name form c.in_err-fold-in-Fold.ensures.path c.in_err-fold-in-Fold.ensures.so)
