use Rattle.std.proofs.Common.{Some, map, string_bytes}
use Rattle.std.proofs.lemmas.Result.{err_from_is_err_and}
use Rattle.eos_drawing.specs.FirstPictures.{AreFirstPictures}
use Rattle.eos_drawing.specs.Folders.{is_later}
use Rattle.eos_drawing.proofs.FolderAnswers.{known_of}
use Rattle.eos_drawing.proofs.pictures.first_pictures.Goals as goal

pub returns-clause-known : goal.returns-clause-known
returns-clause-known g c e known at =
    known_of (g.D.Disk.holds c.args.folder.disk.now) c.args.folder.path.now (is_later (Some c.args.first.now.most))
    (λ known partitions x. AreFirstPictures known partitions x c.args.first.now.most (map string_bytes c.in_ok-texts.texts.items)) e known at c.in_ok-texts.ensures.texts

pub returns-in_err-texts-clause-first : goal.returns-in_err-texts-clause-first
returns-in_err-texts-clause-first g c =
    let p = err_from_is_err_and c.from_residual.result c.from_residual.ensures.1 in
    rw (p.1, p.2) (c.in_err-texts.ensures.first)
