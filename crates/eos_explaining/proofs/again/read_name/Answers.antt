use Rattle.std.proofs.Common.{◌≡◌, List, None, subst}
use Rattle.eos_evidence.specs.declared.partition.Partition.{Partition}
use Rattle.eos_sought.specs.declared.folded.Folded.{Folded}
use Rattle.eos_sought.specs.Folded.{AreFolded, IsNamedBy}
use Rattle.eos_sought.specs.Partitions.{partition_named}
use Rattle.eos_source.specs.Said.{known_by}
use Rattle.eos_explaining.proofs.Covered.{was_read}
use Rattle.eos_explaining.proofs.again.read_name.Goals as goal

pub returns-in-Some-clause-covered : goal.returns-in-Some-clause-covered
returns-in-Some-clause-covered g c =
    was_read c.args.pieces.now.shape.now.partitions c.args.read.now.items c.args.name.now c.in-Some._folded.now
    (subst (λ (fs : List Folded). (ps : List Partition) → AreFolded ps fs → IsNamedBy ps c.args.name.now c.in-Some._folded.now) c.as_slice.ensures.value c.in-Some.ensures.some)

pub returns-in_ok-push_folds-in-None-clause-more : goal.returns-in_ok-push_folds-in-None-clause-more
returns-in_ok-push_folds-in-None-clause-more g c =
    let source = c.args.pieces.now.source.now in
    c.in_ok-push_folds-in-None.ensures.more (known_by (g.S.Source.said source) (g.S.Source.is_log source)) c.args.pieces.now.shape.now.partitions c.args.name.now c.in_ok-folds-in-None.ensures.read

pub returns-in_ok-push_folds-in-None-clause-same : goal.returns-in_ok-push_folds-in-None-clause-same
returns-in_ok-push_folds-in-None-clause-same g c =
    let source = c.args.pieces.now.source.now in
    λ none. (c.in_ok-push_folds-in-None.ensures.absent (known_by (g.S.Source.said source) (g.S.Source.is_log source)) c.args.pieces.now.shape.now.partitions c.args.name.now c.in_ok-folds-in-None.ensures.read none).0

pub returns-in_ok-push_folds-in-None-clause-covered : goal.returns-in_ok-push_folds-in-None-clause-covered
returns-in_ok-push_folds-in-None-clause-covered g c =
    let source = c.args.pieces.now.source.now in
    let none = subst (λ (fs : List Folded). (ps : List Partition) → AreFolded ps fs → partition_named c.args.name.now ps ≡ None) c.as_slice.ensures.value c.in-None.ensures.none in
    c.in_ok-push_folds-in-None.ensures.covered (known_by (g.S.Source.said source) (g.S.Source.is_log source)) c.args.pieces.now.shape.now.partitions c.args.name.now c.in_ok-folds-in-None.ensures.read none
