use Rattle.std.proofs.Common.{◌≡◌, take, None, flat_map, refl, rules}
use Rattle.eos_wire.specs.Crc.{crc32c_of}
use Rattle.eos_fold_file.specs.steps.Fronts.{stop_of}
use Rattle.eos_fold_file.specs.steps.Passing.{Passes}
use Rattle.eos_fold_file.specs.steps.Seals.{checksum_text}
use Rattle.eos_reading.specs.Seals.{entries_of}
use Rattle.eos_fold_file.proofs.FrontSteps.{front_is}
use Rattle.eos_fold_file.proofs.front.front_of.Goals as goal

pub returns : goal.returns
returns g c = λ keep bytes small sealed.
    let v = c.args.sealed in
    let p = c.in_ok-passed.passed in
    let passes : Passes c.args.begin v.folded.heads p = search rules in
    let stop : c.stop_of-stop.result ≡ stop_of c.args.begin p.found v.folded.stop = search rules in
    let n = c.len.result in
    let epochs : c.new.result ≡ entries_of None (take n v.seals) = search rules in
    let checked : c.in_ok-batches.batches ≡ crc32c_of (flat_map checksum_text (take n v.seals)) = search rules in
    let cut : g.L.KeptList.list c.truncate-2.new.self ≡ take p.records v.folded.kept = search rules in
    front_is keep c.args.begin bytes v.folded v.seals p _ _ n small sealed.folds sealed.sealed passes (search rules) refl epochs checked stop (search rules) cut
