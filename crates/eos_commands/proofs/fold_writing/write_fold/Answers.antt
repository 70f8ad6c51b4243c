use Rattle.std.proofs.Common.{rules}
use Rattle.eos_disk.specs.Paths.{partition_path, segment_path}
use Rattle.eos_disk.specs.declared.names.Form.TheVariants.{Fold}
use Rattle.eos_commands.proofs.Unmade.{not_left}
use Rattle.eos_commands.proofs.fold_writing.write_fold.Goals as goal

pub returns-clause-err : goal.returns-clause-err
returns-clause-err g c =
    not_left (g.D.Disk.holds c.args.disk.now) (g.D.Disk.holds c.make_folders.new.self) (g.D.Disk.holds c.put_file.new.disk) c.as_str.result.now
    (partition_path c.args.out.now c.args.name.now.topic c.args.name.now.partition) c.as_str-2.result.now (segment_path c.args.out.now c.args.name.now Fold) c.args.bytes.now (search rules) (search rules)
    c.in_default.ensures.ok c.in-Err-put_file.ensures.err
