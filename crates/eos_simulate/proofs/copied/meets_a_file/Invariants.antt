-- The files that are left say what all of them say.
use Rattle.std.proofs.Common.{◌≡◌, ◌&&◌, drop}
use Rattle.std.specs.List.{list_any}
use Rattle.eos_simulate.specs.CopiedFiles.{is_file_of}
use Rattle.eos_simulate.specs.Collecting.{meets_file}
use Rattle.eos_simulate.proofs.copied.meets_a_file.Given as goal

abbrev pub invariant-loop-file : goal.invariant-loop-file
invariant-loop-file l = list_any (λ x. is_file_of l.mistake x && meets_file x l.mistake.what) (drop l.file-index l.files) ≡ list_any (λ x. is_file_of l.mistake x && meets_file x l.mistake.what) l.files
