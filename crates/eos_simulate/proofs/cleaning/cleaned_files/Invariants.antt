-- The files so far, as the cleaner leaves them.
use Rattle.std.proofs.Common.{◌≡◌, map, take}
use Rattle.eos_simulate.specs.Cleaning.{log_of, cleaned_file}
use Rattle.eos_simulate.proofs.cleaning.cleaned_files.Given as goal

abbrev pub invariant-loop-file : goal.invariant-loop-file
invariant-loop-file l = l.cleaned ≡ map (cleaned_file l.mistake (log_of l.mistake l.files)) (take l.file-index l.files)
