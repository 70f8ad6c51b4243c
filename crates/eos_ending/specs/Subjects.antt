-- How a line begins that is about one of several folders, as `grep` does it.
use Rattle.std.specs.Prelude.{ℕ, List, [], ◌++◌, codes}
use Rattle.eos_ending.specs.declared.subject.Subject.{Subject}
use Rattle.eos_ending.specs.declared.subject.Subject.TheVariants.{Only, Folder}

-- where there is only one folder nothing is said of it
abbrev pub subject_text : Subject → List ℕ
subject_text Only = []
subject_text (Folder folder) = folder.now ++ codes ": "
