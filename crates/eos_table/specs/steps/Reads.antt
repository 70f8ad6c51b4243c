-- What was read of a record's key and value.
use Rattle.eos_table.specs.declared.content.Content.{Content}
use Rattle.eos_table.specs.declared.content.Content.TheVariants.{Unreadable, Other, Of}
use Rattle.eos_table.specs.declared.known.Read.{Read}
use Rattle.eos_table.specs.declared.known.Read.TheVariants as reads

abbrev pub content_read : Read → Content
content_read (reads.Unreadable fault) = Unreadable fault
content_read reads.Other = Other
content_read (reads.Of id value) = Of id value
