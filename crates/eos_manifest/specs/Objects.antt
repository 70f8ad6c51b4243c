-- The members that a JSON object under construction has, and how bytes and numbers are written in one (RFC 8259, sections 3 to 7).
use Rattle.std.specs.Prelude.{ℕ, ℤ, List, codes, if◌then◌else◌}
use Rattle.std.specs.Str.{is_utf8}
use Rattle.hex.specs.Hex.{encode_lower}
use Rattle.serde_json.specs.Data.{Data, Members, no_members, object, string, number, unsigned, put}
use Rattle.serde_json.specs.Find.{of_integer}
use Rattle.serde_json.specs.View.{members_view}
use Rattle.eos_manifest.specs.declared.object.Object.{Object}

abbrev pub held : Object → Members
held o = members_view o.members.entries

abbrev pub count : ℕ → Data
count n = number (unsigned n)

abbrev pub integer : ℤ → Data
integer z = number (of_integer z)

-- bytes that are UTF-8 as that text; others as an object with their digits
abbrev pub text_value : List ℕ → Data
text_value bytes = if is_utf8 bytes then string bytes else object (put (codes "hex") (string (encode_lower bytes)) no_members)
