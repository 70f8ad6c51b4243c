use Rattle.std.proofs.Common.{◌≡◌, ◌++◌, drop, string_bytes}
use Rattle.eos_picture.specs.Escaping.{xml_text}
use Rattle.eos_picture.proofs.escaping.push_xml.Given as goal

abbrev pub invariant-loop-byte : goal.invariant-loop-byte
invariant-loop-byte l = string_bytes l.out ++ xml_text (drop l.byte-index l.bytes) ≡ string_bytes l.fn.out ++ xml_text l.bytes
