-- The word of a collector's mistake, `NAME@TOPIC-N:..`, and its label: a line of JSON (RFC 8259), the members in the order of their names.
use Rattle.std.specs.Prelude.{ℕ, List, [], ◌++◌, codes, flat_map}
use Rattle.std.specs.Fmt.{decimal, signed_decimal}
use Rattle.serde_json.specs.Data.{string}
use Rattle.serde_json.specs.Written.{compact_text}
use Rattle.eos_simulate.specs.declared.mistake.Mistake.{Mistake}
use Rattle.eos_simulate.specs.declared.mistake.Turned.{Turned}
use Rattle.eos_simulate.specs.declared.mistake.What.{What}
use Rattle.eos_simulate.specs.declared.mistake.What.TheVariants.{LostSegment, CutSegment, RenamedSegment, TurnedByte, RewrittenByte, TwoReplicas, Compacted, WrongEnd, Forgotten, Doubled}

unfoldable pub what_name : What → List ℕ
what_name (LostSegment base) = codes "lost-segment"
what_name (CutSegment base) = codes "cut-segment"
what_name (RenamedSegment base name) = codes "renamed-segment"
what_name (TurnedByte turned) = codes "turned-byte"
what_name (RewrittenByte turned) = codes "rewritten-byte"
what_name TwoReplicas = codes "two-replicas"
what_name Compacted = codes "compacted"
what_name (WrongEnd end) = codes "wrong-end"
what_name Forgotten = codes "forgotten"
what_name (Doubled number) = codes "doubled"

abbrev pub turned_text : Turned → List ℕ
turned_text t = (codes ":" ++ signed_decimal t.base) ++ ((codes ":" ++ decimal t.at) ++ (codes ":" ++ decimal t.value))

-- what stands behind the partition
abbrev pub places_text : What → List ℕ
places_text (LostSegment base) = codes ":" ++ signed_decimal base
places_text (CutSegment base) = codes ":" ++ signed_decimal base
places_text (RenamedSegment base name) = (codes ":" ++ signed_decimal base) ++ (codes ":" ++ signed_decimal name)
places_text (TurnedByte turned) = turned_text turned
places_text (RewrittenByte turned) = turned_text turned
places_text TwoReplicas = []
places_text Compacted = []
places_text (WrongEnd end) = codes ":" ++ signed_decimal end
places_text Forgotten = []
places_text (Doubled number) = codes ":" ++ signed_decimal number

abbrev pub mistake_word : Mistake → List ℕ
mistake_word m = (codes "" ++ what_name m.what) ++ ((codes "@" ++ m.topic.now) ++ ((codes "-" ++ signed_decimal m.partition) ++ places_text m.what))

-- the codes of the faults that may follow a mistake
unfoldable pub what_codes : What → List ℕ
what_codes (LostSegment base) = codes "[\"1.2\",\"1.10\",\"1.11\",\"2.5\",\"3.2\",\"3.5\",\"3.7\",\"5.6\",\"5.7\",\"5.11\"]"
what_codes (CutSegment base) = codes "[\"1.1\"]"
what_codes (RenamedSegment base name) = codes "[\"1.2\"]"
what_codes (TurnedByte turned) = codes "[\"1.1\",\"1.2\"]"
what_codes (RewrittenByte turned) = codes "[\"1.1\",\"1.2\",\"1.3\",\"1.4\",\"1.5\",\"1.6\",\"1.7\",\"1.8\",\"1.9\",\"1.11\",\"2.1\",\"2.2\",\"2.3\",\"2.4\",\"2.5\",\"3.1\",\"3.2\",\"3.3\",\"3.4\",\"3.5\",\"3.6\",\"3.7\",\"4.1\",\"4.2\",\"4.3\",\"4.4\",\"5.5\",\"5.6\",\"5.7\",\"5.8\",\"5.9\",\"5.10\",\"5.11\",\"5.12\"]"
what_codes TwoReplicas = codes "[\"1.2\"]"
what_codes Compacted = codes "[\"1.1\",\"1.2\"]"
what_codes (WrongEnd end) = codes "[\"1.10\",\"1.11\",\"2.5\",\"3.2\",\"3.5\",\"3.7\",\"5.6\",\"5.7\",\"5.11\"]"
what_codes Forgotten = codes "[\"3.2\",\"3.5\",\"3.6\",\"5.6\",\"5.7\",\"5.11\"]"
what_codes (Doubled number) = codes "[\"2.3\",\"3.1\",\"3.4\",\"3.5\",\"4.3\",\"5.10\"]"

unfoldable pub collected_text : Mistake → List ℕ
collected_text m =
    (codes "{\"codes\":" ++ what_codes m.what) ++ ((codes ",\"label\":\"collected\",\"mistake\":" ++ compact_text (string (mistake_word m))) ++ codes "}\n")

-- a line for each
abbrev pub collected_lines : List Mistake → List ℕ
collected_lines ms = flat_map collected_text ms
