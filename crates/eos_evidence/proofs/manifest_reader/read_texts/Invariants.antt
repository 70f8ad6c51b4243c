-- The texts so far, and those of the items that are left, are the texts of all.
use Rattle.std.proofs.Common.{◌≡◌, ◌++◌, drop, option_map}
use Rattle.serde_json.specs.View.{items_view}
use Rattle.eos_evidence.specs.Manifest.{texts_of}
use Rattle.eos_evidence.proofs.manifest_reader.read_texts.Given as goal

abbrev pub invariant-loop-item : goal.invariant-loop-item
invariant-loop-item l = option_map (λ rest. l.texts.items ++ rest) (texts_of (items_view (drop l.item-index l.items))) ≡ texts_of (items_view l.items)
