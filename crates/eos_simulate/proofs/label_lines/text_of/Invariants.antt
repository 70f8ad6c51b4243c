-- The lines of the labels so far.
use Rattle.std.proofs.Common.{◌≡◌, flat_map, take, string_bytes}
use Rattle.eos_simulate.specs.LabelTexts.{label_text}
use Rattle.eos_simulate.proofs.label_lines.text_of.Given as goal

abbrev pub invariant-loop-label : goal.invariant-loop-label
invariant-loop-label l = string_bytes l.text ≡ flat_map (label_text l.cluster.config) (take l.label-index l.labels)
