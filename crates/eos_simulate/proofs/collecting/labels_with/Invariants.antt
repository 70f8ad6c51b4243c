-- The lines of the mistakes so far stand behind those before.
use Rattle.std.proofs.Common.{◌≡◌, ◌++◌, Some, string_bytes, option_map, take}
use Rattle.eos_simulate.specs.MistakeTexts.{collected_lines}
use Rattle.eos_simulate.proofs.collecting.labels_with.Given as goal

abbrev pub invariant-loop-mistake : goal.invariant-loop-mistake
invariant-loop-mistake l = Some (string_bytes l.text) ≡ option_map (λ t. t ++ collected_lines (take l.mistake-index l.mistakes)) (option_map string_bytes l.fn.labels)
