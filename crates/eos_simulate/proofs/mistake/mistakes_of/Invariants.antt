-- The mistakes so far are what the words so far say.
use Rattle.std.proofs.Common.{◌≡◌, map, take}
use Rattle.eos_simulate.specs.MistakeTexts.{mistake_word}
use Rattle.eos_simulate.proofs.mistake.mistakes_of.Given as goal

abbrev pub invariant-loop-word : goal.invariant-loop-word
invariant-loop-word l = map mistake_word l.mistakes.items ≡ map (λ word. word.now) (take l.word-index l.words)
