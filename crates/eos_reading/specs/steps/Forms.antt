-- The forms in which what is kept of an output's record lies in memory.
use Rattle.std.specs.Prelude.{pos}
use Rattle.eos_reading.specs.Outputs.{KeptOutput, Unclaimed, Asked, Foreign, asked_output}
use Rattle.eos_reading.specs.declared.output.Form.{Form}
use Rattle.eos_reading.specs.declared.output.Form.TheVariants as forms

abbrev pub output_in : Form → KeptOutput
output_in forms.Unclaimed = Unclaimed
output_in (forms.Near topic partition output of offset) = Asked (pos partition) output of topic offset
output_in (forms.Wide a) = asked_output a.value
output_in (forms.Foreign c) = Foreign c
