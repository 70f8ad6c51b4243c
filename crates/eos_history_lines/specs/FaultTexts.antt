-- What is said of a line that is refused.
use Rattle.std.specs.Prelude.{ℕ, List, ◌++◌, codes}
use Rattle.std.specs.Fmt.{decimal}
use Rattle.eos_history_lines.specs.declared.mistake.Mistake.{Mistake}
use Rattle.eos_history_lines.specs.declared.mistake.Mistake.TheVariants.{NoObject, Absent, Another, UnknownEvent, UnknownReply, UnknownSwitch, SwitchOrder, UnknownNote, Surplus, Doubled, AfterTail}
use Rattle.eos_history_lines.specs.declared.fault.LineFault.{LineFault}
use Rattle.eos_history_lines.specs.declared.fault.LineFault.TheVariants.{NotJson, Mistaken, OutOfMemory}
use Rattle.eos_history_lines.specs.declared.schedule.ScheduleFault.{ScheduleFault}

abbrev pub mistake_text : Mistake → List ℕ
mistake_text NoObject = codes "it is no JSON object"
mistake_text (Absent name) = name.now ++ codes " is absent"
mistake_text (Another name wanted) = name.now ++ (codes " isn't " ++ wanted.now)
mistake_text UnknownEvent = codes "there is no event of this name"
mistake_text UnknownReply = codes "there is no reply of this name"
mistake_text UnknownSwitch = codes "there is no switch of this name"
mistake_text SwitchOrder = codes "the switches aren't in their order, each once"
mistake_text UnknownNote = codes "there is no note of this name"
mistake_text Surplus = codes "it has a member that such a line hasn't"
mistake_text Doubled = codes "a member stands twice in it"
mistake_text AfterTail = codes "it stands after the line of the totals"

abbrev pub line_fault_text : LineFault → List ℕ
line_fault_text NotJson = codes "it is no JSON text"
line_fault_text (Mistaken mistake) = mistake_text mistake
line_fault_text OutOfMemory = codes "out of memory"

abbrev pub schedule_fault_text : ScheduleFault → List ℕ
schedule_fault_text f = codes "line " ++ (decimal f.line ++ (codes ": " ++ line_fault_text f.fault))
