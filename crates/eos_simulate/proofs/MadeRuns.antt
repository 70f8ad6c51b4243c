-- What a run made, put together.
use Rattle.std.proofs.Common.{◌≡◌, ℕ, false, Bool, List, [], IfSome}
use Rattle.std.specs.List.{AllZip}
use Rattle.eos_evidence.specs.Evidence.{EvidenceParts}
use Rattle.eos_machine.specs.declared.config.Config.{Config}
use Rattle.eos_machine.specs.declared.switches.Switches.{Switches}
use Rattle.eos_machine.specs.Schedules.{IsOfSchedule}
use Rattle.eos_machine.specs.Switching.{any_on}
use Rattle.eos_drive.specs.declared.deed.Deed.{Deed}
use Rattle.eos_history_lines.specs.declared.line.Head.{Head}
use Rattle.eos_history_lines.specs.declared.schedule.Schedule.{Schedule}
use Rattle.eos_simulate.specs.Histories.{IsLeftBy, HasBroken, LoseNothing, IsAsSaid, acts_of, acts_said, FitsTotals}
use Rattle.eos_simulate.specs.declared.made.WantedTexts.{WantedTexts}
use Rattle.eos_simulate.specs.Schedules.{HasRightLogs, HasNoFaultInLogs}
use Rattle.eos_simulate.specs.Folders.{Texts, AreTextsOf, IsOfScript, IsOfLines}

pub of_script : (c : Config) (u : Switches) (stops : Bool) (unclean : ℕ) (h : Head) (keeps : WantedTexts) (before deeds : List Deed) (e : EvidenceParts) (texts : Texts) → before ≡ [] → (before ≡ [] → IsLeftBy c deeds e)
    → HasBroken u deeds → (before ≡ [] → stops ≡ false → any_on u ≡ false → LoseNothing c deeds → IsOfSchedule e) → (before ≡ [] → stops ≡ false → any_on u ≡ false → LoseNothing c deeds → HasRightLogs e) → (before ≡ [] → stops ≡ false → any_on u ≡ false → LoseNothing c deeds → HasNoFaultInLogs e) → (before ≡ [] → unclean ≡ 0 → LoseNothing c deeds)
    → AreTextsOf keeps h c stops deeds texts → IsOfScript c u stops unclean h keeps e texts
of_script c u stops unclean h keeps before deeds e texts none left broken schedule right faultless lossless texts_are = record {
  deeds = deeds;
  left = left none;
  broken = broken;
  schedule = schedule none;
  right = right none;
  faultless = faultless none;
  lossless = lossless none;
  texts_are = texts_are;
}

pub of_lines : (s : Schedule) (stops : Bool) (keeps : WantedTexts) (before deeds : List Deed) (e : EvidenceParts) (texts : Texts) → before ≡ [] → (before ≡ [] → IsLeftBy s.head.config deeds e)
    → (before ≡ [] → acts_of deeds ≡ acts_said s.lines) → (before ≡ [] → AllZip IsAsSaid deeds s.lines) → (before ≡ [] → IfSome s.tail (FitsTotals deeds))
    → AreTextsOf keeps s.head s.head.config stops deeds texts → IsOfLines s stops keeps e texts
of_lines s stops keeps before deeds e texts none left done answered totals texts_are = record {
  deeds = deeds;
  left = left none;
  done = done none;
  answered = answered none;
  totals = totals none;
  texts_are = texts_are;
}
