-- How a run of the program ends: the exit status, and what is said on standard error.
use Rattle.std.specs.Prelude.{ℕ, List, [], ◌++◌, codes, Bool, true, false, if◌then◌else◌, Option, None, Some, Result, Ok, Err}
use Rattle.eos_evidence.specs.Names.{spec_fault_name}
use Rattle.eos_disk.specs.declared.cause.Cause.{Cause}
use Rattle.eos_disk.specs.Causes.{cause_text, is_unknown}
use Rattle.eos_segment.specs.declared.fault.RunFault.{RunFault}
use Rattle.eos_segment.specs.declared.fault.RunFault.TheVariants as faults
use Rattle.eos_ending.specs.declared.ending.Ending.{Ending}
use Rattle.eos_ending.specs.declared.ending.Ending.TheVariants.{Answered, Helped, BadWords, NotText, CannotRead, CannotWrite, Manifest, Refused, NoSuchCode, Unfit, NotAtRest, Limit, OutOfMemory}

-- the exit status
abbrev pub status_of : Ending → ℕ
status_of (Answered status) = status
status_of Helped = 0
status_of BadWords = 2
status_of NotText = 2
status_of (CannotRead path cause) = 2
status_of (CannotWrite path) = 2
status_of (Manifest fault cause) = 2
status_of (Refused path name cause) = 2
status_of (NoSuchCode code) = 2
status_of (Unfit what why) = 2
status_of NotAtRest = 2
status_of (Limit cause) = 2
status_of OutOfMemory = 3

-- the first line that is said on standard error, or nothing
abbrev pub message_of : Ending → List ℕ
message_of (Answered status) = []
message_of Helped = []
message_of BadWords = []
message_of NotText = codes "error: a word of the command line is not UTF-8 text\n"
message_of (CannotRead path cause) = codes "eoscheck: cannot read " ++ (path.now ++ codes "\n")
message_of (CannotWrite path) = codes "eoscheck: cannot write " ++ (path.now ++ codes "\n")
message_of (Manifest fault cause) = codes "eoscheck: evidence.json: " ++ (spec_fault_name fault ++ codes "\n")
message_of (Refused path name cause) = codes "eoscheck: " ++ (path.now ++ (codes ": " ++ (name.now ++ codes "\n")))
message_of (NoSuchCode code) = codes "eoscheck: no fault has the code " ++ (code.now ++ codes "\n")
message_of (Unfit what why) = codes "eoscheck: " ++ (what.now ++ (codes ": " ++ (why.now ++ codes "\n")))
message_of NotAtRest = codes "eoscheck: the cluster is not at rest\n"
message_of (Limit cause) = codes "eoscheck: limit\n"
message_of OutOfMemory = codes "eoscheck: out of memory\n"

-- whether nothing is said
abbrev pub is_silent : Ending → Bool
is_silent (Answered status) = true
is_silent Helped = true
is_silent BadWords = true
is_silent NotText = false
is_silent (CannotRead path cause) = false
is_silent (CannotWrite path) = false
is_silent (Manifest fault cause) = false
is_silent (Refused path name cause) = false
is_silent (NoSuchCode code) = false
is_silent (Unfit what why) = false
is_silent NotAtRest = false
is_silent (Limit cause) = false
is_silent OutOfMemory = false

-- what the second line says, where there is one
abbrev pub cause_of : Ending → Option Cause
cause_of (Answered status) = None
cause_of Helped = None
cause_of BadWords = None
cause_of NotText = None
cause_of (CannotRead path cause) = Some cause.now
cause_of (CannotWrite path) = None
cause_of (Manifest fault cause) = Some cause.now
cause_of (Refused path name cause) = Some cause.now
cause_of (NoSuchCode code) = None
cause_of (Unfit what why) = None
cause_of NotAtRest = None
cause_of (Limit cause) = Some cause.now
cause_of OutOfMemory = None

-- the second line, which begins with two spaces; none where nothing is known
abbrev pub cause_line : List ℕ → Option Cause → List ℕ
cause_line about None = []
cause_line about (Some cause) = if is_unknown cause then [] else about ++ (codes "  " ++ (cause_text cause ++ codes "\n"))

-- both lines, each after the words on which folder they are about
abbrev pub told_text : List ℕ → Ending → List ℕ
told_text about ending = if is_silent ending then [] else about ++ (message_of ending ++ cause_line about (cause_of ending))

-- the exit status of a command that answered so
abbrev pub status_after : Result ℕ RunFault → ℕ
status_after (Ok status) = status
status_after (Err faults.Read) = 2
status_after (Err faults.Limit) = 2
status_after (Err faults.Write) = 2
status_after (Err faults.OutOfMemory) = 3

-- what is said after it, of the input and the output with these names
abbrev pub message_after : Result ℕ RunFault → List ℕ → List ℕ → List ℕ
message_after (Ok status) input output = []
message_after (Err faults.Read) input output = codes "eoscheck: cannot read " ++ (input ++ codes "\n")
message_after (Err faults.Limit) input output = codes "eoscheck: limit\n"
message_after (Err faults.Write) input output = codes "eoscheck: cannot write " ++ (output ++ codes "\n")
message_after (Err faults.OutOfMemory) input output = codes "eoscheck: out of memory\n"

-- why, where it hasn't read its input
abbrev pub cause_after : Result ℕ RunFault → Cause → Option Cause
cause_after (Ok status) cause = None
cause_after (Err faults.Read) cause = Some cause
cause_after (Err faults.Limit) cause = Some cause
cause_after (Err faults.Write) cause = None
cause_after (Err faults.OutOfMemory) cause = None
