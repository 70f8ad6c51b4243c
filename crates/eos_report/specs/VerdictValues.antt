-- How a verdict is printed as a JSON object.
use Rattle.std.specs.Prelude.{codes}
use Rattle.serde_json.specs.Data.{Data, object, member, no_members, string, number, unsigned}
use Rattle.eos_verdict.specs.declared.verdict.Verdict.{Verdict}
use Rattle.eos_verdict.specs.declared.verdict.Verdict.TheVariants.{Yes, No}
use Rattle.eos_verdict.specs.FaultTexts.{fault_text}

-- the JSON object: {"answer":"yes","inputs":I,"outputs":O,"transactions":T} or {"answer":"no","fault":"TEXT"}
abbrev pub verdict_value : Verdict → Data
verdict_value (Yes c) =
    object (member (codes "answer") (string (codes "yes")) (member (codes "inputs") (number (unsigned c.inputs))
    (member (codes "outputs") (number (unsigned c.outputs)) (member (codes "transactions") (number (unsigned c.transactions)) no_members))))
verdict_value (No fault) =
    object (member (codes "answer") (string (codes "no")) (member (codes "fault") (string (fault_text fault)) no_members))
