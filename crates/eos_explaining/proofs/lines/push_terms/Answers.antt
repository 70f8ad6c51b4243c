use Rattle.std.proofs.Common.{arith, rules}
use Rattle.std.proofs.lemmas.Str.Pattern.{split_once_first}
use Rattle.eos_explaining.specs.Lines.{terms_left, terms_text}
use Rattle.eos_explaining.proofs.PartsTold.{one_part, parts_done, parts_end}
use Rattle.eos_explaining.proofs.lines.push_terms.Goals as goal

pub loop-left-preserved : goal.loop-left-preserved
loop-left-preserved c =
    let cut = rw c.in-Some.is at (split_once_first 44 c.loop-left.rest.now c.split_once.result c.split_once.ensures.cases (omega arith)) in (
      one_part (terms_left c.args.line.now) c.loop-left.rest.now c.in-Some.part.now c.in-Some.others.now _ _ _ _ c.loop-left.left (omega arith) cut.0 cut.1 cut.2
          c.in_ok-push_text-2.ensures (rw c.separator.ensures at c.in_ok-push_text-3.ensures) c.loop-left.invariant.0,
      search rules,
    )

pub returns-in_default : goal.returns-in_default
returns-in_default c =
    let none = rw c.in_default.is at (split_once_first 44 c.loop-left.rest.now c.split_once.result c.split_once.ensures.cases (omega arith)) in
    parts_done (terms_left c.args.line.now) c.loop-left.rest.now _ _ _ (terms_text c.args.line.now) c.loop-left.left (omega arith) none c.in_ok-push_text.ensures c.loop-left.invariant.0

pub returns : goal.returns
returns c = parts_end (terms_left c.args.line.now) c.loop-left.rest.now _ _ _ (terms_text c.args.line.now) c.loop-left.left (omega arith) c.in_ok-push_terms_left.ensures c.loop-left.invariant.0
