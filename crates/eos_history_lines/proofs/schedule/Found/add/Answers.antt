use Rattle.std.proofs.Common.{◌≡◌, ◌++◌, ◌∷◌, [], false, List, Option, None, Some, is_some, refl, sym, subst, ◌∙◌}
use Rattle.eos_history_lines.specs.declared.line.Line.{Line}
use Rattle.eos_history_lines.specs.declared.line.Tail.{Tail}
use Rattle.eos_history_lines.specs.Files.{SayRows, SaysRow}
use Rattle.eos_history_lines.proofs.FileLines.{one_line, one_tail}
use Rattle.eos_history_lines.proofs.schedule.Found.add.Goals as goal

none_is : (o : Option Tail) → is_some o ≡ false → o ≡ None
none_is None h = refl
none_is (Some t) h = absurd (cc h)

pub returns-in_ok-push-in-Line-clause-ok : goal.returns-in_ok-push-in-Line-clause-ok
returns-in_ok-push-in-Line-clause-ok c = λ texts h.
    let lines = c.args.self.now.lines in
    let text = c.args.text.now in
    let none : c.args.self.now.tail ≡ None = none_is _ (sym c.is_some.ensures ∙ c.if-is_some.false) in
    let before : SayRows texts lines None = subst (λ (o : Option Tail). SayRows texts lines o) none h in
    let after = one_line texts lines text c.in-Line.line before (subst (SaysRow text) c.in-Line.is c.in_ok-line.ensures.ok) in
    let kept = subst (λ (o : Option Tail). SayRows (texts ++ text ∷ []) (lines ++ c.in-Line.line ∷ []) o) (sym none) after in
    subst (λ (ls : List Line). SayRows (texts ++ text ∷ []) ls c.args.self.now.tail) (sym c.in_ok-push-in-Line.ensures.ok) kept

pub returns-in-Tail-clause-ok : goal.returns-in-Tail-clause-ok
returns-in-Tail-clause-ok c = λ texts h.
    let none : c.args.self.now.tail ≡ None = none_is _ (sym c.is_some.ensures ∙ c.if-is_some.false) in
    let before : SayRows texts c.args.self.now.lines None = subst (λ (o : Option Tail). SayRows texts c.args.self.now.lines o) none h in
    one_tail texts c.args.self.now.lines c.args.text.now c.in-Tail.tail before (subst (SaysRow c.args.text.now) c.in-Tail.is c.in_ok-line.ensures.ok)
