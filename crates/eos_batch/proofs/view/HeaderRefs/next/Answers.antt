use Rattle.std.proofs.Common.{◌∙◌, sym}
use Rattle.eos_batch.proofs.LentRecords.{next_header, header_stands, no_headers}
use Rattle.eos_batch.proofs.view.HeaderRefs.next.Goals as goal

pub returns-then-self-eq0-clause-none : goal.returns-then-self-eq0-clause-none
returns-then-self-eq0-clause-none c =
    let none = sym c.self.view_is ∙ no_headers c.self.inside.count c.self.inside.rest c.if-self-eq0.true in
    (none, none)

pub invariant_of-self : goal.invariant_of-self
invariant_of-self c =
    (next_header c.self.inside.count c.self.inside.rest c.in-Ok.header c.header_of.new.rest c.self.invariant.0 c.if-self-eq0.false c.self.invariant.1 c.in-Ok.ensures.gives).0

pub unreachable-requires : goal.unreachable-requires
unreachable-requires c =
    header_stands c.self.inside.count c.self.inside.rest c.self.invariant.0 c.in-Err.field-0 c.if-self-eq0.false c.self.invariant.1 c.in-Err.ensures.real c.in-Err.ensures.gives

pub returns-clause-some : goal.returns-clause-some
returns-clause-some c =
    sym c.self.view_is ∙ (next_header c.self.inside.count c.self.inside.rest c.in-Ok.header c.header_of.new.rest c.self.invariant.0 c.if-self-eq0.false c.self.invariant.1 c.in-Ok.ensures.gives).1
