use Rattle.std.proofs.Common.{List, Option, refl, subst, rules}
use Rattle.eos_evidence.specs.declared.partition.Partition.{Partition}
use Rattle.eos_sought.specs.declared.folded.Folded.{Folded}
use Rattle.eos_sought.specs.declared.partition.Placed.{Placed}
use Rattle.eos_sought.specs.declared.wanted.Wanted.TheVariants.{Holding}
use Rattle.eos_sought.specs.Folded.{AreFolded}
use Rattle.eos_source.specs.Said.{known_by}
use Rattle.eos_story.specs.Rows.{IsFirst}
use Rattle.eos_explaining.proofs.HeadersRead.{own_none, own_some}
use Rattle.eos_explaining.proofs.headers.headers_of.Goals as goal

pub returns-in-None-clause-are : goal.returns-in-None-clause-are
returns-in-None-clause-are g c =
    let place = c.args.place.now in
    let read = c.read_name.new.read.items in
    let here = subst (λ (fs : List Folded). (ps : List Partition) → AreFolded ps fs → IsFirst ps place.partition (Holding place.offset) c.in_ok-holder_of.field-0) c.as_slice.ensures.value c.in_ok-holder_of.ensures in
    let holder = subst (λ (o : Option Placed). (ps : List Partition) → AreFolded ps read → IsFirst ps place.partition (Holding place.offset) o) c.in-None.is here in
    own_none (known_by (g.S.Source.said c.args.pieces.now.source.now) (g.S.Source.is_log c.args.pieces.now.source.now)) c.args.pieces.now.shape.now read place _ c.in_ok-read_name.ensures.covered holder c.new-in-None.result refl (search rules)

pub returns-in_ok-headers-in-Some-clause-are : goal.returns-in_ok-headers-in-Some-clause-are
returns-in_ok-headers-in-Some-clause-are g c =
    let place = c.args.place.now in
    let read = c.read_name.new.read.items in
    let here = subst (λ (fs : List Folded). (ps : List Partition) → AreFolded ps fs → IsFirst ps place.partition (Holding place.offset) c.in_ok-holder_of.field-0) c.as_slice.ensures.value c.in_ok-holder_of.ensures in
    let holder = subst (λ (o : Option Placed). (ps : List Partition) → AreFolded ps read → IsFirst ps place.partition (Holding place.offset) o) c.in-Some.is here in
    own_some (known_by (g.S.Source.said c.args.pieces.now.source.now) (g.S.Source.is_log c.args.pieces.now.source.now)) c.args.pieces.now.shape.now read place _ c.in_ok-read_name.ensures.covered holder _ c.in-Some.placed refl c.in_ok-headers-in-Some.ensures.are
