use Rattle.std.proofs.Common.{◌≡◌, subst, sym, rules}
use Rattle.eos_source.specs.Said.{known_by}
use Rattle.eos_source_check.specs.Listed.{IsListOf, BeginsAsFound}
use Rattle.eos_source_check.proofs.listed.all_source_faults.Goals as goal

pub returns-clause-ok : goal.returns-clause-ok
returns-clause-ok g c =
    let told = c.in_ok-all_faults.ensures.ok in
    let is = told.taken in
    let all : c.all_faults.new.sink.items ≡ told.list = search (rules, is) in
    subst (IsListOf (known_by (g.S.Source.said c.args.pieces.now.source.now) (g.S.Source.is_log c.args.pieces.now.source.now)) c.args.pieces.now.shape.now c.args.logs.now) (sym all) told.holds.0

pub returns-clause-first : goal.returns-clause-first
returns-clause-first g c =
    let told = c.in_ok-all_faults.ensures.ok in
    let is = told.taken in
    let all : c.all_faults.new.sink.items ≡ told.list = search (rules, is) in
    subst (BeginsAsFound c.args.pieces.now.shape.now c.args.logs.now) (sym all) told.holds.1
