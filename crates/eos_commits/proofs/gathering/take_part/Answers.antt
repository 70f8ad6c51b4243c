use Rattle.std.proofs.Common.{◌≡◌, true, not, ◌&&◌, ◌||◌, fold, inl, sym, subst, rules}
use Rattle.eos_commits.specs.declared.shown.Role.{Role}
use Rattle.eos_commits.specs.steps.Gathered.{take_item, Takes}
use Rattle.eos_commits.specs.steps.Lent.{plain_gathering}
use Rattle.eos_commits.proofs.SettledParts.{passed}
use Rattle.eos_commits.proofs.FrontGathered.{stopped_item}
use Rattle.eos_commits.proofs.gathering.take_part.Goals as goal

pub returns-then-is_quiet : goal.returns-then-is_quiet
returns-then-is_quiet c =
    let role = c.role_of-role.result in
    let yes : (not role.is_offsets && (c.args.settled || not role.is_output)) ≡ true = search rules in
    let quiet = subst (λ (r : Role). (not r.is_offsets && (c.args.settled || not r.is_output)) ≡ true) c.role_of-role.ensures yes in
    inl (sym (passed c.args.roles.now c.args.part.now (plain_gathering c.args.gathering.now) c.args.settled quiet c.requires))

pub returns-then-is_enough : goal.returns-then-is_enough
returns-then-is_enough c =
    let part = c.args.part.now in
    let before = plain_gathering c.args.gathering.now in
    let taken = plain_gathering c.take_item.new.gathering in
    let enough = c.is_enough.ensures.yes c.if-is_enough.true in
    let stopped = stopped_item c.args.roles.now.sources part c.role_of-role.result before (plain_gathering c.loop-item.gathering) taken part.items c.loop-item.records c.next.new.self c.in-Some.item c.args.only_first
    c.in-Some.ensures.some c.in_ok-take_item.ensures enough.0 enough.1 c.loop-item.invariant in
    subst (λ (r : Role). Takes c.args.only_first taken (fold (take_item c.args.roles.now.sources part r) before part.items)) c.role_of-role.ensures stopped
