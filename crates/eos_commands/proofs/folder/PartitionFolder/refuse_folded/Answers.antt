use Rattle.std.proofs.Common.{◌≡◌, ℕ, List, pos, get_or, w64, refl, subst, arith, rules, string_bytes}
use Rattle.std.proofs.lemmas.Int.{to_z-of_z}
use mir.Val.{to_z, of_z}
use Rattle.eos_disk.specs.Entries.{MayBeAbsent, MayStand}
use Rattle.eos_commands.proofs.FoldsRefused.{unfolded_next, folded_to}
use Rattle.eos_commands.proofs.folder.PartitionFolder.refuse_folded.Goals as goal

pub loop-base-preserved : goal.loop-base-preserved
loop-base-preserved g c =
    let bases = c.as_slice-base-items.result.now in
    let i = c.loop-base.base-index in
    let holds = g.D.Disk.holds c.args.disk.now in
    let own : c.as_str.result.now ≡ string_bytes c.in_ok-path.path = search rules in
    let free = subst (λ (p : List ℕ). MayBeAbsent (holds p)) own (c.stands.ensures.free c.if-stands.false) in
    unfolded_next holds c.args.out.now c.args.self.now bases i (pos 0) (to_z w64 (of_z w64 (get_or bases i (pos 0)))) (string_bytes c.in_ok-path.path) c.loop-base-test.true
    (grind (arith, to_z-of_z)) c.in_ok-path.ensures free c.loop-base.invariant

pub returns-then-stands-clause-refused : goal.returns-then-stands-clause-refused
returns-then-stands-clause-refused g c =
    let bases = c.as_slice-base-items.result.now in
    let i = c.loop-base.base-index in
    let holds = g.D.Disk.holds c.args.disk.now in
    let own : c.as_str.result.now ≡ string_bytes c.in_ok-path.path = search rules in
    let there = subst (λ (p : List ℕ). MayStand (holds p)) own (c.stands.ensures.there c.if-stands.true) in (
      folded_to holds c.args.out.now c.args.self.now bases i (pos 0) (to_z w64 (of_z w64 (get_or bases i (pos 0)))) (string_bytes c.in_ok-path.path) c.loop-base-test.true
          (grind (arith, to_z-of_z)) c.as_slice-base-items.ensures.value c.in_ok-path.ensures there c.loop-base.invariant,
      refl,
    )
