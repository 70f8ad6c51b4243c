use Rattle.std.proofs.Common.{◌+◌, ◌∙◌, Some, drop, get_or, pos, ap, sym, w32, rules}
use Rattle.std.proofs.lemmas.Int.{to_z-of_z}
use mir.Val.{SFits}
use Rattle.eos_reading.specs.declared.epoch.EpochEntry.{EpochEntry}
use Rattle.eos_notes.specs.ReplicaNotes.{is_fall, falls_at}
use Rattle.eos_notes.proofs.EpochFalls.{falls_here, falls_later, falls_never}
use Rattle.eos_notes.proofs.replicas.falls_at.Goals as goal

pub loop-entry-preserved : goal.loop-entry-preserved
loop-entry-preserved c =
    let es = c.args.entries.now in
    let i = c.loop-entry.entry-index in
    let blank : EpochEntry = record { epoch = pos 0; start_offset = 0 } in
    let x : EpochEntry = get_or es i blank in
    let fits : SFits w32 x.epoch = search rules in
    let same = to_z-of_z w32 x.epoch fits in
    let held = sym (c.is_fall.ensures ∙ ap (is_fall c.loop-entry.last) same) ∙ c.if-is_fall.false in
    ap (λ e. falls_at (Some e) (drop (i + 1) es)) same ∙ falls_later c.loop-entry.last es i blank _ c.loop-entry-test.true held c.loop-entry.invariant

pub returns-then-is_fall : goal.returns-then-is_fall
returns-then-is_fall c =
    let es = c.args.entries.now in
    let i = c.loop-entry.entry-index in
    let blank : EpochEntry = record { epoch = pos 0; start_offset = 0 } in
    let x : EpochEntry = get_or es i blank in
    let fits : SFits w32 x.epoch = search rules in
    let same = to_z-of_z w32 x.epoch fits in
    falls_here c.loop-entry.last es i blank _ c.loop-entry-test.true (sym (c.is_fall.ensures ∙ ap (is_fall c.loop-entry.last) same) ∙ c.if-is_fall.true) c.loop-entry.invariant

pub returns : goal.returns
returns c = falls_never c.loop-entry.last c.args.entries.now c.loop-entry.entry-index _ c.loop-entry-test.false c.loop-entry.invariant
