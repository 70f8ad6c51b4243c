use Rattle.std.proofs.Common.{w32, rules}
use Rattle.std.proofs.lemmas.Int.{to_z-of_z}
use mir.Val.{SFits}
use Rattle.eos_reading.proofs.SealTexts.{epoch_unread, checksum_unread, seal_read}
use Rattle.eos_reading.proofs.seals.read_seal.Goals as goal

pub returns-in_default : goal.returns-in_default
returns-in_default c = epoch_unread c.args.offset c.args.at c.args.bytes.now _ _ _ c.starting_at.ensures c.i32.ensures c.in_default.is

pub returns-in_default-u32 : goal.returns-in_default-u32
returns-in_default-u32 c =
    checksum_unread c.args.offset c.args.at c.args.bytes.now _ _ _ _ _ _ c.in-Some.leader_epoch c.starting_at.ensures c.i32.ensures c.in-Some.is c.starting_at-2.ensures c.u32.ensures c.in_default-u32.is

pub returns : goal.returns
returns c =
    let fits : SFits w32 c.in-Some.leader_epoch = search rules in
    seal_read c.args.offset c.args.at c.args.bytes.now _ _ _ _ _ _ c.in-Some.leader_epoch _ c.in-Some-u32.checksum c.starting_at.ensures c.i32.ensures c.in-Some.is c.starting_at-2.ensures c.u32.ensures c.in-Some-u32.is
    (to_z-of_z w32 c.in-Some.leader_epoch fits)
