-- Each exit has the refusal of its step, and the end the parts in order.
use Rattle.std.proofs.Common.{rules}
use Rattle.eos_evidence.proofs.AcceptedParts.{refused_apps, refused_ends, refused_twice, too_many_apps, too_many_ends, gives_parts, is_accepted}
use Rattle.eos_evidence.proofs.spec.accept.Goals as goal

pub returns-then-not-are_apps_legal : goal.returns-then-not-are_apps_legal
returns-then-not-are_apps_legal c = refused_apps _ (search rules)

pub returns-then-not-are_ends_legal : goal.returns-then-not-are_ends_legal
returns-then-not-are_ends_legal c = refused_ends _ (search rules) (search rules)

pub returns-then-not-put_in_order : goal.returns-then-not-put_in_order
returns-then-not-put_in_order c =
    let twice = rw c.if-not-put_in_order.true at c.put_in_order.ensures in
    refused_twice _ (search rules) (search rules) twice

pub returns-then-apps-gt-MAX_APPS : goal.returns-then-apps-gt-MAX_APPS
returns-then-apps-gt-MAX_APPS c =
    let in_order = rw c.if-not-put_in_order.false at c.put_in_order.ensures in
    too_many_apps _ c.put_in_order.new.ends.items (record { apps = search rules; ends = search rules; in_order = in_order }) (search rules)

pub returns-then-len-gt-MAX_PARTITIONS : goal.returns-then-len-gt-MAX_PARTITIONS
returns-then-len-gt-MAX_PARTITIONS c =
    let in_order = rw c.if-not-put_in_order.false at c.put_in_order.ensures in
    too_many_ends _ c.put_in_order.new.ends.items (record { apps = search rules; ends = search rules; in_order = in_order }) (search rules)

pub returns : goal.returns
returns c =
    let in_order = rw c.if-not-put_in_order.false at c.put_in_order.ensures in (
      gives_parts _ c.put_in_order.new.ends.items (record { apps = search rules; ends = search rules; in_order = in_order }) (search rules) (search rules),
      is_accepted _ c.put_in_order.new.ends.items (record { apps = search rules; ends = search rules; in_order = in_order }) (search rules) (search rules),
    )
