use Rattle.std.proofs.Common.{◌++◌, codes, length}
use Rattle.std.proofs.lemmas.Bool.{ne_eqb}
use Rattle.std.specs.Fmt.{decimal}
use Rattle.eos_text.specs.Adding.{Adds}
use Rattle.eos_text.proofs.Appended.{then}
use Rattle.eos_explaining.proofs.rows.push_bytes.Goals as goal

pub returns-then-bytes-width : goal.returns-then-bytes-width
returns-then-bytes-width c =
    let bytes = c.args.bytes.now in
    let whole : Adds _ _ ((codes " has bytes=" ++ decimal (length bytes)) ++ (codes ", not " ++ decimal c.args.width)) = then c.in_ok-push_value.ensures c.in_ok-push_value-2.ensures in
    rw (ne_eqb c.args.width 0 c.if-width-eq0.false, ne_eqb (length bytes) c.args.width c.if-bytes-width.true) whole
