-- The members of a line's JSON object under construction.
use Rattle.std.specs.Prelude.{codes}
use Rattle.serde_json.specs.Data.{Members, put}
use Rattle.eos_manifest.specs.Objects.{count}
use Rattle.eos_history_lines.specs.declared.line.Head.{Head}
use Rattle.eos_history_lines.specs.declared.line.Line.{Line}
use Rattle.eos_history_lines.specs.Lines.{with_sizes, with_asked, with_deed}

-- with those of the first line
abbrev pub with_head : Head → Members → Members
with_head h ms = with_asked h (with_sizes h.config (put (codes "schema") (count 1) ms))

-- and with those of what was done
abbrev pub with_line : Line → Members → Members
with_line l ms = with_deed l.deed (put (codes "number") (count l.number) ms)
