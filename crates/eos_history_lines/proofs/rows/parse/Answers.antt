use Rattle.eos_history_lines.proofs.rows.parse.Goals as goal

pub returns-else-refused-clause-json : goal.returns-else-refused-clause-json
returns-else-refused-clause-json c = λ _. c.in-Err.ensures.err (λ memory. cc (c.is_memory-refused.ensures.1 memory, c.if-refused.false))

pub returns-else-refused-clause-err : goal.returns-else-refused-clause-err
returns-else-refused-clause-err c = λ _. c.in-Err.ensures.err (λ memory. cc (c.is_memory-refused.ensures.1 memory, c.if-refused.false))
