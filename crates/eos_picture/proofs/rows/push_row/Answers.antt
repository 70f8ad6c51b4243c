use Rattle.std.proofs.Common.{inl}
use Rattle.std.proofs.lemmas.Result.{on_ok_weaker}
use Rattle.eos_picture.proofs.TrueMarks.{one_row_more}
use Rattle.eos_picture.proofs.WholeRows.{keeps_more, has_more}
use Rattle.eos_picture.proofs.rows.push_row.Goals as goal

pub returns-clause-so : goal.returns-clause-so
returns-clause-so c = λ h. on_ok_weaker c.put.result
    (λ e. one_row_more c.args.scene.logs.now c.args.scene.columns.now c.args.rows.now.items c.put.new.items.items _ c.args.part.now e c.requires c.in_ok-row.ensures.so h) c.put.ensures

pub returns-clause-keeps : goal.returns-clause-keeps
returns-clause-keeps c = on_ok_weaker c.put.result (keeps_more c.args.rows.now.items c.put.new.items.items _) c.put.ensures

pub returns-clause-whole : goal.returns-clause-whole
returns-clause-whole c = on_ok_weaker c.put.result
    (λ e. inl (record { row = _; has = has_more c.args.rows.now.items c.put.new.items.items _ e; of = c.in_ok-row.ensures.so.0; whole = c.in_ok-row.ensures.whole })) c.put.ensures
