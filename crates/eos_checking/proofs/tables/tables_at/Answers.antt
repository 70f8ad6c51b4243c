use Rattle.eos_source.specs.Said.{known_by}
use Rattle.eos_checking.proofs.TablesRead.{tables_more}
use Rattle.eos_checking.proofs.tables.tables_at.Goals as goal

pub loop-begin-preserved : goal.loop-begin-preserved
loop-begin-preserved g c =
    let source = c.args.pieces.now.source.now in
    record {
      within = c.end_of_name-end.ensures.within;
      are = tables_more (known_by (g.S.Source.said source) (g.S.Source.is_log source)) c.args.pieces.now.shape.now.partitions c.loop-begin.tables.items c.push.new.self.items _ c.loop-begin.invariant.are
          c.in_ok-table_of.ensures c.in_ok-push.ensures.items;
    }
