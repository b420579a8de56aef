use Rattle.std.proofs.Common.{subst}
use Rattle.wf_tables.specs.Values.{home_value}
use Rattle.wf_tables.specs.Index.{IsIndex}
use Rattle.wf_tables.proofs.IndexLemmas.{map_more}
use Rattle.wf_tables.proofs.index.index_of.Goals as goal

pub loop-home-preserved : goal.loop-home-preserved
loop-home-preserved c =
    subst (IsIndex c.note_home.new.index) (map_more home_value c.args.homes.now c.loop-home.home-index _ c.loop-home-test.true)
    (c.in_ok-note_home.ensures _ c.loop-home.invariant)
