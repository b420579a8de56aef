use Rattle.std.proofs.Common.{◌≡◌, ◌≤◌, ◌-◌, length}
use Rattle.wf_mapping.proofs.MapLemmas.{AreMade}
use Rattle.wf_creating.specs.Plans.{table_filled}
use Rattle.wf_creating.proofs.filling.fill_table.Given as goal

abbrev pub invariant-loop-new : goal.invariant-loop-new
invariant-loop-new l = record {
  pieces : AreMade (table_filled l.nodes l.text) l.nodes l.new-index l.fn.pieces l.pieces;
  few : length l.nodes ≤ l.fn.blanks;
  blanks : l.blanks ≡ l.fn.blanks - l.new-index;
}
