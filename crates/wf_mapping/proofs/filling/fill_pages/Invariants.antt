use Rattle.std.proofs.Common.{◌≡◌, ◌≤◌, ◌-◌, length}
use Rattle.wf_mapping.specs.Plans.{page_filled}
use Rattle.wf_mapping.proofs.MapLemmas.{AreMade}
use Rattle.wf_mapping.proofs.filling.fill_pages.Given as goal

abbrev pub invariant-loop-page : goal.invariant-loop-page
invariant-loop-page l = record {
  pieces : AreMade page_filled l.pages l.page-index l.fn.pieces l.pieces;
  few : length l.pages ≤ l.fn.blanks;
  blanks : l.blanks ≡ l.fn.blanks - l.page-index;
}
