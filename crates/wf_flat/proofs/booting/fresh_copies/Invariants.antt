use Rattle.std.proofs.Common.{◌≡◌, take, map}
use Rattle.wf_flat.specs.Boot.{fresh_page}
use Rattle.wf_flat.proofs.booting.fresh_copies.Given as goal

abbrev pub invariant-loop-page : goal.invariant-loop-page
invariant-loop-page l = l.copies.items ≡ map fresh_page (take l.page-index l.pages)
