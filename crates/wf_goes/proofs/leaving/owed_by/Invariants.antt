use Rattle.std.proofs.Common.{◌≡◌, ◌++◌, drop, map}
use Rattle.std.specs.List.{filter}
use Rattle.wf_legal.specs.Calls.{may_go, owed_by}
use Rattle.wf_goes.proofs.leaving.owed_by.Given as goal

abbrev pub invariant-loop-page : goal.invariant-loop-page
invariant-loop-page l = l.numbers.items ++ map (λ page. page.number) (filter may_go (drop l.page-index l.flat.pages)) ≡ owed_by l.flat
