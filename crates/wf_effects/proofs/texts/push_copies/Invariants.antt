use Rattle.std.proofs.Common.{◌≡◌, ◌++◌, take}
use Rattle.wf_effects.proofs.texts.push_copies.Given as goal

abbrev pub invariant-loop-page : goal.invariant-loop-page
invariant-loop-page l = l.text.items ≡ l.fn.text.items ++ take l.page-index l.pages
