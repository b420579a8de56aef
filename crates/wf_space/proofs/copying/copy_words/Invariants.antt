use Rattle.std.proofs.Common.{◌≡◌, ℕ, List}
use Rattle.wf_homes.specs.Kept.{HasWords}
use Rattle.wf_space.proofs.FillLemmas.{IsFilledTo}
use Rattle.wf_space.proofs.copying.copy_words.Given as goal

abbrev pub invariant-loop-i : goal.invariant-loop-i
invariant-loop-i l = record {
  same : l.words.frames ≡ l.fn.words.frames;
  copied : (page : List ℕ) → HasWords l.fn.words l.source page → IsFilledTo l.fn.words l.words l.frame page l.i;
}
