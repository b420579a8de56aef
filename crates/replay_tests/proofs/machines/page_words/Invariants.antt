use Rattle.std.proofs.Common.{◌≡◌, length}
use Rattle.replay_tests.proofs.machines.page_words.Given as goal

abbrev pub invariant-loop-i : goal.invariant-loop-i
invariant-loop-i l = length l.words.items ≡ 512
