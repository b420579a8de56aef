use Rattle.std.proofs.Common.{◌≡◌, drop}
use Rattle.wf_text.specs.Lines.{are_graphic}
use Rattle.wf_text.proofs.names.are_graphic.Given as goal

abbrev pub invariant-loop-byte : goal.invariant-loop-byte
invariant-loop-byte l = are_graphic (drop l.byte-index l.word) ≡ are_graphic l.word
