use Rattle.std.proofs.Common.{◌≡◌, ◌++◌, drop}
use Rattle.wf_creating.specs.Layout.{texts_placed}
use Rattle.wf_creating.proofs.layout.place_texts.Given as goal

abbrev pub invariant-loop-i : goal.invariant-loop-i
invariant-loop-i l = l.text.items ++ texts_placed (drop l.i l.numbers) (drop l.i l.frames) ≡ texts_placed l.numbers l.frames
