use Rattle.std.proofs.Common.{◌≡◌, drop}
use Rattle.std.specs.List.{fold}
use Rattle.wf_outside.specs.Images.{text_numbers}
use Rattle.wf_effects.specs.Texts.{with_jump}
use Rattle.wf_effects.proofs.texts.put_jumps.Given as goal

abbrev pub invariant-loop-jump : goal.invariant-loop-jump
invariant-loop-jump l = record {
  text : fold with_jump l.text (drop l.jump-index l.jumps) ≡ fold with_jump l.fn.text l.jumps;
  numbers : text_numbers l.text ≡ text_numbers l.fn.text;
}
