use Rattle.std.proofs.Common.{◌≡◌, ◌≤◌, ◌+◌, length, take}
use Rattle.std.specs.List.{suffix_len}
use Rattle.asm_lines.specs.Bytes.{is_blank}
use Rattle.asm_lines.proofs.bytes.trimmed_end.Given as goal

abbrev pub decreases-loop-n : goal.decreases-loop-n
decreases-loop-n l = l.n

abbrev pub invariant-loop-n : goal.invariant-loop-n
invariant-loop-n l = record {
  bound : l.n ≤ length l.text;
  counted : l.n + suffix_len is_blank l.text ≡ length l.text + suffix_len is_blank (take l.n l.text);
}
