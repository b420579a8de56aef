use Rattle.std.proofs.Common.{◌≡◌, drop}
use Rattle.wf_text.specs.Numbers.{number_from, digit_of}
use Rattle.wf_text.proofs.numbers.any_hex_of.Given as goal

abbrev pub invariant-loop-byte : goal.invariant-loop-byte
invariant-loop-byte l = number_from digit_of 16 l.most l.number (drop l.byte-index l.bytes) ≡ number_from digit_of 16 l.most 0 l.bytes
