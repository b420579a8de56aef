use Rattle.std.proofs.Common.{◌≡◌, drop}
use Rattle.wf_text.specs.Numbers.{number_from, glyph_value}
use Rattle.wf_text.proofs.numbers.number_in.Given as goal

abbrev pub invariant-loop-byte : goal.invariant-loop-byte
invariant-loop-byte l = number_from glyph_value l.base l.most l.number (drop l.byte-index l.bytes) ≡ number_from glyph_value l.base l.most 0 l.bytes
