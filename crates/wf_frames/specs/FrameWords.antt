-- The fields of a frame word.
use Rattle.std.specs.Prelude.{◌<◌, ◌+◌, ◌*◌, ◌/◌, ◌%◌, ◌^◌, ◌==◌, ℕ, Bool, if◌then◌else◌}
use Rattle.wf_frames.specs.declared.fields.FrameWord.{FrameWord}

-- a bit as a number
abbrev pub bit : Bool → ℕ
bit b = if b then 1 else 0

-- the frame word with these fields: bit 0 says taken, bits 1 to 39 count the writes, bits 40 to 62
-- are the incarnation, and bit 63 says live
abbrev pub word_of : FrameWord → ℕ
word_of f = bit f.taken + f.writes * 2 ^ 1 + f.inc * 2 ^ 40 + bit f.live * 2 ^ 63

-- the fields of a frame word
abbrev pub fields_of : ℕ → FrameWord
fields_of word = record {
  taken = word % 2 == 1;
  writes = word / 2 ^ 1 % 2 ^ 39;
  inc = word / 2 ^ 40 % 2 ^ 23;
  live = word / 2 ^ 63 == 1;
}

-- the fields fit their bits
pub record AreFields (f : FrameWord) : Type 0 where
  pub writes : f.writes < 2 ^ 39
  pub inc : f.inc < 2 ^ 23
