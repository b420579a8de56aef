use Rattle.std.proofs.Common.{◌≡◌, ◌<◌, ◌≤◌, ◌*◌, ◌/◌, ◌%◌, ◌^◌, ◌∙◌, ℕ, Bool, true, false, ap, arith}
use Rattle.std.proofs.lemmas.Nat.{and_mask}
use Rattle.std.proofs.lemmas.Nat.Bits.{and_high_mask}
use Rattle.wf_frames.specs.declared.fields.FrameWord.{FrameWord}
use Rattle.wf_frames.specs.FrameWords.{AreFields, bit, word_of}
use Rattle.wf_frames.proofs.laws.frame_words_change.Goals as goal

bit_le : (b : Bool) → bit b ≤ 1
bit_le true = omega arith
bit_le false = omega arith

word_lt : (f : FrameWord) → AreFields f → word_of f < 2 ^ 64
word_lt f h = omega (arith, bit_le f.taken, bit_le f.live, h.writes, h.inc)

halved : (f : FrameWord) → word_of f / 2 ^ 1 * 2 ^ 1 ≡ word_of (record f { taken = false })
halved f = omega (arith, bit_le f.taken)

lowered : (f : FrameWord) → AreFields f → word_of f % 2 ^ 63 ≡ word_of (record f { live = false })
lowered f h = omega (arith, bit_le f.taken, bit_le f.live, h.writes, h.inc)

pub returns-clause-takes : goal.returns-clause-takes
returns-clause-takes c = λ f e. let b : bit f.taken ≡ 0 = ap bit e in omega arith

pub returns-clause-gives_written : goal.returns-clause-gives_written
returns-clause-gives_written c = λ f e. let b : bit f.taken ≡ 1 = ap bit e in omega arith

pub returns-clause-gives : goal.returns-clause-gives
returns-clause-gives c = λ f h. and_high_mask 64 1 (omega arith) (word_of f) (word_lt f h) ∙ halved f

pub returns-clause-ends : goal.returns-clause-ends
returns-clause-ends c = λ f h. and_mask (word_of f) 63 ∙ lowered f h
