use Rattle.std.proofs.Common.{◌≡◌, ◌∙◌, length, arith}
use Rattle.std.proofs.lemmas.List.{with_items_is}
use Rattle.wf_frames.proofs.FrameLemmas.{AreFrames-raised}
use Rattle.wf_frames.proofs.frames.Frames.raise.Goals as goal

pub invariant_of-self : goal.invariant_of-self
invariant_of-self c =
    let len : length c.raise_in.new.frames ≡ c.self.inside.frames.len = omega arith in
    let e = with_items_is c.self.inside.frames c.raise_in.new.frames len ∙ (rw c.deref_mut.ensures.value at c.raise_in.ensures) in
    AreFrames-raised c.self.inside.frames.items _ _ _ _ c.args.frame c.self.invariant e
