use Rattle.std.proofs.Common.{◌+◌, ◌∙◌}
use Rattle.wf_frames.specs.Frames.{raised}
use Rattle.wf_frames.proofs.FrameLemmas.{changed_set, changed_same, raised_more, raised_last}
use Rattle.wf_frames.proofs.frames.raise_in.Goals as goal

pub returns-then-frame-last_birth : goal.returns-then-frame-last_birth
returns-then-frame-last_birth c =
    changed_set c.args.frames.now c.args.frame (λ f. record f { incarnation = f.incarnation + 1 }) _ c.requires
    ∙ changed_same c.args.frames.now c.args.frame _ (raised c.args.last_birth) _ c.requires (raised_more c.args.last_birth _ c.if-frame-last_birth.true)

pub returns-else-frame-last_birth : goal.returns-else-frame-last_birth
returns-else-frame-last_birth c =
    changed_set c.args.frames.now c.args.frame (λ f. f) _ c.requires
    ∙ changed_same c.args.frames.now c.args.frame (λ f. f) (raised c.args.last_birth) _ c.requires (raised_last c.args.last_birth _ c.if-frame-last_birth.false)
