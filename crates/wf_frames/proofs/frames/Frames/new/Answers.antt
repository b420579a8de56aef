use Rattle.std.proofs.Common.{rules, ◌≡◌, ◌≤◌, ◌∙◌, ap, sym, subst, refl, replicate, arith}
use Rattle.std.specs.List.{AllByRecursion}
use Rattle.wf_frames.specs.declared.state.Frame.{Frame}
use Rattle.wf_frames.specs.declared.state.FrameState.TheVariants.{Free}
use Rattle.wf_frames.specs.Frames.{free_numbers, new_frames}
use Rattle.wf_frames.proofs.FrameLemmas.{all_free, all_replicate}
use Rattle.wf_frames.proofs.frames.Frames.new.Goals as goal

abbrev first : Frame
first = record { state = Free; incarnation = 0 }

pub invariant_of-result : goal.invariant_of-result
invariant_of-result c =
    let fs : c.in_ok-frames.frames.items ≡ replicate c.limits.inside.frames first = search rules in
    record {
      free_are = c.in_ok-free.ensures.numbers ∙ all_free first 0 c.limits.inside.frames refl ∙ ap free_numbers (sym fs);
      room_is = omega (arith, c.in_ok-free.ensures.room, c.in_ok-frames.ensures.len);
      few = omega (arith, c.limits.invariant.many_frames, c.in_ok-frames.ensures.len);
      births = subst (λ xs. AllByRecursion (λ f. f.incarnation ≤ c.limits.inside.last_birth) xs) (sym fs) (all_replicate _ first c.limits.inside.frames (omega arith));
    }

pub returns-clause-frames : goal.returns-clause-frames
unfolding new_frames
returns-clause-frames c = search rules
