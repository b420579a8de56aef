use Rattle.std.proofs.Common.{◌≡◌, ◌∙◌, subst}
use Rattle.std.specs.Prelude.{OnSome}
use Rattle.std.specs.List.{remove}
use Rattle.wf_frames.proofs.FindingLemmas.{found_out, not_missed}
use Rattle.wf_frames.proofs.frames.take_out.Goals as goal

pub returns : goal.returns
returns c = record {
  places = λ bs e t.
      subst (λ o. OnSome o (c.remove.new.self.items ≡ remove c.args.free.now.items c.in-Ok.at)) (c.remove.ensures.succeeds 0 c.in-Ok.ensures.bound) c.remove.ensures.items
      ∙ found_out bs c.args.free.now.items c.args.frame c.in-Ok.at e c.in-Ok.ensures.position;
  room = c.remove.ensures.capacity;
}

pub returns-in_default-clause-places : goal.returns-in_default-clause-places
returns-in_default-clause-places c = λ bs e t. absurd (not_missed bs c.args.free.now.items c.args.frame _ e t c.in_default.ensures.position)
