use Rattle.std.proofs.Common.{◌≡◌, ◌∙◌, subst}
use Rattle.std.specs.Prelude.{OnOk}
use Rattle.std.specs.List.{insert}
use Rattle.wf_frames.proofs.FindingLemmas.{found_in, not_found}
use Rattle.wf_frames.proofs.frames.put_in.Goals as goal

pub returns : goal.returns
returns c = record {
  places = λ bs e h f.
      subst (λ r. OnOk r (c.insert.new.self.items ≡ insert c.args.free.now.items c.in-Err.at c.args.frame)) c.unwrap.ensures c.insert.ensures.items
      ∙ found_in bs c.args.free.now.items c.args.frame c.in-Err.at e h f c.in-Err.ensures.position;
  room = c.insert.ensures.capacity;
}

pub returns-in_default-clause-places : goal.returns-in_default-clause-places
returns-in_default-clause-places c = λ bs e h f. absurd (not_found bs c.args.free.now.items c.args.frame _ e f c.in_default.ensures.position)
