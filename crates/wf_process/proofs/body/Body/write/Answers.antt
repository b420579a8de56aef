use Rattle.std.proofs.Common.{sym, subst}
use Rattle.wf_access.specs.Laws.{bytes_at}
use Rattle.wf_access.specs.Stores.{AreInFrame}
use Rattle.wf_process.specs.Bodies.{BodyValue}
use Rattle.wf_process.proofs.WritingLemmas.{in_frame}
use Rattle.wf_process.proofs.body.Body.write.Goals as goal

pub store-requires-clause-place : goal.store-requires-clause-place
store-requires-clause-place c =
    subst (λ (b : BodyValue). AreInFrame b.words (bytes_at c.frame_at.result c.args.write.va c.args.write.width)) (sym c.self.view_is)
    (in_frame c.args.self.now.words c.args.self.now.records c.args.generation c.args.write.va c.args.write.width c.frame_at.result c.requires.there c.frame_at.ensures c.requires.place)
