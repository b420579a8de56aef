use Rattle.std.proofs.Common.{◌∙◌, is_some, sym}
use Rattle.wf_homes.specs.Kept.{text_frame}
use Rattle.wf_mapping.proofs.MissLemmas.{any_found, any_next}
use Rattle.wf_mapping.proofs.refusing.is_text.Goals as goal

pub returns-then-is_text_of : goal.returns-then-is_text_of
returns-then-is_text_of c = any_found (λ view. is_some (text_frame view c.args.page)) c.args.records.now.views.views c.loop-i.i c.at.result.now _ c.at.ensures (sym c.is_text_of.ensures ∙ c.if-is_text_of.true) c.loop-i.invariant

pub loop-i-preserved : goal.loop-i-preserved
loop-i-preserved c = any_next (λ view. is_some (text_frame view c.args.page)) c.args.records.now.views.views c.loop-i.i c.at.result.now _ c.at.ensures (sym c.is_text_of.ensures ∙ c.if-is_text_of.false) c.loop-i.invariant
