use Rattle.std.proofs.Common.{Some, ◌/◌, ◌∙◌, refl, sym, subst, ap, arith}
use Rattle.wf_views.specs.declared.records.Records.{Records}
use Rattle.wf_views.specs.Pages.{page_at}
use Rattle.wf_process.specs.declared.finding.Found.{Found}
use Rattle.wf_process.specs.Finding.{FoundIsRight}
use Rattle.wf_process.proofs.FindLemmas.{far_found, frame_low, leaf_found, nothing_found, record_found}
use Rattle.wf_process.proofs.finding.found_at.Goals as goal

pub returns-then-va-ge-ADDRESS_END : goal.returns-then-va-ge-ADDRESS_END
returns-then-va-ge-ADDRESS_END c = far_found c.args.words.now c.args.records.now c.args.generation c.args.va (omega (arith, c.if-va-ge-ADDRESS_END.true))

pub found_in-requires-in-Some : goal.found_in-requires-in-Some
found_in-requires-in-Some c = frame_low c.args.words.now c.args.records.now c.args.generation _ c.in-Some.unmet c.requires (sym (ap (λ (r : Records). page_at r.pages (c.args.va / 4096)) c.records.view_is) ∙ sym c.find.ensures ∙ c.in-Some.is)

pub returns-in-Data : goal.returns-in-Data
returns-in-Data c =
    subst (λ (f : Found). FoundIsRight c.args.words.now c.args.records.now c.args.generation c.args.va (Some f)) (sym c.found_in.ensures)
    (leaf_found c.args.words.now c.args.records.now c.args.generation c.args.va _ _ c.in-Data.frame c.in-Data.write refl (ap (λ (r : Records). r.limits.last_writes) c.records.view_is) c.in-Data.ensures.told)

pub returns-in-Some : goal.returns-in-Some
returns-in-Some c =
    subst (λ (f : Found). FoundIsRight c.args.words.now c.args.records.now c.args.generation c.args.va (Some f)) (sym c.found_in-in-Some.ensures)
    (record_found c.args.words.now c.args.records.now c.args.generation c.args.va _ _ c.in-Some.unmet refl (ap (λ (r : Records). r.limits.last_writes) c.records.view_is) (sym (ap (λ (r : Records). page_at r.pages (c.args.va / 4096)) c.records.view_is) ∙ sym c.find.ensures ∙ c.in-Some.is) c.in-Missing.ensures.told)

pub returns-in-None : goal.returns-in-None
returns-in-None c =
    nothing_found c.args.words.now c.args.records.now c.args.generation c.args.va _ refl (sym (ap (λ (r : Records). page_at r.pages (c.args.va / 4096)) c.records.view_is) ∙ sym c.find.ensures ∙ c.in-None.is)
