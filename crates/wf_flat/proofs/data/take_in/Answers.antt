use Rattle.std.proofs.Common.{sym}
use Rattle.wf_flat.specs.State.{PageState}
use Rattle.wf_flat.specs.Changes.{taken_by}
use Rattle.wf_flat.proofs.FoundLemmas.{changed_found, changed_none}
use Rattle.wf_flat.proofs.data.take_in.Goals as goal

pub returns-in-Some : goal.returns-in-Some
returns-in-Some c =
    changed_found (λ (p : PageState). p.number) (taken_by c.args.hart) c.args.pages.now c.args.number c.in-Some.at c.index-pages-at.result c.take.new.self c.requires c.in-Some.ensures.0 c.in-Some.ensures.1 c.take.ensures

pub returns-in_default : goal.returns-in_default
returns-in_default c = sym (changed_none (λ (p : PageState). p.number) (taken_by c.args.hart) c.args.pages.now c.args.number c.in_default.ensures)
