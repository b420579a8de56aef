use Rattle.std.proofs.Common.{sym}
use Rattle.wf_flat.specs.State.{PageState}
use Rattle.wf_flat.specs.Changes.{given_back}
use Rattle.wf_flat.proofs.FoundLemmas.{changed_found, changed_none}
use Rattle.wf_flat.proofs.data.give_in.Goals as goal

pub returns-in-Some : goal.returns-in-Some
returns-in-Some c =
    changed_found (λ (p : PageState). p.number) (given_back c.args.last_writes c.args.put) c.args.pages.now c.args.number c.in-Some.at c.index-pages-at.result c.give_back.new.self c.requires c.in-Some.ensures.0 c.in-Some.ensures.1 c.give_back.ensures

pub returns-in_default : goal.returns-in_default
returns-in_default c = sym (changed_none (λ (p : PageState). p.number) (given_back c.args.last_writes c.args.put) c.args.pages.now c.args.number c.in_default.ensures)
