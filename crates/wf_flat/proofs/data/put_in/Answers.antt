use Rattle.std.proofs.Common.{◌%◌, sym}
use Rattle.wf_flat.specs.State.{PageState}
use Rattle.wf_outside.specs.Pages.{page_of}
use Rattle.wf_flat.specs.Changes.{put_with}
use Rattle.wf_flat.proofs.FoundLemmas.{changed_found, changed_none}
use Rattle.wf_flat.proofs.data.put_in.Goals as goal

pub returns-in-Some : goal.returns-in-Some
returns-in-Some c =
    changed_found (λ (p : PageState). p.number) (put_with (c.args.va % 4096) c.args.width c.args.value) c.args.pages.now (page_of c.args.va) c.in-Some.at c.index-pages-at.result c.put.new.self c.requires.rising c.in-Some.ensures.0 c.in-Some.ensures.1 c.put.ensures

pub returns-in_default : goal.returns-in_default
returns-in_default c = sym (changed_none (λ (p : PageState). p.number) (put_with (c.args.va % 4096) c.args.width c.args.value) c.args.pages.now (page_of c.args.va) c.in_default.ensures)
