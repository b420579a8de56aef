use Rattle.std.proofs.Common.{sym, ap, ◌∙◌, set, arith}
use Rattle.wf_flat.specs.State.{PageState}
use Rattle.wf_flat.proofs.BootLemmas.{number_step, numbered_all}
use Rattle.wf_flat.proofs.booting.number_pages.Goals as goal

pub loop-i-preserved : goal.loop-i-preserved
loop-i-preserved c =
    let numbered = λ (page : PageState). (let p : PageState = record page { birth = c.loop-i.i } in p) in
    ap (λ (page : PageState). set c.loop-i.pages c.loop-i.i (numbered page)) (c.page.view_is ∙ sym c.index-pages-i.is)
    ∙ number_step c.args.pages.now c.loop-i.pages c.loop-i.i c.index-pages-i.result (omega arith) c.loop-i.invariant c.index-pages-i.is

pub returns : goal.returns
returns c = c.loop-i.invariant ∙ numbered_all c.loop-i.i 0 c.args.pages.now (omega arith)
