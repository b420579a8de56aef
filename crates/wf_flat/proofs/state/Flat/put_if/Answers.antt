use Rattle.std.proofs.Common.{◌%◌, refl}
use Rattle.wf_outside.specs.Pages.{page_of}
use Rattle.wf_flat.specs.Changes.{put_with}
use Rattle.wf_flat.proofs.ChangeLemmas.{change_ordered, change_numbers, change_found}
use Rattle.wf_flat.proofs.state.Flat.put_if.Goals as goal

pub returns-clause-page : goal.returns-clause-page
returns-clause-page c =
    rw (c.write_if.ensures, c.put_page.ensures) (change_found c.args.self.now (page_of c.args.va) (put_with (c.args.va % 4096) c.args.width c.args.value) (λ p. refl))

pub returns-clause-ordered : goal.returns-clause-ordered
returns-clause-ordered c =
    let up = change_ordered c.args.self.now (page_of c.args.va) (put_with (c.args.va % 4096) c.args.width c.args.value) (λ p. refl) c.requires.ordered in
    rw (c.write_if.ensures, c.put_page.ensures) (record { pages = up.pages; met = up.met })

pub returns-clause-numbers : goal.returns-clause-numbers
returns-clause-numbers c =
    rw (c.write_if.ensures, c.put_page.ensures) (change_numbers c.args.self.now (page_of c.args.va) (put_with (c.args.va % 4096) c.args.width c.args.value) (λ p. refl))
