use Rattle.std.proofs.Common.{◌∙◌, refl}
use Rattle.wf_flat.specs.Changes.{change_page, taken_by}
use Rattle.wf_flat.proofs.ChangeLemmas.{note_alone, change_ordered, change_numbers, change_found}
use Rattle.wf_flat.proofs.state.Flat.take.Goals as goal

pub returns-clause-state : goal.returns-clause-state
returns-clause-state c = c.take_page.ensures ∙ note_alone (change_page c.args.self.now c.args.page (taken_by c.args.hart)) c.args.hart c.args.page c.requires.alone

pub returns-clause-page : goal.returns-clause-page
returns-clause-page c = rw c.take_page.ensures (change_found c.args.self.now c.args.page (taken_by c.args.hart) (λ p. refl))

pub returns-clause-ordered : goal.returns-clause-ordered
returns-clause-ordered c = rw c.take_page.ensures (change_ordered c.args.self.now c.args.page (taken_by c.args.hart) (λ p. refl) c.requires.ordered)

pub returns-clause-numbers : goal.returns-clause-numbers
returns-clause-numbers c = rw c.take_page.ensures (change_numbers c.args.self.now c.args.page (taken_by c.args.hart) (λ p. refl))
