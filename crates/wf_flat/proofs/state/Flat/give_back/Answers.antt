use Rattle.std.proofs.Common.{◌∙◌, refl}
use Rattle.wf_flat.specs.Changes.{given_back}
use Rattle.wf_flat.proofs.ChangeLemmas.{given_some, change_ordered, change_numbers}
use Rattle.wf_flat.proofs.state.Flat.give_back.Goals as goal

pub returns-in-Some-clause-ordered : goal.returns-in-Some-clause-ordered
returns-in-Some-clause-ordered c = rw c.give_page.ensures (change_ordered c.args.self.now c.in-Some.page (given_back c.args.self.now.limits.last_writes c.has_put-put.result) (λ p. refl) c.requires.ordered)

pub returns-in-Some-clause-numbers : goal.returns-in-Some-clause-numbers
returns-in-Some-clause-numbers c = rw c.give_page.ensures (change_numbers c.args.self.now c.in-Some.page (given_back c.args.self.now.limits.last_writes c.has_put-put.result) (λ p. refl))

pub returns-in-Some-clause-state : goal.returns-in-Some-clause-state
returns-in-Some-clause-state c =
    c.give_page.ensures ∙ given_some c.args.self.now c.args.hart c.in-Some.page c.has_put-put.result c.requires.alone (rw c.in-Some.is at c.requires.held) c.has_put-put.ensures
