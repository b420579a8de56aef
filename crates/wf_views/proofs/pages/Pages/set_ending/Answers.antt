use Rattle.std.proofs.Common.{refl, false}
use Rattle.wf_views.specs.declared.pages.PageAt.{PageAt}
use Rattle.wf_views.specs.Pages.{made_ending}
use Rattle.wf_views.proofs.PageLemmas.{page_set, rising_changed, none_changed}
use Rattle.wf_views.proofs.pages.Pages.set_ending.Goals as goal

abbrev none : PageAt
none = record { page = 0; write = false; frame = 0; going = false; ending = false }

pub invariant_of-self : goal.invariant_of-self
invariant_of-self c =
    let f = rw c.as_slice.ensures.value at c.in-Ok.ensures.found in
    let k = rw c.as_slice.ensures.value at (c.in-Ok.ensures.with none) in
    rising_changed c.args.self.now c.set.new.self c.args.page made_ending (λ p. refl) c.as_slice.ensures.rising
    (page_set c.args.self.now c.self.inside.pages c.set.new.self c.as_slice-in-Ok.result.now c.args.page c.in-Ok.at made_ending none c.self.view_is c.as_slice-in-Ok.ensures.value c.as_slice.ensures.rising f.0 k c.set.ensures)

pub returns-in-Ok : goal.returns-in-Ok
returns-in-Ok c =
    let f = rw c.as_slice.ensures.value at c.in-Ok.ensures.found in
    let k = rw c.as_slice.ensures.value at (c.in-Ok.ensures.with none) in
    page_set c.args.self.now c.self.inside.pages c.set.new.self c.as_slice-in-Ok.result.now c.args.page c.in-Ok.at made_ending none c.self.view_is c.as_slice-in-Ok.ensures.value c.as_slice.ensures.rising f.0 k c.set.ensures

pub returns-in_default : goal.returns-in_default
returns-in_default c = none_changed c.args.self.now c.as_slice.result.now c.args.page made_ending c.as_slice.ensures.value c.in_default.ensures.found.1
