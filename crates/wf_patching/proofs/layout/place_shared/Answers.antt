use Rattle.std.proofs.Common.{◌≡◌, ◌∙◌, ◌++◌, List, [], sym, ap, drop}
use Rattle.std.proofs.lemmas.List.{append-nil}
use Rattle.wf_space.proofs.PushLemmas.{drop_all}
use Rattle.wf_views.specs.declared.pages.PageAt.{PageAt}
use Rattle.wf_patching.specs.Layout.{shared_placed}
use Rattle.wf_patching.proofs.PlacedLemmas.{none_shared}
use Rattle.wf_patching.proofs.layout.place_shared.Goals as goal

pub returns : goal.returns
returns c =
    let none : shared_placed (drop c.loop-i.i c.args.pages.now) (drop c.loop-i.i c.args.frames.now) ≡ [] = ap (shared_placed (drop c.loop-i.i c.args.pages.now)) (drop_all c.args.frames.now c.loop-i.i c.loop-i-test.false) ∙ none_shared (drop c.loop-i.i c.args.pages.now) in
    sym (append-nil c.loop-i.placed.items) ∙ sym (ap (λ (xs : List PageAt). c.loop-i.placed.items ++ xs) none) ∙ c.loop-i.invariant
