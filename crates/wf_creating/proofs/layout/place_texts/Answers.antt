use Rattle.std.proofs.Common.{◌≡◌, ◌∙◌, ◌++◌, List, [], sym, ap, drop}
use Rattle.std.proofs.lemmas.List.{append-nil}
use Rattle.wf_space.proofs.PushLemmas.{drop_all}
use Rattle.wf_views.specs.declared.view.TextAt.{TextAt}
use Rattle.wf_creating.specs.Layout.{texts_placed}
use Rattle.wf_creating.proofs.TextLemmas.{none_placed}
use Rattle.wf_creating.proofs.layout.place_texts.Goals as goal

pub returns : goal.returns
returns c =
    let none : texts_placed (drop c.loop-i.i c.args.numbers.now) (drop c.loop-i.i c.args.frames.now) ≡ [] = ap (texts_placed (drop c.loop-i.i c.args.numbers.now)) (drop_all c.args.frames.now c.loop-i.i c.loop-i-test.false) ∙ none_placed (drop c.loop-i.i c.args.numbers.now) in
    sym (append-nil c.loop-i.text.items) ∙ sym (ap (λ (xs : List TextAt). c.loop-i.text.items ++ xs) none) ∙ c.loop-i.invariant
