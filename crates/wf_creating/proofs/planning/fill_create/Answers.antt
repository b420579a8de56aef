use Rattle.std.proofs.Common.{◌≡◌, ◌≤◌, ◌∙◌, List, ap, arith, length}
use Rattle.std.proofs.lemmas.List.{length-map}
use Rattle.wf_views.specs.declared.view.TextAt.{TextAt}
use Rattle.wf_views.specs.Views.{ViewValue}
use Rattle.wf_homes.specs.Kept.{text_page}
use Rattle.wf_mapping.specs.Layout.{free_in}
use Rattle.wf_creating.specs.Layout.{text_at_birth}
use Rattle.wf_creating.specs.Parents.{parent_text, text_numbers_of}
use Rattle.wf_creating.proofs.TextLemmas.{placed_few}
use Rattle.wf_creating.proofs.planning.fill_create.Goals as goal

pub plan_pieces-requires-clause-few : goal.plan_pieces-requires-clause-few
plan_pieces-requires-clause-few c =
    let r = c.args.records.now in
    let parent = c.args.parent in
    let text : c.deref.result.now ≡ text_at_birth r parent = c.deref.ensures.value ∙ ap (λ (view : ViewValue). view.text) (c.view.view_is ∙ c.requires.birth.view) in
    let texts : c.parent_text-texts.result.now ≡ parent_text r parent = c.parent_text-texts.ensures in
    let few : length (text_at_birth r parent) ≤ length (text_numbers_of r parent) = placed_few (text_numbers_of r parent) (free_in r) in
    let n : length (text_numbers_of r parent) ≡ length (parent_text r parent) = length-map (parent_text r parent) text_page in
    let a : length c.deref.result.now ≡ length (text_at_birth r parent) = ap (λ (xs : List TextAt). length xs) text in
    let b : length c.parent_text-texts.result.now ≡ length (parent_text r parent) = ap (λ (xs : List TextAt). length xs) texts in
    omega arith
