use Rattle.std.proofs.Common.{rules, sym, ◌%◌}
use Rattle.std.proofs.lemmas.List.Sorted.{answers_always}
use Rattle.wf_outside.specs.Pages.{PageValue, page_of}
use Rattle.wf_flat.proofs.FoundLemmas.{changed_found, changed_none, key_searched, key_missed}
use Rattle.wf_effects.specs.Texts.{page_with}
use Rattle.wf_effects.proofs.texts.put_word.Goals as goal

pub returns-in-Ok : goal.returns-in-Ok
returns-in-Ok c =
    let found = key_searched (λ (p : PageValue). p.number) c.args.text.now (page_of c.args.at) c.in-Ok.place c.requires.rising c.in-Ok.ensures.bound
    (c.in-Ok.ensures.position (λ (p : PageValue). p.number) (answers_always _ _ _ (λ f a r g h. search rules))) in
    changed_found (λ (p : PageValue). p.number) (page_with (c.args.at % 4096) c.args.value) c.args.text.now (page_of c.args.at) c.in-Ok.place c.index-text-place.result _ c.requires.rising c.in-Ok.ensures.bound found c.put_half.ensures

pub returns-in_default : goal.returns-in_default
returns-in_default c =
    sym (changed_none (λ (p : PageValue). p.number) (page_with (c.args.at % 4096) c.args.value) c.args.text.now (page_of c.args.at)
    (key_missed (λ (p : PageValue). p.number) c.args.text.now (page_of c.args.at) c.in_default.field-0 c.requires.rising
    (c.in_default.ensures.position (λ (p : PageValue). p.number) (answers_always _ _ _ (λ f a r g h. search rules)))))
