use Rattle.std.proofs.Common.{rules}
use Rattle.std.proofs.lemmas.List.Sorted.{answers_always}
use Rattle.wf_outside.specs.Pages.{DataPageValue}
use Rattle.wf_flat.proofs.FoundLemmas.{key_searched, key_missed}
use Rattle.wf_effects.proofs.MappedLemmas.{shared_found, shared_none}
use Rattle.wf_effects.proofs.mapping.shared_words.Goals as goal

pub returns-in-Ok-clause-words : goal.returns-in-Ok-clause-words
returns-in-Ok-clause-words c =
    let found = key_searched (λ (p : DataPageValue). p.number) c.args.shared.now c.args.number c.in-Ok.at c.requires c.in-Ok.ensures.bound
    (c.in-Ok.ensures.position (λ (p : DataPageValue). p.number) (answers_always _ _ _ (λ f a r g h. search rules))) in
    rw (← shared_found c.args.shared.now c.args.number c.in-Ok.at c.index-shared-at.result found c.in-Ok.ensures.bound, ← c.index-shared-at.is) (c.same_words.ensures.words)

pub returns-in-Err-clause-words : goal.returns-in-Err-clause-words
returns-in-Err-clause-words c =
    let missed = key_missed (λ (p : DataPageValue). p.number) c.args.shared.now c.args.number c.in-Err.field-0 c.requires
    (c.in-Err.ensures.position (λ (p : DataPageValue). p.number) (answers_always _ _ _ (λ f a r g h. search rules))) in
    rw (← shared_none c.args.shared.now c.args.number missed) (c.zeros.ensures)
