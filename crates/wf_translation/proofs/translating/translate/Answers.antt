use Rattle.std.proofs.Common.{subst, ℕ}
use Rattle.wf_translation.specs.Translations.{LeafTold}
use Rattle.wf_translation.proofs.LeafLemmas.{leaf_told, missing_told, past_told, tabled}
use Rattle.wf_translation.proofs.translating.translate.Goals as goal

pub returns-then-va-ge-ADDRESS_END-clause-told : goal.returns-then-va-ge-ADDRESS_END-clause-told
returns-then-va-ge-ADDRESS_END-clause-told c = past_told c.args.words.now c.args.records.now c.args.generation c.args.va c.requires c.if-va-ge-ADDRESS_END.true

pub walk-requires-clause-root : goal.walk-requires-clause-root
walk-requires-clause-root c = (tabled c.args.words.now c.args.records.now c.args.generation c.root_of.result c.requires c.root_of.ensures).0

pub walk-requires-clause-table : goal.walk-requires-clause-table
walk-requires-clause-table c = (tabled c.args.words.now c.args.records.now c.args.generation c.root_of.result c.requires c.root_of.ensures).1

pub returns-in-Leaf-clause-told : goal.returns-in-Leaf-clause-told
returns-in-Leaf-clause-told c =
    leaf_told c.args.words.now c.args.records.now c.args.generation c.root_of.result c.args.va c.in-Leaf.path.items c.in-Leaf.pte c.page_of_leaf.result c.root_of.ensures c.if-va-ge-ADDRESS_END.false c.in-Leaf.ensures.walk.1
    (subst (λ (n : ℕ). LeafTold n c.in-Leaf.pte c.page_of_leaf.result) c.frames.ensures.value c.page_of_leaf.ensures.told)

pub returns-in-Missing-clause-told : goal.returns-in-Missing-clause-told
returns-in-Missing-clause-told c =
    missing_told c.args.words.now c.args.records.now c.args.generation c.root_of.result c.args.va c.in-Missing.level c.root_of.ensures c.if-va-ge-ADDRESS_END.false c.in-Missing.ensures.walk.1
