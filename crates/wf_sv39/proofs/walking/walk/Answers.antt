use Rattle.std.proofs.Common.{rules, ◌∙◌, sym}
use Rattle.wf_sv39.proofs.WalkLemmas.{descends, fits, missing_1, missing_0, leaf_found, one_walk}
use Rattle.wf_sv39.proofs.walking.walk.Goals as goal

pub overflow_cast-frame_of : goal.overflow_cast-frame_of
overflow_cast-frame_of c =
    let d = descends c.args.words.now 1 c.args.root c.args.va _ c.frame_of.result c.requires.table c.entry_at-first.ensures.few c.entry_at-first.ensures.value c.if-first-eq0.false c.frame_of.ensures in
    let lt = fits _ _ _ _ _ d c.entry_at-first.ensures.few in search rules

pub returns-then-second-eq0-clause-walk : goal.returns-then-second-eq0-clause-walk
returns-then-second-eq0-clause-walk c =
    let d = descends c.args.words.now 1 c.args.root c.args.va _ c.frame_of.result c.requires.table c.entry_at-first.ensures.few c.entry_at-first.ensures.value c.if-first-eq0.false c.frame_of.ensures in
    missing_1 _ _ _ _ _ (sym c.is_far.ensures ∙ c.if-is_far.false) d c.entry_at-second.ensures.value c.if-second-eq0.true

pub returns-then-second-eq0-clause-only : goal.returns-then-second-eq0-clause-only
returns-then-second-eq0-clause-only c = λ other w.
    let d = descends c.args.words.now 1 c.args.root c.args.va _ c.frame_of.result c.requires.table c.entry_at-first.ensures.few c.entry_at-first.ensures.value c.if-first-eq0.false c.frame_of.ensures in
    one_walk c.args.words.now c.args.root c.args.va other _ w (missing_1 _ _ _ _ _ (sym c.is_far.ensures ∙ c.if-is_far.false) d c.entry_at-second.ensures.value c.if-second-eq0.true)

pub overflow_cast-frame_of-2 : goal.overflow_cast-frame_of-2
overflow_cast-frame_of-2 c =
    let d = descends c.args.words.now 1 c.args.root c.args.va _ c.frame_of.result c.requires.table c.entry_at-first.ensures.few c.entry_at-first.ensures.value c.if-first-eq0.false c.frame_of.ensures in
    let h = descends c.args.words.now 0 c.frame_of.result c.args.va _ c.frame_of-2.result d.table c.entry_at-first.ensures.few c.entry_at-second.ensures.value c.if-second-eq0.false c.frame_of-2.ensures in
    let lt = fits _ _ _ _ _ h c.entry_at-first.ensures.few in search rules

pub returns-then-leaf-eq0-clause-walk : goal.returns-then-leaf-eq0-clause-walk
returns-then-leaf-eq0-clause-walk c =
    let d = descends c.args.words.now 1 c.args.root c.args.va _ c.frame_of.result c.requires.table c.entry_at-first.ensures.few c.entry_at-first.ensures.value c.if-first-eq0.false c.frame_of.ensures in
    let h = descends c.args.words.now 0 c.frame_of.result c.args.va _ c.frame_of-2.result d.table c.entry_at-first.ensures.few c.entry_at-second.ensures.value c.if-second-eq0.false c.frame_of-2.ensures in
    missing_0 _ _ _ _ _ _ (sym c.is_far.ensures ∙ c.if-is_far.false) d h c.entry_at-leaf.ensures.value c.if-leaf-eq0.true

pub returns-then-leaf-eq0-clause-only : goal.returns-then-leaf-eq0-clause-only
returns-then-leaf-eq0-clause-only c = λ other w.
    let d = descends c.args.words.now 1 c.args.root c.args.va _ c.frame_of.result c.requires.table c.entry_at-first.ensures.few c.entry_at-first.ensures.value c.if-first-eq0.false c.frame_of.ensures in
    let h = descends c.args.words.now 0 c.frame_of.result c.args.va _ c.frame_of-2.result d.table c.entry_at-first.ensures.few c.entry_at-second.ensures.value c.if-second-eq0.false c.frame_of-2.ensures in
    one_walk c.args.words.now c.args.root c.args.va other _ w (missing_0 _ _ _ _ _ _ (sym c.is_far.ensures ∙ c.if-is_far.false) d h c.entry_at-leaf.ensures.value c.if-leaf-eq0.true)

pub returns-clause-walk : goal.returns-clause-walk
returns-clause-walk c =
    let d = descends c.args.words.now 1 c.args.root c.args.va _ c.frame_of.result c.requires.table c.entry_at-first.ensures.few c.entry_at-first.ensures.value c.if-first-eq0.false c.frame_of.ensures in
    let h = descends c.args.words.now 0 c.frame_of.result c.args.va _ c.frame_of-2.result d.table c.entry_at-first.ensures.few c.entry_at-second.ensures.value c.if-second-eq0.false c.frame_of-2.ensures in
    leaf_found _ _ _ _ _ _ _ _ c.path_of.result (sym c.is_far.ensures ∙ c.if-is_far.false) d h c.entry_at-first.ensures.value c.entry_at-second.ensures.value c.entry_at-leaf.ensures.value c.if-leaf-eq0.false c.path_of.ensures

pub returns-clause-only : goal.returns-clause-only
returns-clause-only c = λ other w.
    let d = descends c.args.words.now 1 c.args.root c.args.va _ c.frame_of.result c.requires.table c.entry_at-first.ensures.few c.entry_at-first.ensures.value c.if-first-eq0.false c.frame_of.ensures in
    let h = descends c.args.words.now 0 c.frame_of.result c.args.va _ c.frame_of-2.result d.table c.entry_at-first.ensures.few c.entry_at-second.ensures.value c.if-second-eq0.false c.frame_of-2.ensures in
    one_walk c.args.words.now c.args.root c.args.va other _ w (leaf_found _ _ _ _ _ _ _ _ c.path_of.result (sym c.is_far.ensures ∙ c.if-is_far.false) d h c.entry_at-first.ensures.value c.entry_at-second.ensures.value c.entry_at-leaf.ensures.value c.if-leaf-eq0.false c.path_of.ensures)
