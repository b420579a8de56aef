use Rattle.std.proofs.Common.{◌≡◌, ◌⊎◌, ◌+◌, ◌++◌, ◌∙◌, List, [], ◌∷◌, Err, IfSome, Ok, ap, drop, refl, rules, subst, sym, arith, length, length-append}
use Rattle.std.proofs.lemmas.Result.{err_from_is_err_and}
use Rattle.wf_outside.specs.Images.{DeltaValue}
use Rattle.wf_status.specs.declared.status.Status.TheVariants.{Shelf}
use Rattle.wf_fetch.specs.Stages.{IsReadFault}
use Rattle.wf_patches.specs.Bases.{IsSameBase, base_over, base_with}
use Rattle.wf_patches.specs.Needed.{OfNeeded, OfRead, held_in}
use Rattle.wf_patches.specs.Stages.{patch_stage, patches_stage}
use Rattle.wf_patches.proofs.ReachLemmas.{Fitted, Reached, Rises, begins, ends, fails_so, fit_begins, fit_ends, fit_goes, goes, held_all, held_both, held_map, next_name, none_left, reads_so}
use Rattle.wf_patches.proofs.fetching.fetch_patches.Goals as goal

pub loop-number-init : goal.loop-number-init
loop-number-init g c =
    let none : c.new-deltas.result.items ≡ [] = c.new-deltas.ensures.items in
    let same : IsSameBase c.in-Ok.base (base_over c.args.image.now) = c.in-Ok.ensures in
    record {
      held = held_all (λ files. Reached (held_in files) c.args.image.now c.args.patches.now 0 c.in-Ok.base c.new-deltas.result.items) (g.S.Shelf.holds c.args.shelf.now)
          (λ files. subst (λ (ds : List DeltaValue). Reached (held_in files) c.args.image.now c.args.patches.now 0 c.in-Ok.base ds) (sym none)
          (begins (held_in files) c.args.image.now c.args.patches.now c.in-Ok.base same));
      fits = subst (λ (ds : List DeltaValue). Fitted c.args.image.now c.in-Ok.base ds) (sym none) (fit_begins c.args.image.now c.in-Ok.base same);
      all = ap (λ (ds : List DeltaValue). length ds) none;
      holds = refl;
      counts = λ other. omega arith;
    }

pub returns-in_err-built-clause-cause : goal.returns-in_err-built-clause-cause
returns-in_err-built-clause-cause g c =
    let named : c.bytes.result.now ≡ c.index-patches-number.result = search rules in
    let left = next_name c.args.patches.now c.loop-number.number c.index-patches-number.result c.bytes.result.now c.loop-number-test.true c.index-patches-number.is named in
    let cause : IfSome (g.S.Shelf.holds c.loop-number.shelf) (λ files. IsReadFault c.in_err-built.field-0.0
    ⊎ (patch_stage (held_in files) c.loop-number.number c.loop-number.base c.bytes.result.now ≡ Err c.in_err-built.field-0.0)) = c.in_err-built.ensures.cause in
    let p = err_from_is_err_and c.from_residual.result c.from_residual.ensures.1 in
    rw (p.1 ∙ ap Err p.2)
    (held_both (λ files. Reached (held_in files) c.args.image.now c.args.patches.now c.loop-number.number c.loop-number.base c.loop-number.deltas.items)
    (λ files. IsReadFault c.in_err-built.field-0.0 ⊎ (patch_stage (held_in files) c.loop-number.number c.loop-number.base c.bytes.result.now ≡ Err c.in_err-built.field-0.0))
    (λ files. IsReadFault c.in_err-built.field-0.0 ⊎ (patches_stage (held_in files) c.args.image.now c.args.patches.now ≡ Err c.in_err-built.field-0.0))
    (g.S.Shelf.holds c.args.shelf.now) (g.S.Shelf.holds c.loop-number.shelf) c.loop-number.invariant.holds
    (λ files reached is. fails_so (held_in files) c.args.image.now c.args.patches.now (drop (c.loop-number.number + 1) c.args.patches.now) c.loop-number.number c.loop-number.base c.loop-number.deltas.items
    c.bytes.result.now c.in_err-built.field-0.0 (IsReadFault c.in_err-built.field-0.0) reached left is)
    c.loop-number.invariant.held cause)

pub returns-in_err-built-clause-needed : goal.returns-in_err-built-clause-needed
returns-in_err-built-clause-needed g c told =
    let named : c.bytes.result.now ≡ c.index-patches-number.result = search rules in
    let left = next_name c.args.patches.now c.loop-number.number c.index-patches-number.result c.bytes.result.now c.loop-number-test.true c.index-patches-number.is named in
    let p = err_from_is_err_and c.from_residual.result c.from_residual.ensures.1 in
    let one = p.1 in
    let other = p.2 in
    let shelf : c.in_err-built.field-0.0 ≡ Shelf = cc in
    let read : IfSome (g.S.Shelf.holds c.loop-number.shelf) (λ files. OfRead (held_in files) c.loop-number.number c.bytes.result.now
    (Rises (g.S.Shelf.faults c.loop-number.shelf) (g.S.Shelf.faults c.fetch_patch.new.shelf))) = c.in_err-built.ensures.needed (ap Err shelf) in
    held_both (λ files. Reached (held_in files) c.args.image.now c.args.patches.now c.loop-number.number c.loop-number.base c.loop-number.deltas.items)
    (λ files. OfRead (held_in files) c.loop-number.number c.bytes.result.now (Rises (g.S.Shelf.faults c.loop-number.shelf) (g.S.Shelf.faults c.fetch_patch.new.shelf)))
    (λ files. OfNeeded (held_in files) c.args.image.now c.args.patches.now (Rises (g.S.Shelf.faults c.args.shelf.now) (g.S.Shelf.faults c.fetch_patch.new.shelf)))
    (g.S.Shelf.holds c.args.shelf.now) (g.S.Shelf.holds c.loop-number.shelf) c.loop-number.invariant.holds
    (λ files reached is. reads_so (held_in files) c.args.image.now c.args.patches.now (drop (c.loop-number.number + 1) c.args.patches.now) c.loop-number.number c.loop-number.base c.loop-number.deltas.items
    c.bytes.result.now (g.S.Shelf.faults c.args.shelf.now) (g.S.Shelf.faults c.loop-number.shelf) (g.S.Shelf.faults c.fetch_patch.new.shelf) c.loop-number.invariant.counts reached left is)
    c.loop-number.invariant.held read

pub loop-number-preserved : goal.loop-number-preserved
loop-number-preserved g c =
    let named : c.bytes.result.now ≡ c.index-patches-number.result = search rules in
    let left = next_name c.args.patches.now c.loop-number.number c.index-patches-number.result c.bytes.result.now c.loop-number-test.true c.index-patches-number.is named in
    let found : IfSome (g.S.Shelf.holds c.loop-number.shelf) (λ files. patch_stage (held_in files) c.loop-number.number c.loop-number.base c.bytes.result.now ≡ Ok c.in_ok-built.built) =
    c.in_ok-built.ensures.found in
    let same : IsSameBase c.in-Ok-with.next (base_with c.loop-number.base c.in_ok-built.built) = c.in-Ok-with.ensures.base in
    let brought : c.in-Ok-with.delta ≡ c.in_ok-built.built.delta = c.in-Ok-with.ensures.delta in
    let items : c.push.new.self.items ≡ c.loop-number.deltas.items ++ c.in-Ok-with.delta ∷ [] = search rules in
    let more : c.push.new.self.items ≡ c.loop-number.deltas.items ++ c.in_ok-built.built.delta ∷ [] = items ∙ ap (λ (d : DeltaValue). c.loop-number.deltas.items ++ d ∷ []) brought in
    let count : length c.push.new.self.items ≡ length (c.loop-number.deltas.items ++ c.in_ok-built.built.delta ∷ []) = ap (λ (ds : List DeltaValue). length ds) more in
    let split : length (c.loop-number.deltas.items ++ c.in_ok-built.built.delta ∷ []) ≡ length c.loop-number.deltas.items + 1 = length-append c.loop-number.deltas.items (c.in_ok-built.built.delta ∷ []) in
    record {
      held = subst (λ (ds : List DeltaValue). IfSome (g.S.Shelf.holds c.args.shelf.now) (λ files. Reached (held_in files) c.args.image.now c.args.patches.now (c.loop-number.number + 1) c.in-Ok-with.next ds)) (sym more)
          (held_both (λ files. Reached (held_in files) c.args.image.now c.args.patches.now c.loop-number.number c.loop-number.base c.loop-number.deltas.items)
          (λ files. patch_stage (held_in files) c.loop-number.number c.loop-number.base c.bytes.result.now ≡ Ok c.in_ok-built.built)
          (λ files. Reached (held_in files) c.args.image.now c.args.patches.now (c.loop-number.number + 1) c.in-Ok-with.next (c.loop-number.deltas.items ++ c.in_ok-built.built.delta ∷ []))
          (g.S.Shelf.holds c.args.shelf.now) (g.S.Shelf.holds c.loop-number.shelf) c.loop-number.invariant.holds
          (λ files reached is. goes (held_in files) c.args.image.now c.args.patches.now (drop (c.loop-number.number + 1) c.args.patches.now) c.loop-number.number c.loop-number.base c.in-Ok-with.next
          c.loop-number.deltas.items c.bytes.result.now c.in_ok-built.built reached left refl is same)
          c.loop-number.invariant.held found);
      fits = subst (λ (ds : List DeltaValue). Fitted c.args.image.now c.in-Ok-with.next ds) (sym more)
          (fit_goes c.args.image.now c.loop-number.base c.in-Ok-with.next c.loop-number.deltas.items c.in_ok-built.built c.loop-number.invariant.fits c.in_ok-built.ensures.fits same);
      all = omega (arith, count, split, c.loop-number.invariant.all);
      holds = c.in_ok-built.ensures.holds ∙ c.loop-number.invariant.holds;
      counts = λ other. omega (arith, c.loop-number.invariant.counts other, c.in_ok-built.ensures.counts other);
    }

pub returns-clause-found : goal.returns-clause-found
returns-clause-found g c =
    let none = none_left c.args.patches.now c.loop-number.number (omega arith) in
    held_map (λ files. Reached (held_in files) c.args.image.now c.args.patches.now c.loop-number.number c.loop-number.base c.loop-number.deltas.items)
    (λ files. patches_stage (held_in files) c.args.image.now c.args.patches.now ≡ Ok c.loop-number.deltas.items) (g.S.Shelf.holds c.args.shelf.now)
    (λ files reached. ends (held_in files) c.args.image.now c.args.patches.now c.loop-number.number c.loop-number.base c.loop-number.deltas.items reached none)
    c.loop-number.invariant.held

pub returns-clause-fit : goal.returns-clause-fit
returns-clause-fit g c = fit_ends c.args.image.now c.loop-number.base c.loop-number.deltas.items c.loop-number.invariant.fits
