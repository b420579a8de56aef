use Rattle.std.proofs.Common.{◌≡◌, ◌++◌, ◌∷◌, [], ◌∙◌, sym, ap, true, false, get_or}
use Rattle.patch_build.specs.Links.{LinkedValue, linked_of}
use Rattle.patch_build.specs.Sections.{is_loaded}
use Rattle.patch_build.proofs.LinkLemmas.{at-loaded, at-none, empty, linked-more, loaded-in, lt-in, never, no_section, sized-new}
use Rattle.patch_build.proofs.linking.linked_of.Goals as goal
use Rattle.patch_build.proofs.linking.linked_of.Goals.{then-is_loaded+in_ok-link_section+in_ok-push, else-is_loaded+in_ok-push-2}

pub loop-number-preserved : goal.loop-number-preserved
loop-number-preserved c =
    let object = c.args.object.now in
    let places = c.args.places.now in
    let names = c.args.names.now in
    let value = c.sections-section-items.ensures.value in
    let i = c.loop-number.number in
    let old = c.loop-number.sections.items in
    let new = c.if-is_loaded.sections.items in
    let lt = lt-in c.sections-section-items.result.now object.sections i value c.loop-number-test.true in
    elim c.if-is_loaded.branch [
      | then-is_loaded+in_ok-link_section+in_ok-push w ↦
          let l : LinkedValue = w.in_ok-link_section.field-0 in
          let loaded : is_loaded (get_or object.sections i no_section) ≡ true =
          loaded-in c.sections-section-items.result.now object.sections i no_section true value (sym c.is_loaded.ensures ∙ w.if-is_loaded.true) in
          let items : new ≡ old ++ l ∷ [] = ap (λ v. v.items) w.sections-is ∙ w.in_ok-push.ensures.items in
          record {
            linked = linked-more object places names object.sections i no_section old new (linked_of object places names) l lt items
                (at-loaded object places names i (get_or object.sections i no_section) l loaded w.in_ok-link_section.ensures.linked) c.loop-number.invariant.linked;
            sized = sized-new object i no_section old new l lt c.loop-number.invariant.sized items (λ t. w.in_ok-link_section.ensures.sized);
          }
      | else-is_loaded+in_ok-push-2 w ↦
          let l : LinkedValue = empty w.new.result.items in
          let loaded : is_loaded (get_or object.sections i no_section) ≡ false =
          loaded-in c.sections-section-items.result.now object.sections i no_section false value (sym c.is_loaded.ensures ∙ w.if-is_loaded.false) in
          let items : new ≡ old ++ l ∷ [] = ap (λ v. v.items) w.sections-is ∙ w.in_ok-push-2.ensures.items in
          record {
            linked = linked-more object places names object.sections i no_section old new (linked_of object places names) l lt items
                (at-none object places names i (get_or object.sections i no_section) w.new.result.items loaded w.new.ensures.items) c.loop-number.invariant.linked;
            sized = sized-new object i no_section old new l lt c.loop-number.invariant.sized items (λ t. never _ loaded t);
          }
    ]
