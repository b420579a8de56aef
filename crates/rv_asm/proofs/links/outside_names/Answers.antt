use Rattle.std.proofs.Common.{◌≡◌, ◌∷◌, ◌++◌, [], ℕ, Bor, List, sym, ◌∙◌, ap, arith, get_or, map, take}
use Rattle.std.specs.List.{enumerate_from, filter}
use Rattle.rv_asm.specs.Links.{is_first_outside}
use Rattle.rv_asm.specs.Names.{name_values}
use Rattle.rv_asm.proofs.LinkLemmas.{outside_more}
use Rattle.rv_asm.proofs.NameLemmas.{values_length, values_more}
use Rattle.rv_asm.proofs.links.outside_names.Goals as goal

pub loop-place-preserved : goal.loop-place-preserved
loop-place-preserved c =
    let d : Bor (List ℕ) = record { ref_ptr = (0, 0); now = [] } in
    let items = c.deref-name-items.result.now in
    let place = c.loop-place.place in
    let all = name_values items in
    let before = name_values (take place items) in
    let name = (get_or items place d).now in
    let outside = name_values c.loop-place.outside.items in
    let more = name_values c.push_outside.new.outside.items in
    let same : c.deref-in-loop-place.result.now ≡ items = c.deref-in-loop-place.ensures.value ∙ sym c.deref-name-items.ensures.value in
    let pushed : more ≡ outside ++ map (λ p. p.1) (filter (is_first_outside c.args.labels.now all) ((place, name) ∷ [])) =
    c.in_ok-push_outside.ensures ∙ ap (λ (ns : List (Bor (List ℕ))). outside ++ map (λ p. p.1) (filter (is_first_outside c.args.labels.now (name_values ns)) ((place, name) ∷ []))) same in
    outside_more c.args.labels.now all before place name outside more (values_length items place (omega arith)) c.loop-place.invariant pushed
    ∙ ap (λ (ns : List (List ℕ)). map (λ p. p.1) (filter (is_first_outside c.args.labels.now all) (enumerate_from 0 ns))) (sym (values_more items place d c.loop-place-test.true))
