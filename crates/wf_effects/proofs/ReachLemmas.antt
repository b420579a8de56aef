-- Generations that reach more places, one after another.
use Rattle.std.proofs.Common.{◌≡◌, ◌<◌, ◌+◌, ℕ, zero, suc, List, [], ◌∷◌, length, get_or, set, map, refl, sym, ap, ◌∙◌, arith}
use Rattle.wf_flat.specs.State.{GenState}
use Rattle.wf_effects.specs.Effects.{new_reach, reaching}
use Rattle.wf_effects.proofs.FrontLemmas.{changed_to, changed_more, next_old, length-changed_to}

mapped_at : (numbers : List ℕ) (gens : List GenState) (i : ℕ) (d : GenState) (r : List ℕ) → i < length gens → get_or (map (new_reach numbers) gens) i r ≡ new_reach numbers (get_or gens i d)
mapped_at numbers [] i d r h = absurd (omega arith)
mapped_at numbers (gen ∷ gens) zero d r h = refl
mapped_at numbers (gen ∷ gens) (suc i) d r h = mapped_at numbers gens i d r (omega arith)

-- one more does
pub reach_next : (numbers : List ℕ) (i : ℕ) (gens now : List GenState) (reaches left : List (List ℕ)) (d new : GenState) (r : List ℕ) → i < length now → now ≡ changed_to (reaching numbers) i gens → reaches ≡ map (new_reach numbers) gens
    → get_or left i r ≡ get_or reaches i r → new ≡ record (get_or now i d) { reach = get_or left i r } → set now i new ≡ changed_to (reaching numbers) (i + 1) gens
reach_next numbers i gens now reaches left d new r h e all at is =
    let lt : i < length gens = omega (arith, h, ap length e, length-changed_to (reaching numbers) i gens) in
    let same : get_or now i d ≡ get_or gens i d = ap (λ (xs : List GenState). get_or xs i d) e ∙ next_old (reaching numbers) i gens d lt in
    let r_is : get_or left i r ≡ new_reach numbers (get_or now i d) = at ∙ ap (λ (rs : List (List ℕ)). get_or rs i r) all ∙ mapped_at numbers gens i d r lt ∙ sym (ap (new_reach numbers) same) in
    changed_more (reaching numbers) i gens now d new h e (is ∙ ap (λ (reach : List ℕ). (let g : GenState = record (get_or now i d) { reach = reach } in g)) r_is)
