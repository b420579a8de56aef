-- Generations that reach given places, one after another.
use Rattle.std.proofs.Common.{◌≡◌, ◌<◌, ◌≤◌, ◌+◌, ◌++◌, ℕ, zero, suc, List, [], ◌∷◌, length, get_or, set, take, map, refl, sym, ap, ◌∙◌, add-one, arith}
use Rattle.wf_flat.specs.State.{GenState}
use Rattle.wf_effects.specs.Effects.{reaching}
use Rattle.wf_request.specs.Requesting.{reaching_only}

-- the places that each generation reaches
abbrev pub all_reaches : List GenState → List (List ℕ)
all_reaches gens = map (λ (gen : GenState). gen.reach) gens

-- the first so many do
abbrev pub reached_to : ℕ → List (List ℕ) → List GenState → List GenState
reached_to zero reaches gens = gens
reached_to (suc i) [] gens = gens
reached_to (suc i) (reach ∷ reaches) [] = []
reached_to (suc i) (reach ∷ reaches) (gen ∷ gens) = record gen { reach = reach } ∷ reached_to i reaches gens

length-reached : (i : ℕ) (reaches : List (List ℕ)) (gens : List GenState) → length (reached_to i reaches gens) ≡ length gens
length-reached zero reaches gens = refl
length-reached (suc i) [] gens = refl
length-reached (suc i) (reach ∷ reaches) [] = refl
length-reached (suc i) (reach ∷ reaches) (gen ∷ gens) = ap suc (length-reached i reaches gens)

next_same : (i : ℕ) (reaches : List (List ℕ)) (gens : List GenState) (d : GenState) → i < length gens → get_or (reached_to i reaches gens) i d ≡ get_or gens i d
next_same zero reaches gens d h = refl
next_same (suc i) [] gens d h = refl
next_same (suc i) (reach ∷ reaches) [] d h = absurd (omega arith)
next_same (suc i) (reach ∷ reaches) (gen ∷ gens) d h = next_same i reaches gens d (omega arith)

one_more : (i : ℕ) (reaches : List (List ℕ)) (gens : List GenState) (d : GenState) (r : List ℕ) → i < length gens → i < length reaches → set (reached_to i reaches gens) i (record (get_or gens i d) { reach = get_or reaches i r }) ≡ reached_to (suc i) reaches gens
one_more i [] gens d r h k = absurd (omega arith)
one_more i (reach ∷ reaches) [] d r h k = absurd (omega arith)
one_more zero (reach ∷ reaches) (gen ∷ gens) d r h k = refl
one_more (suc i) (reach ∷ reaches) (gen ∷ gens) d r h k = ap (λ (rest : List GenState). record gen { reach = reach } ∷ rest) (one_more i reaches gens d r (omega arith) (omega arith))

-- one more does
pub reached_more : (i : ℕ) (reaches left : List (List ℕ)) (gens now : List GenState) (d new : GenState) (r : List ℕ) → i < length now → length reaches ≡ length gens → now ≡ reached_to i reaches gens → get_or left i r ≡ get_or reaches i r
    → new ≡ record (get_or now i d) { reach = get_or left i r } → set now i new ≡ reached_to (i + 1) reaches gens
reached_more i reaches left gens now d new r h len e at is =
    let lt : i < length gens = omega (arith, h, ap length e, length-reached i reaches gens) in
    let more : i < length reaches = omega arith in
    let same : get_or now i d ≡ get_or gens i d = ap (λ (xs : List GenState). get_or xs i d) e ∙ next_same i reaches gens d lt in
    let new_is : new ≡ record (get_or gens i d) { reach = get_or reaches i r } = is ∙ ap (λ (g : GenState). (let k : GenState = record g { reach = get_or left i r } in k)) same ∙ ap (λ (ns : List ℕ). (let k : GenState = record (get_or gens i d) { reach = ns } in k)) at in
    ap (λ (xs : List GenState). set xs i new) e ∙ ap (λ (g : GenState). set (reached_to i reaches gens) i g) new_is
    ∙ one_more i reaches gens d r lt more ∙ ap (λ (k : ℕ). reached_to k reaches gens) (sym (add-one i))

-- all do
pub reached_all : (i : ℕ) (reaches : List (List ℕ)) (gens : List GenState) → length gens ≤ i → reached_to i reaches gens ≡ reaching_only reaches gens
reached_all zero [] gens h = refl
reached_all zero (reach ∷ reaches) [] h = refl
reached_all zero (reach ∷ reaches) (gen ∷ gens) h = absurd (omega arith)
reached_all (suc i) [] gens h = refl
reached_all (suc i) (reach ∷ reaches) [] h = refl
reached_all (suc i) (reach ∷ reaches) (gen ∷ gens) h = ap (λ (rest : List GenState). record gen { reach = reach } ∷ rest) (reached_all i reaches gens (omega arith))

-- those that reach their own are the same
pub reaching_own : (gens : List GenState) → reaching_only (all_reaches gens) gens ≡ gens
reaching_own [] = refl
reaching_own (gen ∷ gens) = ap (λ (rest : List GenState). gen ∷ rest) (reaching_own gens)

-- what they reached before does not matter
pub reaching_again : (reaches : List (List ℕ)) (pages : List ℕ) (gens : List GenState) → length gens ≤ length reaches → reaching_only reaches (map (reaching pages) gens) ≡ reaching_only reaches gens
reaching_again [] pages [] h = refl
reaching_again [] pages (gen ∷ gens) h = absurd (omega arith)
reaching_again (reach ∷ reaches) pages [] h = refl
reaching_again (reach ∷ reaches) pages (gen ∷ gens) h = ap (λ (rest : List GenState). record gen { reach = reach } ∷ rest) (reaching_again reaches pages gens (omega arith))

one_behind : (gens : List GenState) (i : ℕ) (d : GenState) → i < length gens → all_reaches (take i gens) ++ (get_or gens i d).reach ∷ [] ≡ all_reaches (take (suc i) gens)
one_behind [] i d h = absurd (omega arith)
one_behind (gen ∷ gens) zero d h = refl
one_behind (gen ∷ gens) (suc i) d h = ap (λ (rest : List (List ℕ)). gen.reach ∷ rest) (one_behind gens i d (omega arith))

-- those of one generation more
pub reaches_more : (gens : List GenState) (i : ℕ) (d : GenState) (front now : List (List ℕ)) (reach : List ℕ) → i < length gens → front ≡ all_reaches (take i gens) → reach ≡ (get_or gens i d).reach → now ≡ front ++ reach ∷ [] → now ≡ all_reaches (take (i + 1) gens)
reaches_more gens i d front now reach h e is written =
    written ∙ ap (λ (rs : List (List ℕ)). rs ++ reach ∷ []) e ∙ ap (λ (r : List ℕ). all_reaches (take i gens) ++ r ∷ []) is
    ∙ one_behind gens i d h ∙ ap (λ (k : ℕ). all_reaches (take k gens)) (sym (add-one i))
