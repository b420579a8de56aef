-- The newest generation by the records, and that of the state.
use Rattle.std.proofs.Common.{◌≡◌, ◌⊎◌, ◌<◌, ◌≤◌, ◌-◌, ◌==◌, ℕ, zero, suc, List, [], ◌∷◌, true, false, Option, Some, None, length, map, refl, sym, ap, subst, ◌∙◌, inl, inr, arith, is_some, if◌then◌else◌}
use Rattle.std.specs.Prelude.{IsSome, slice_get, unwrap_or}
use Rattle.std.specs.List.{last_or}
use Rattle.std.proofs.lemmas.Bool.Decides.{nat_tests}
use Rattle.wf_outside.specs.declared.refusal.Refusal.{Refusal}
use Rattle.wf_outside.specs.Lists.{IsRising, first_of}
use Rattle.wf_frames.specs.Layout.{WordsValue}
use Rattle.wf_views.specs.declared.records.Records.{Records}
use Rattle.wf_views.specs.Lists.{found_by}
use Rattle.wf_views.specs.Views.{ViewValue, generation_number, newest_of, view_of}
use Rattle.wf_flat.specs.State.{FlatState, GenState}
use Rattle.wf_effects.specs.Generations.{is_live, newest, newest_live}
use Rattle.wf_homes.specs.Homes.{Homes}
use Rattle.wf_homes.specs.Stands.{StandsFor}
use Rattle.wf_homes.proofs.FoundLemmas.{found_number}
use Rattle.wf_verdict.specs.Verdict.{inside_jump}
use Rattle.wf_residents.specs.Laws.{NewestAgrees, QuiesceRefusalsAgree}
use Rattle.wf_residents.specs.Refusals.{CanMigrate, inside_in, no_view_in}
use Rattle.wf_residents.proofs.AgreeLemmas.{HasView, inside_same, view_or_none}
use Rattle.wf_residents.proofs.MoveLemmas.{yes_test}

-- the last of views that rise
record IsLast (d : Option ℕ) (vs : List ViewValue) (n : ℕ) : Type 0 where
  pub last : last_or d (map generation_number vs) ≡ Some n
  pub there : IsSome (found_by generation_number vs n)
  pub past : (m : ℕ) → n < m → found_by generation_number vs m ≡ None

last_of : (d : Option ℕ) (v : ViewValue) (vs : List ViewValue) → IsRising (map generation_number (v ∷ vs)) → (n : ℕ) × (v.generation ≤ n) × IsLast d (v ∷ vs) n
last_of d v [] up = (
  v.generation,
  omega arith,
  record {
    last = refl;
    there = (let t : (v.generation == v.generation) ≡ true = yes_test v.generation v.generation refl in rw t refl);
    past = λ m lt. (let t : (v.generation == m) ≡ false = grind (arith, nat_tests) in rw t refl);
  },
)
last_of d v (w ∷ ws) up =
    let rest = last_of (Some v.generation) w ws up.1 in
    let n : ℕ = rest.0 in
    let above : v.generation < w.generation = up.0.0 in
    let le : w.generation ≤ n = rest.1 in
    let t : (v.generation == n) ≡ false = (let lt : v.generation < n = omega arith in grind (arith, nat_tests)) in (
      n,
      omega arith,
      record {
        last = rest.2.last;
        there = rw t rest.2.there;
        past = λ m lt. (let u : (v.generation == m) ≡ false = (let far : v.generation < m = omega arith in grind (arith, nat_tests)) in rw u (rest.2.past m lt));
      },
    )

-- generations of which none lives, and of which one is the last that does
none_live : (gens : List GenState) (so_far : Option ℕ) → ((i : ℕ) (x : GenState) → slice_get gens i ≡ Some x → x.live ≡ false) → newest_live gens so_far ≡ so_far
none_live [] so_far dead = refl
none_live (x ∷ xs) so_far dead = (let f : x.live ≡ false = dead 0 x refl in rw f (none_live xs so_far (λ i y e. dead (suc i) y e)))

one_live : (gens : List GenState) (k : ℕ) (gen : GenState) (so_far : Option ℕ) → slice_get gens k ≡ Some gen → gen.live ≡ true
    → ((i : ℕ) (x : GenState) → k < i → slice_get gens i ≡ Some x → x.live ≡ false) → newest_live gens so_far ≡ Some gen.number
one_live [] k gen so_far e live dead = absurd cc
one_live (x ∷ xs) zero gen so_far e live dead =
    let same : x ≡ gen = cc in
    let l : x.live ≡ true = ap (λ (y : GenState). y.live) same ∙ live in
    rw l (none_live xs (Some x.number) (λ i y f. dead (suc i) y (omega arith) f) ∙ ap (λ (y : GenState). Some y.number) same)
one_live (x ∷ xs) (suc k) gen so_far e live dead = one_live xs k gen (if x.live then Some x.number else so_far) e live (λ i y lt f. dead (suc i) y (omega arith) f)

module _ (words : WordsValue) (r : Records) (homes : Homes) (s : FlatState) (st : StandsFor words r homes s) (up : IsRising (map generation_number r.views.views)) where
  dead_at : (i : ℕ) (x : GenState) → slice_get s.gens i ≡ Some x → view_of r.views i ≡ None → x.live ≡ false
  dead_at i x e none = elim (view_or_none words r homes s st i) [
    | inl has ↦ absurd (let k : Some has.view ≡ None = sym has.there ∙ none in cc)
    | inr gone ↦ (let k : is_live s i ≡ x.live = rw e refl in sym k ∙ gone.1)
  ]

  -- a view that is the last, or none
  record IsNewest (n : ℕ) : Type 0 where
    pub last : newest_of r.views ≡ Some n
    pub there : HasView words r homes s n
    pub same : newest s ≡ n

  newest_by : (vs : List ViewValue) → r.views.views ≡ vs → ((n : ℕ) × IsNewest n) ⊎ ((vs ≡ []) × (newest_of r.views ≡ Some (newest s)))
  newest_by [] e =
      let none : newest_live s.gens None ≡ None = none_live s.gens None (λ i x f. dead_at i x f (ap (λ (vs : List ViewValue). found_by generation_number vs i) e)) in
      let last : newest s ≡ length s.gens - 1 = rw none refl in
      inr (refl, ap (λ (vs : List ViewValue). last_or r.views.last (map generation_number vs)) e ∙ st.last ∙ ap Some (sym last))
  newest_by (v ∷ vs) e =
      let l = last_of r.views.last v vs (subst (λ (ws : List ViewValue). IsRising (map generation_number ws)) e up) in
      let n : ℕ = l.0 in
      let there : IsSome (view_of r.views n) = ap (λ (ws : List ViewValue). is_some (found_by generation_number ws n)) e ∙ l.2.there in
      elim (view_or_none words r homes s st n) [
        | inl has ↦ (
            let number : has.gen.number ≡ n = sym has.kept.generation ∙ found_number generation_number r.views.views n has.view has.there in
            let live : newest_live s.gens None ≡ Some has.gen.number = one_live s.gens n has.gen None has.placed has.live (λ i x lt f. dead_at i x f (ap (λ (ws : List ViewValue). found_by generation_number ws i) e ∙ l.2.past i lt)) in
            inl (
              n,
              record {
                last = ap (λ (ws : List ViewValue). last_or r.views.last (map generation_number ws)) e ∙ l.2.last;
                there = has;
                same = ap (λ (o : Option ℕ). unwrap_or o (length s.gens - 1)) live ∙ number;
              },
            )
            )
        | inr gone ↦ absurd (let k : is_some (view_of r.views n) ≡ false = ap is_some gone.0 in let f : true ≡ false = sym there ∙ k in cc)
      ]

  newest_is : newest_of r.views ≡ Some (newest s)
  newest_is = elim (newest_by r.views.views refl) [
    | inl new ↦ (new.1.last ∙ ap Some (sym new.1.same))
    | inr none ↦ none.1
  ]

  quiesce_agrees : (h g next : ℕ) → CanMigrate r h → newest_of r.views ≡ Some g → first_of (no_view_in r g ∷ inside_in r g next ∷ []) ≡ first_of (inside_jump s (newest s) next ∷ [])
  quiesce_agrees h g next can e = elim (newest_by r.views.views refl) [
    | inl new ↦ (
        let k : Some new.0 ≡ Some g = sym new.1.last ∙ e in
        let same : new.0 ≡ g = cc in
        let has : HasView words r homes s g = subst (HasView words r homes s) same new.1.there in
        let newest_same : newest s ≡ g = new.1.same ∙ same in
        let a : no_view_in r g ≡ None = rw has.there refl in
        ap (λ (o : Option Refusal). first_of (o ∷ inside_in r g next ∷ [])) a
        ∙ ap (λ (o : Option Refusal). first_of (o ∷ [])) (inside_same words r homes s st g next has)
        ∙ ap (λ (n : ℕ). first_of (inside_jump s n next ∷ [])) (sym newest_same)
        )
    | inr none ↦ absurd (no_views none.0)
  ]
    where
      no_views : r.views.views ≡ [] → ⊥
      no_views empty = (let f : false ≡ true = rw empty at can in cc)

pub newest_same : NewestAgrees
newest_same words r homes s st up = newest_is words r homes s st up

pub quiesce_same : QuiesceRefusalsAgree
quiesce_same words r homes s m deltas st up can e = quiesce_agrees words r homes s st up m.hart m.generation m.next can e
