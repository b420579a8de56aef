-- What moves and deletes are refused for by the records, and by the table of calls.
use Rattle.std.proofs.Common.{◌≡◌, ◌⊎◌, ◌<◌, ◌≤◌, ◌==◌, ◌&&◌, ℕ, List, [], ◌∷◌, Bool, true, false, Option, Some, None, length, get_or, refl, sym, ap, subst, ◌∙◌, inl, inr, arith, if◌then◌else◌}
use Rattle.std.specs.Prelude.{IsSomeAnd, MatchOption, nat_lt, option_and_then, slice_get}
use Rattle.std.specs.Option.{option_map}
use Rattle.std.specs.List.{AllByRecursion, list_any, position, position_or_len}
use Rattle.std.proofs.lemmas.Bool.Decides.{nat_tests}
use Rattle.std.proofs.lemmas.List.Sums.{position_or_len_is}
use Rattle.std.proofs.lemmas.Option.{slice_get-get_or, slice_get_within}
use Rattle.wf_outside.specs.declared.image.Jump.{Jump}
use Rattle.wf_outside.specs.declared.refusal.Refusal.{Refusal}
use Rattle.wf_outside.specs.declared.refusal.Refusal.TheVariants.{Inside, NotEmpty, NoView}
use Rattle.wf_outside.specs.Lists.{IsRising, first_of}
use Rattle.wf_frames.specs.Layout.{WordsValue}
use Rattle.wf_views.specs.declared.records.Records.{Records}
use Rattle.wf_views.specs.Lists.{found_by, has_number}
use Rattle.wf_views.specs.Views.{ViewValue, generation_number, view_of}
use Rattle.wf_flat.specs.declared.state.Life.{Life}
use Rattle.wf_flat.specs.declared.state.Life.TheVariants.{Exited, Running, Trapped}
use Rattle.wf_flat.specs.State.{FlatState, GenState, HartState}
use Rattle.wf_effects.specs.Generations.{is_live, is_running, jumps_in, lowest_in}
use Rattle.wf_homes.specs.Homes.{Homes}
use Rattle.wf_homes.specs.Kept.{IsKeptView, IsResident}
use Rattle.wf_homes.specs.Stands.{StandsFor, living_at}
use Rattle.wf_homes.proofs.FoundLemmas.{found_number, some_at}
use Rattle.wf_homes.proofs.ListLemmas.{true_or_false}
use Rattle.wf_space.proofs.MeetLemmas.{some_of}
use Rattle.wf_verdict.specs.Verdict.{inside_jump, is_in_jump, no_view, not_empty}
use Rattle.wf_residents.specs.Laws.{DeletionRefusalsAgree, DeletionsCanBePlanned, MigrationRefusalsAgree, ResidentsRise}
use Rattle.wf_residents.specs.Refusals.{inside_in, jumps_at, lowest_resident, no_view_in, not_empty_in}
use Rattle.wf_residents.proofs.MoveLemmas.{people_of, test_yes, yes_test}

-- the first place that passes a test
module _ (p : HartState → Bool) (someone : HartState) where
  first_is : (xs : List HartState) (i : ℕ) → i < length xs → p (get_or xs i someone) ≡ true → ((k : ℕ) → k < i → p (get_or xs k someone) ≡ false) → position p xs ≡ Some i
  first_is xs i lt pass before =
      let e : position_or_len p xs ≡ i = position_or_len_is p xs i someone (omega arith) before (λ _. pass) in
      let t : nat_lt i (length xs) ≡ true = grind (arith, nat_tests) in
      rw e (rw t refl)

  none_is : (xs : List HartState) → ((k : ℕ) → k < length xs → p (get_or xs k someone) ≡ false) → position p xs ≡ None
  none_is xs before =
      let e : position_or_len p xs ≡ length xs = position_or_len_is p xs (length xs) someone (omega arith) before (λ lt. absurd (omega arith)) in
      let t : nat_lt (length xs) (length xs) ≡ false = grind (arith, nat_tests) in
      rw e (rw t refl)

-- some hart
someone : HartState
someone = record { generation = 0; arch = record { pc = 0; x = [] }; fetched = None; looked = None; put = false; moved = []; reservation = None; life = Running }

abbrev runs_in : ℕ → HartState → Bool
runs_in g hart = is_running hart.life && (hart.generation == g)

runs_life : (life : Life) → is_running life ≡ true → life ≡ Running
runs_life Running e = refl
runs_life (Exited code) e = absurd cc
runs_life (Trapped cause value) e = absurd cc

both_true : (a b : Bool) → (a && b) ≡ true → (a ≡ true) × (b ≡ true)
both_true true b e = (refl, e)
both_true false b e = absurd cc

-- what holds of all numbers that are there
all_there : (P : ℕ → Type 0) (ns : List ℕ) → ((n : ℕ) → has_number ns n ≡ true → P n) → AllByRecursion P ns
all_there P [] each = tt
all_there P (n ∷ ns) each = (
  each n (let t : (n == n) ≡ true = yes_test n n refl in rw t refl),
  all_there P ns (λ k e. each k (elim (true_or_false (n == k)) [
    | inl t ↦ (rw t refl)
    | inr t ↦ (rw t e)
  ])),
)

rises_from : (n : ℕ) (ns : List ℕ) (k : ℕ) → AllByRecursion (λ m. n < m) ns → has_number (n ∷ ns) k ≡ true → n ≤ k
rises_from n ns k above e = elim (true_or_false (n == k)) [
  | inl t ↦ (let same : n ≡ k = test_yes n k t in omega arith)
  | inr t ↦ (let lt : n < k = later ns above (rw t at e) in omega arith)
]
  where
    later : (ms : List ℕ) → AllByRecursion (λ m. n < m) ms → has_number ms k ≡ true → n < k
    later [] all e = absurd cc
    later (m ∷ ms) all e = elim (true_or_false (m == k)) [
      | inl t ↦ subst (λ (j : ℕ). n < j) (test_yes m k t) all.0
      | inr t ↦ later ms all.1 (rw t at e)
    ]

found_view : (P : ViewValue → Type 0) (vs : List ViewValue) (g : ℕ) (v : ViewValue) → AllByRecursion P vs → found_by generation_number vs g ≡ Some v → P v
found_view P [] g v all e = absurd cc
found_view P (w ∷ ws) g v all e = elim (true_or_false (w.generation == g)) [
  | inl t ↦ (let k : Some w ≡ Some v = (rw t at e) in let same : w ≡ v = cc in subst P same all.0)
  | inr t ↦ found_view P ws g v all.1 (rw t at e)
]

-- a generation lives, and has its view; or neither
pub record HasView (words : WordsValue) (r : Records) (homes : Homes) (s : FlatState) (g : ℕ) : Type 0 where
  pub gen : GenState
  pub view : ViewValue
  pub placed : slice_get s.gens g ≡ Some gen
  pub live : gen.live ≡ true
  pub there : view_of r.views g ≡ Some view
  pub kept : IsKeptView words homes s gen view

module _ (words : WordsValue) (r : Records) (homes : Homes) (s : FlatState) (st : StandsFor words r homes s) where
  pub view_or_none : (g : ℕ) → HasView words r homes s g ⊎ ((view_of r.views g ≡ None) × (is_live s g ≡ false))
  view_or_none g = by_gen (slice_get s.gens g) refl
    where
      kept_at : (o : Option GenState) → living_at s g ≡ o → MatchOption o (view_of r.views g ≡ None) (λ gen. IsSomeAnd (view_of r.views g) (IsKeptView words homes s gen))
      kept_at o e = subst (λ (o : Option GenState). MatchOption o (view_of r.views g ≡ None) (λ gen. IsSomeAnd (view_of r.views g) (IsKeptView words homes s gen))) e (st.views g)

      by_live : (gen : GenState) → slice_get s.gens g ≡ Some gen → (b : Bool) → gen.live ≡ b → HasView words r homes s g ⊎ ((view_of r.views g ≡ None) × (is_live s g ≡ false))
      by_live gen e true l =
          let v = some_of (view_of r.views g) (IsKeptView words homes s gen) (kept_at (Some gen) (rw (e, l) refl)) in
          inl (record { gen = gen; view = v.0; placed = e; live = l; there = v.1; kept = v.2 })
      by_live gen e false l = inr (kept_at None (rw (e, l) refl), rw (e, l) refl)

      by_gen : (o : Option GenState) → slice_get s.gens g ≡ o → HasView words r homes s g ⊎ ((view_of r.views g ≡ None) × (is_live s g ≡ false))
      by_gen None e = inr (kept_at None (rw e refl), rw e refl)
      by_gen (Some gen) e = by_live gen e gen.live refl

  is_live_there : (g : ℕ) (has : HasView words r homes s g) → is_live s g ≡ true
  is_live_there g has = rw has.placed has.live

  pub no_view_same : (g : ℕ) → no_view_in r g ≡ no_view s g
  no_view_same g = elim (view_or_none g) [
    | inl has ↦ (rw (has.there, is_live_there g has) refl)
    | inr none ↦ (rw (none.0, none.1) refl)
  ]

  pub inside_same : (g next : ℕ) → HasView words r homes s g → inside_in r g next ≡ inside_jump s g next
  inside_same g next has =
      let jumps : jumps_at r g ≡ jumps_in s g = rw (has.there, has.placed) has.kept.jumps in
      ap (λ (js : List Jump). if list_any (is_in_jump next) js then Some (Inside next) else None) jumps

  migration_agrees : (g next : ℕ) → first_of (no_view_in r g ∷ inside_in r g next ∷ []) ≡ first_of (no_view s g ∷ inside_jump s g next ∷ [])
  migration_agrees g next = elim (view_or_none g) [
    | inl has ↦ (ap (λ (o : Option Refusal). first_of (o ∷ inside_in r g next ∷ [])) (no_view_same g) ∙ ap (λ (o : Option Refusal). first_of (no_view s g ∷ o ∷ [])) (inside_same g next has))
    | inr none ↦ (
        let a : no_view_in r g ≡ Some (NoView g) = rw none.0 refl in
        let b : no_view s g ≡ Some (NoView g) = rw none.1 refl in
        ap (λ (o : Option Refusal). first_of (o ∷ inside_in r g next ∷ [])) a ∙ sym (ap (λ (o : Option Refusal). first_of (o ∷ inside_jump s g next ∷ [])) b)
        )
  ]

  -- the lowest hart of a view, and of its generation
  module _ (g : ℕ) (has : HasView words r homes s g) (up : IsRising has.view.residents.items) where
    generation : has.view.generation ≡ g
    generation = found_number generation_number r.views.views g has.view has.there

    residents : (h : ℕ) → has_number has.view.residents.items h ≡ true → IsResident s g h
    residents h e = subst (λ (k : ℕ). IsResident s k h) generation ((has.kept.residents h).0 e)

    resides : (h : ℕ) → IsResident s g h → has_number has.view.residents.items h ≡ true
    resides h is = (has.kept.residents h).1 (subst (λ (k : ℕ). IsResident s k h) (sym generation) is)

    passes : (h : ℕ) → IsResident s g h → (h < length s.harts) × (runs_in g (get_or s.harts h someone) ≡ true)
    passes h is =
        let hart = some_of (slice_get s.harts h) (λ (x : HartState). (x.life ≡ Running) × (x.generation ≡ g)) is in
        let lt : h < length s.harts = slice_get_within s.harts h hart.0 hart.1 in
        let same : Some (get_or s.harts h someone) ≡ Some hart.0 = sym (slice_get-get_or s.harts h someone lt) ∙ hart.1 in
        let one : get_or s.harts h someone ≡ hart.0 = cc in
        let here : (hart.0.generation == g) ≡ true = yes_test hart.0.generation g hart.2.1 in
        (lt, rw (one, hart.2.0, here) refl)

    is_there : (h : ℕ) → h < length s.harts → runs_in g (get_or s.harts h someone) ≡ true → IsResident s g h
    is_there h lt e =
        let hart : HartState = get_or s.harts h someone in
        let two = both_true (is_running hart.life) (hart.generation == g) e in
        some_at (slice_get s.harts h) (λ (x : HartState). (x.life ≡ Running) × (x.generation ≡ g)) hart (slice_get-get_or s.harts h someone lt) (runs_life hart.life two.0, test_yes hart.generation g two.1)

    lowest_of : (ns : List ℕ) → has.view.residents.items ≡ ns → slice_get ns 0 ≡ lowest_in s g
    lowest_of [] e = sym (none_is (runs_in g) someone s.harts (λ k lt. (elim (true_or_false (runs_in g (get_or s.harts k someone))) [
      | inl t ↦ absurd (let there : has_number has.view.residents.items k ≡ true = resides k (is_there k lt t) in let f : false ≡ true = rw e at there in cc)
      | inr t ↦ t
    ])))
    lowest_of (n ∷ ns) e =
        let rising : IsRising (n ∷ ns) = subst IsRising e up in
        let first : has_number (n ∷ ns) n ≡ true = (let t : (n == n) ≡ true = yes_test n n refl in rw t refl) in
        let pass = passes n (residents n (rw e first)) in
        sym (first_is (runs_in g) someone s.harts n pass.0 pass.1 (λ k lt. (elim (true_or_false (runs_in g (get_or s.harts k someone))) [
          | inl t ↦ absurd (
              let low : k < length s.harts = (let nl : n < length s.harts = pass.0 in omega arith) in
              let there : has_number (n ∷ ns) k ≡ true = rw e at (resides k (is_there k low t)) in
              let le : n ≤ k = rises_from n ns k rising.0 there in
              omega arith
              )
          | inr t ↦ t
        ])))

    not_empty_same : not_empty_in r g ≡ not_empty s g
    not_empty_same = ap (λ (o : Option ViewValue). option_map NotEmpty (option_and_then lowest_resident o)) has.there ∙ ap (option_map NotEmpty) (lowest_of has.view.residents.items refl)

  deletion_agrees : ResidentsRise r → (g : ℕ) → first_of (no_view_in r g ∷ not_empty_in r g ∷ []) ≡ first_of (no_view s g ∷ not_empty s g ∷ [])
  deletion_agrees up g = elim (view_or_none g) [
    | inl has ↦ (ap (λ (o : Option Refusal). first_of (o ∷ not_empty_in r g ∷ [])) (no_view_same g) ∙ ap (λ (o : Option Refusal). first_of (no_view s g ∷ o ∷ [])) (not_empty_same g has (found_view (λ v. IsRising v.residents.items) r.views.views g has.view up has.there)))
    | inr none ↦ (
        let a : no_view_in r g ≡ Some (NoView g) = rw none.0 refl in
        let b : no_view s g ≡ Some (NoView g) = rw none.1 refl in
        ap (λ (o : Option Refusal). first_of (o ∷ not_empty_in r g ∷ [])) a ∙ sym (ap (λ (o : Option Refusal). first_of (o ∷ not_empty s g ∷ [])) b)
        )
  ]

pub migration_same : MigrationRefusalsAgree
migration_same words r homes s m deltas st = migration_agrees words r homes s st m.generation m.next

pub deletion_same : DeletionRefusalsAgree
deletion_same words r homes s g deltas next st up = deletion_agrees words r homes s st up g

-- residents are harts
pub residents_low : DeletionsCanBePlanned
residents_low words r homes s g st few view there =
    all_there (λ h. h < 256) view.residents.items (λ h e. (
    let hart = some_of (slice_get s.harts h) (λ (x : HartState). (x.life ≡ Running) × (x.generation ≡ view.generation)) ((people_of words r homes s st g view there h).0 e) in
    let lt : h < length s.harts = slice_get_within s.harts h hart.0 hart.1 in
    omega arith
    ))
