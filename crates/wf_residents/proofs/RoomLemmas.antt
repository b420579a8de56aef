-- The room that a move takes, and numbers of generations that live.
use Rattle.std.proofs.Common.{◌≡◌, ◌==◌, ℕ, List, [], ◌∷◌, true, Option, Some, None, map, refl, sym, ap, subst, ◌∙◌, inl, inr, arith, if◌then◌else◌, is_some}
use Rattle.std.specs.Prelude.{IsSome, unwrap_or}
use Rattle.std.specs.Option.{option_map}
use Rattle.std.specs.List.{find, list_any}
use Rattle.wf_outside.specs.declared.refusal.Refusal.{Refusal}
use Rattle.wf_outside.specs.declared.refusal.Refusal.TheVariants.{Inside, NoView}
use Rattle.wf_views.specs.declared.records.Records.{Records}
use Rattle.wf_views.specs.Lists.{MayAdd}
use Rattle.wf_views.specs.Views.{ViewValue, ViewsValue, generation_number, view_of, with_resident_room}
use Rattle.wf_homes.proofs.FoundLemmas.{found_changed, found_number}
use Rattle.wf_homes.proofs.ListLemmas.{true_or_false}
use Rattle.wf_verdict.specs.Verdict.{is_in_jump}
use Rattle.wf_residents.specs.declared.migration.Migration.{Migration}
use Rattle.wf_residents.specs.Plans.{HasRoomToMove, with_resident_place}
use Rattle.wf_residents.specs.Refusals.{has_resident, migration_refusal, residence_of}
use Rattle.wf_space.specs.Carried.{StandAlike}
use Rattle.wf_residents.proofs.HartLemmas.{if_of, room_standing}
use Rattle.wf_residents.proofs.KeepLemmas.{unchanged}
use Rattle.wf_outside.specs.Lists.{first_of}
use Rattle.wf_residents.proofs.MoveLemmas.{yes_test}

-- the number of a generation that lives
pub number_found : (views : ViewsValue) (g n : ℕ) (view : ViewValue) → Some view ≡ view_of views g → n ≡ view.generation → (n ≡ g) × IsSome (view_of views g)
number_found views g n view e number = (number ∙ found_number generation_number views.views g view (sym e), ap is_some (sym e))

-- there is nothing to make room in
pub none_roomy : (r : Records) (g : ℕ) → view_of r.views g ≡ None → r ≡ with_resident_place r g
none_roomy r g e = ap (λ (vs : List ViewValue). let q : Records = record r { views = record r.views { views = vs } } in q) (sym (unchanged generation_number r.views.views g (with_resident_room 1) e))

-- room changes nothing of who is where, and of what a move is refused for
abbrev roomy : ℕ → ViewValue → ViewValue
roomy g v = if_of g (with_resident_room 1) v

find_roomy : (g h : ℕ) (vs : List ViewValue) → option_map generation_number (find (has_resident h) (map (roomy g) vs)) ≡ option_map generation_number (find (has_resident h) vs)
find_roomy g h [] = refl
find_roomy g h (v ∷ vs) = elim (true_or_false (v.generation == g)) [
  | inl t ↦ (elim (true_or_false (has_resident h v)) [
    | inl u ↦ rw (t, u) refl
    | inr u ↦ rw (t, u) (find_roomy g h vs)
  ])
  | inr t ↦ (elim (true_or_false (has_resident h v)) [
    | inl u ↦ rw (t, u) refl
    | inr u ↦ rw (t, u) (find_roomy g h vs)
  ])
]

pub room_residence : (r q : Records) (g h : ℕ) → q ≡ with_resident_place r g → IsSome (residence_of r h) → IsSome (residence_of q h)
room_residence r q g h e there = ap (λ (p : Records). is_some (residence_of p h)) e ∙ ap is_some (find_roomy g h r.views.views) ∙ there

pub room_refusal : (r q : Records) (m : Migration) → q ≡ with_resident_place r m.generation → migration_refusal q m ≡ migration_refusal r m
room_refusal r q m e =
    ap (λ (p : Records). migration_refusal p m) e
    ∙ ap by_view (found_changed generation_number (with_resident_room 1) (λ x. refl) r.views.views m.generation m.generation)
    ∙ same (view_of r.views m.generation)
  where
    by_view : Option ViewValue → Option Refusal
    by_view o =
        first_of ((if is_some o then None else Some (NoView m.generation))
        ∷ (if list_any (is_in_jump m.next) (unwrap_or (option_map (λ view. view.jumps) o) []) then Some (Inside m.next) else None) ∷ [])

    same : (o : Option ViewValue) → by_view (option_map (roomy m.generation) o) ≡ by_view o
    same None = refl
    same (Some v) = elim (true_or_false (v.generation == m.generation)) [
      | inl t ↦ rw t refl
      | inr t ↦ rw t refl
    ]

pub room_to_move : (r q : Records) (m : Migration) → q ≡ with_resident_place r m.generation → HasRoomToMove q m
room_to_move r q m e = subst (λ (p : Records). HasRoomToMove p m) (sym e) (λ view there. by_view (view_of r.views m.generation) refl view (sym (found_changed generation_number (with_resident_room 1) (λ x. refl) r.views.views m.generation m.generation) ∙ there))
  where
    by_view : (o : Option ViewValue) → view_of r.views m.generation ≡ o → (view : ViewValue) → option_map (roomy m.generation) o ≡ Some view → MayAdd m.hart view.residents
    by_view None f view there = absurd cc
    by_view (Some v) f view there =
        let number : v.generation ≡ m.generation = found_number generation_number r.views.views m.generation v f in
        let t : (v.generation == m.generation) ≡ true = yes_test v.generation m.generation number in
        let k : Some (with_resident_room 1 v) ≡ Some view = (rw t at there) in
        let same : with_resident_room 1 v ≡ view = cc in
        subst (λ (w : ViewValue). MayAdd m.hart w.residents) same (inr (omega arith))

pub room_alike : (r q : Records) (g : ℕ) → q ≡ with_resident_place r g → StandAlike r q
room_alike r q g e = subst (λ (p : Records). StandAlike r p) (sym e) (room_standing r g)
