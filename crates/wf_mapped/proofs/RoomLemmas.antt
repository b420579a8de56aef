-- The room that the changes of a mapping take in views, and that there is.
use Rattle.std.proofs.Common.{◌≡◌, ◌<◌, ◌≤◌, ◌+◌, ◌-◌, ◌==◌, ◌++◌, ℕ, suc, List, [], ◌∷◌, Bool, true, false, Option, Some, None, length, map, refl, sym, ap, subst, ◌∙◌, inl, inr, arith, is_some, if◌then◌else◌, length-append}
use Rattle.std.specs.Prelude.{IsSome, IsSomeAnd}
use Rattle.std.specs.List.{AllByRecursion, filter, flat_map}
use Rattle.std.specs.Option.{option_map}
use Rattle.std.proofs.lemmas.Bool.Decides.{nat_tests}
use Rattle.std.proofs.lemmas.List.{length-map}
use Rattle.std.proofs.Math.Nat.{le-max_right}
use Rattle.wf_outside.specs.Lists.{IsRising}
use Rattle.wf_views.specs.declared.plan.Change.TheVariants.{Node, Reach}
use Rattle.wf_views.specs.declared.records.Records.{Records}
use Rattle.wf_views.specs.Lists.{MayAdd, has_number, inserted_by, itself, pushed}
use Rattle.wf_views.specs.Views.{ViewValue, ViewsValue, generation_number, view_of, with_node, with_reach, with_view}
use Rattle.wf_homes.proofs.FoundLemmas.{found_changed, found_number, some_at}
use Rattle.wf_homes.proofs.ListLemmas.{all_any, all_map, all_more, true_or_false}
use Rattle.wf_space.proofs.MeetLemmas.{some_is}
use Rattle.wf_space.proofs.ZeroLemmas.{found_in}
use Rattle.wf_space.specs.Changes.{MayNote}
use Rattle.wf_mapping.specs.declared.layout.Mapping.{Mapping}
use Rattle.wf_mapping.specs.declared.nodes.MissingNode.{MissingNode}
use Rattle.wf_mapping.specs.declared.nodes.NewNode.{NewNode}
use Rattle.wf_mapping.specs.Layout.{missing_for, numbers_of}
use Rattle.wf_mapping.specs.Nodes.{lacks_node, missing_from, missing_in, missing_node, nodes_for, nodes_placed}
use Rattle.wf_mapping.specs.Plans.{node_noted}
use Rattle.wf_mapping.specs.Room.{with_view_room}
use Rattle.wf_mapping.proofs.TreeLemmas.{filter_both}
use Rattle.wf_mapped.proofs.ChangeLemmas.{is_of, one_noted, one_view, place_in}
use Rattle.wf_mapped.specs.Mapped.{HaveMapRoom, RoomIsMade, ViewHasRoom}

-- the room that is made
pub room_made : RoomIsMade
room_made r mapping = record {
  pages = le-max_right r.pages.room mapping.pages;
  views = all_map (λ (v : ViewValue). Unit {0}) (ViewHasRoom n) (with_view_room n) (λ v h. record { nodes = le-max_right v.nodes.room n; reach = le-max_right v.reach.room n }) r.views.views (all_any (λ (v : ViewValue). Unit {0}) (λ v. tt) r.views.views);
}
  where
    n : ℕ
    n = length (nodes_for (numbers_of mapping))

-- how many of these nodes are those of a generation
abbrev pub count_of : ℕ → List NewNode → ℕ
count_of g ns = length (filter (is_of g) ns)

abbrev missing_of : ℕ → MissingNode → Bool
missing_of g m = m.generation == g

placed_few : (g : ℕ) (ms : List MissingNode) (fs : List ℕ) → count_of g (nodes_placed ms fs) ≤ length (filter (missing_of g) ms)
placed_few g [] fs = omega arith
placed_few g (m ∷ ms) [] = omega arith
placed_few g (m ∷ ms) (f ∷ fs) = (let rest : count_of g (nodes_placed ms fs) ≤ length (filter (missing_of g) ms) = placed_few g ms fs in elim (true_or_false (m.generation == g)) [
  | inl t ↦ (rw t (let le : length (filter (is_of g) (nodes_placed ms fs)) + 1 ≤ length (filter (missing_of g) ms) + 1 = omega arith in omega arith))
  | inr t ↦ (rw t rest)
])

filter_few : {A : Type 0} (p : A → Bool) (xs : List A) → length (filter p xs) ≤ length xs
filter_few p [] = omega arith
filter_few p (x ∷ xs) = (let rest : length (filter p xs) ≤ length xs = filter_few p xs in elim (true_or_false (p x)) [
  | inl t ↦ (rw t (omega arith))
  | inr t ↦ (rw t (omega arith))
])

none_of_view : (g : ℕ) (needed : List (ℕ × ℕ)) (v : ViewValue) → (v.generation == g) ≡ false → filter (missing_of g) (missing_in needed v) ≡ []
none_of_view g needed v e = none (filter (lacks_node v) needed)
  where
    none : (ns : List (ℕ × ℕ)) → filter (missing_of g) (map (missing_node v.generation) ns) ≡ []
    none [] = refl
    none (n ∷ ns) = rw e (none ns)

none_above : (g : ℕ) (needed : List (ℕ × ℕ)) (vs : List ViewValue) → AllByRecursion (λ m. g < m) (map generation_number vs) → filter (missing_of g) (missing_from needed vs) ≡ []
none_above g needed [] all = refl
none_above g needed (v ∷ vs) all =
    let lt : g < v.generation = all.0 in
    let t : (v.generation == g) ≡ false = grind (arith, nat_tests) in
    filter_both (missing_of g) (missing_in needed v) (missing_from needed vs)
    ∙ ap (λ (xs : List MissingNode). xs ++ filter (missing_of g) (missing_from needed vs)) (none_of_view g needed v t)
    ∙ none_above g needed vs all.1

missing_few : (g : ℕ) (needed : List (ℕ × ℕ)) (vs : List ViewValue) → IsRising (map generation_number vs) → length (filter (missing_of g) (missing_from needed vs)) ≤ length needed
missing_few g needed [] up = omega arith
missing_few g needed (v ∷ vs) up =
    let both : filter (missing_of g) (missing_from needed (v ∷ vs)) ≡ filter (missing_of g) (missing_in needed v) ++ filter (missing_of g) (missing_from needed vs) = filter_both (missing_of g) (missing_in needed v) (missing_from needed vs) in
    elim (true_or_false (v.generation == g)) [
      | inl t ↦ (
          let same : v.generation ≡ g = grind (arith, nat_tests) in
          let none : filter (missing_of g) (missing_from needed vs) ≡ [] = none_above g needed vs (subst (λ (k : ℕ). AllByRecursion (λ m. k < m) (map generation_number vs)) same up.0) in
          let all : length (filter (missing_of g) (missing_from needed (v ∷ vs))) ≡ length (filter (missing_of g) (missing_in needed v)) + length (filter (missing_of g) (missing_from needed vs)) = ap length both ∙ length-append (filter (missing_of g) (missing_in needed v)) (filter (missing_of g) (missing_from needed vs)) in
          let zero_more : length (filter (missing_of g) (missing_from needed vs)) ≡ 0 = ap length none in
          let a : length (filter (missing_of g) (missing_in needed v)) ≤ length (missing_in needed v) = filter_few (missing_of g) (missing_in needed v) in
          let b : length (missing_in needed v) ≡ length (filter (lacks_node v) needed) = length-map (filter (lacks_node v) needed) (missing_node v.generation) in
          let c : length (filter (lacks_node v) needed) ≤ length needed = filter_few (lacks_node v) needed in
          omega arith
          )
      | inr t ↦ (
          let none : filter (missing_of g) (missing_in needed v) ≡ [] = none_of_view g needed v t in
          let all : filter (missing_of g) (missing_from needed (v ∷ vs)) ≡ filter (missing_of g) (missing_from needed vs) = both ∙ ap (λ (xs : List MissingNode). xs ++ filter (missing_of g) (missing_from needed vs)) none in
          let len : length (filter (missing_of g) (missing_from needed (v ∷ vs))) ≡ length (filter (missing_of g) (missing_from needed vs)) = ap length all in
          let rest : length (filter (missing_of g) (missing_from needed vs)) ≤ length needed = missing_few g needed vs up.1 in
          omega arith
          )
    ]

-- each view has room for the new nodes of its generation
abbrev pub EachHasRoom : ViewsValue → List NewNode → Type 0
EachHasRoom v ns = (g : ℕ) (view : ViewValue) → view_of v g ≡ Some view → ViewHasRoom (count_of g ns) view

pub room_there : (r : Records) (mapping : Mapping) (fs : List ℕ) → IsRising (map generation_number r.views.views) → HaveMapRoom r mapping → EachHasRoom r.views (nodes_placed (missing_for r mapping) fs)
room_there r mapping fs up room = λ g view e. (
    let needed : List (ℕ × ℕ) = nodes_for (numbers_of mapping) in
    let has : ViewHasRoom (length needed) view = found_in generation_number (ViewHasRoom (length needed)) r.views.views g view room.views e in
    let a : count_of g (nodes_placed (missing_for r mapping) fs) ≤ length (filter (missing_of g) (missing_for r mapping)) = placed_few g (missing_for r mapping) fs in
    let b : length (filter (missing_of g) (missing_for r mapping)) ≤ length needed = missing_few g needed r.views.views up in
    let c : length needed ≤ view.nodes.room = has.nodes in
    let d : length needed ≤ view.reach.room = has.reach in
    record { nodes = omega arith; reach = omega arith }
    )

-- one node more
one_room : (n : NewNode) (ns : List NewNode) (view : ViewValue) → ViewHasRoom (count_of view.generation (n ∷ ns)) view → ViewHasRoom (count_of view.generation ns) (one_noted n view)
one_room n ns view room = by_test (n.generation == view.generation) (n.node.level == 0) (has_number view.reach.items n.node.prefix) room.nodes room.reach
  where
    k : ℕ
    k = count_of view.generation ns

    by_test : (a b c : Bool) → length (if a then n ∷ filter (is_of view.generation) ns else filter (is_of view.generation) ns) ≤ view.nodes.room → length (if a then n ∷ filter (is_of view.generation) ns else filter (is_of view.generation) ns) ≤ view.reach.room
        → ViewHasRoom (count_of view.generation ns) (record view {
          nodes = if a then pushed n.node view.nodes else view.nodes;
          reach = if a then (if b then (if c then view.reach else record { items = inserted_by itself n.node.prefix view.reach.items; room = view.reach.room - 1 }) else view.reach) else view.reach;
        })
    by_test true true true x y = record { nodes = omega arith; reach = omega arith }
    by_test true true false x y = record { nodes = omega arith; reach = omega arith }
    by_test true false c x y = record { nodes = omega arith; reach = omega arith }
    by_test false b c x y = record { nodes = x; reach = y }

next_room : (n : NewNode) (ns : List NewNode) (v : ViewsValue) → EachHasRoom v (n ∷ ns) → EachHasRoom (place_in n (with_view v n.generation (with_node n.node))) ns
next_room n ns v room = λ g view e. by_view g view (view_of v g) refl (sym (one_view n v g) ∙ e)
  where
    by_view : (g : ℕ) (view : ViewValue) (o : Option ViewValue) → view_of v g ≡ o → option_map (one_noted n) o ≡ Some view → ViewHasRoom (count_of g ns) view
    by_view g view None at e = absurd cc
    by_view g view (Some w) at e =
        let is : one_noted n w ≡ view = cc in
        let number : w.generation ≡ g = found_number generation_number v.views g w at in
        let has : ViewHasRoom (count_of w.generation (n ∷ ns)) w = room w.generation w (ap (view_of v) number ∙ at) in
        subst (ViewHasRoom (count_of g ns)) is (subst (λ (k : ℕ). ViewHasRoom (count_of k ns) (one_noted n w)) number (one_room n ns w has))

next_there : (n : NewNode) (v : ViewsValue) (g : ℕ) → IsSome (view_of v g) → IsSome (view_of (place_in n (with_view v n.generation (with_node n.node))) g)
next_there n v g some = ap is_some (one_view n v g) ∙ by_view (view_of v g) some
  where
    by_view : (o : Option ViewValue) → IsSome o → is_some (option_map (one_noted n) o) ≡ true
    by_view None h = absurd (let k : false ≡ true = h in cc)
    by_view (Some w) h = refl

-- the nodes can be noted
pub nodes_may : (ns : List NewNode) (r : Records) → EachHasRoom r.views ns → AllByRecursion (λ n. IsSome (view_of r.views n.generation)) ns → MayNote r (flat_map node_noted ns)
nodes_may [] r room there = tt
nodes_may (n ∷ ns) r room there =
    let x = some_is (view_of r.views n.generation) there.0 in
    let has : ViewHasRoom (count_of n.generation (n ∷ ns)) x.0 = room n.generation x.0 x.1 in
    let t : (n.generation == n.generation) ≡ true = grind (arith, nat_tests) in
    let more : count_of n.generation (n ∷ ns) ≡ suc (count_of n.generation ns) = rw t refl in
    let for_node : 0 < x.0.nodes.room = (let le : count_of n.generation (n ∷ ns) ≤ x.0.nodes.room = has.nodes in omega arith) in
    let for_place : 0 < x.0.reach.room = (let le : count_of n.generation (n ∷ ns) ≤ x.0.reach.room = has.reach in omega arith) in
    by_level (n.node.level == 0) refl x.0 x.1 for_node for_place
    (nodes_may ns (record r { views = place_in n (with_view r.views n.generation (with_node n.node)) }) (next_room n ns r.views room) (all_more (λ m. IsSome (view_of r.views m.generation)) (λ m. IsSome (view_of (place_in n (with_view r.views n.generation (with_node n.node))) m.generation)) (λ m some. next_there n r.views m.generation some) ns there.1))
  where
    by_level : (b : Bool) → (n.node.level == 0) ≡ b → (view : ViewValue) → view_of r.views n.generation ≡ Some view → 0 < view.nodes.room → 0 < view.reach.room
        → MayNote (record r { views = if n.node.level == 0 then with_view (with_view r.views n.generation (with_node n.node)) n.generation (with_reach n.node.prefix) else with_view r.views n.generation (with_node n.node) }) (flat_map node_noted ns)
        → MayNote r (node_noted n ++ flat_map node_noted ns)
    by_level true e view at for_node for_place rest =
        let node : IsSomeAnd (view_of r.views n.generation) (λ v. 0 < v.nodes.room) = some_at (view_of r.views n.generation) (λ (v : ViewValue). 0 < v.nodes.room) view at for_node in
        let changed : view_of (with_view r.views n.generation (with_node n.node)) n.generation ≡ option_map (λ x. if generation_number x == n.generation then with_node n.node x else x) (view_of r.views n.generation) = found_changed generation_number (with_node n.node) (λ x. refl) r.views.views n.generation n.generation in
        let now : view_of (with_view r.views n.generation (with_node n.node)) n.generation ≡ Some (if generation_number view == n.generation then with_node n.node view else view) = changed ∙ ap (option_map (λ x. if generation_number x == n.generation then with_node n.node x else x)) at in
        let same_room : (b : Bool) → (if b then with_node n.node view else view).reach.room ≡ view.reach.room = kept view in
        let room_now : (if generation_number view == n.generation then with_node n.node view else view).reach.room ≡ view.reach.room = same_room (generation_number view == n.generation) in
        let place : IsSomeAnd (view_of (with_view r.views n.generation (with_node n.node)) n.generation) (λ v. MayAdd n.node.prefix v.reach) =
        some_at (view_of (with_view r.views n.generation (with_node n.node)) n.generation) (λ (v : ViewValue). MayAdd n.node.prefix v.reach) (if generation_number view == n.generation then with_node n.node view else view) now (inr (subst (λ (k : ℕ). 0 < k) (sym room_now) for_place)) in
        subst (λ (b : Bool). MayNote r ((Node n.generation n.node ∷ (if b then Reach n.generation n.node.prefix ∷ [] else [])) ++ flat_map node_noted ns)) (sym e)
        (node, (place, subst (λ (b : Bool). MayNote (record r { views = if b then with_view (with_view r.views n.generation (with_node n.node)) n.generation (with_reach n.node.prefix) else with_view r.views n.generation (with_node n.node) }) (flat_map node_noted ns)) e rest))
      where
        kept : (view : ViewValue) (b : Bool) → (if b then with_node n.node view else view).reach.room ≡ view.reach.room
        kept view true = refl
        kept view false = refl
    by_level false e view at for_node for_place rest =
        let node : IsSomeAnd (view_of r.views n.generation) (λ v. 0 < v.nodes.room) = some_at (view_of r.views n.generation) (λ (v : ViewValue). 0 < v.nodes.room) view at for_node in
        subst (λ (b : Bool). MayNote r ((Node n.generation n.node ∷ (if b then Reach n.generation n.node.prefix ∷ [] else [])) ++ flat_map node_noted ns)) (sym e)
        (node, subst (λ (b : Bool). MayNote (record r { views = if b then with_view (with_view r.views n.generation (with_node n.node)) n.generation (with_reach n.node.prefix) else with_view r.views n.generation (with_node n.node) }) (flat_map node_noted ns)) e rest)
