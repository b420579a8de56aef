-- How many pieces and changes there are for nodes, and the room that is left.
use Rattle.std.proofs.Common.{◌≡◌, ◌≤◌, ◌+◌, ◌*◌, ◌-◌, ◌==◌, ℕ, List, [], ◌∷◌, Option, Some, None, length, map, ap, inl, inr, arith, length-append}
use Rattle.std.specs.List.{flat_map}
use Rattle.std.proofs.lemmas.List.{length-map}
use Rattle.wf_views.specs.declared.records.Records.{Records}
use Rattle.wf_views.specs.Lists.{RoomyValue}
use Rattle.wf_homes.proofs.ListLemmas.{true_or_false}
use Rattle.wf_space.specs.Jobs.{all_pushed}
use Rattle.wf_mapping.specs.declared.nodes.NewNode.{NewNode}
use Rattle.wf_mapping.specs.Plans.{node_above, node_noted, pointer_in, pointer_stored}

noted_two : (new : NewNode) → length (node_noted new) ≤ 2
noted_two new = elim (true_or_false (new.node.level == 0)) [
  | inl t ↦ (rw t (omega arith))
  | inr t ↦ (rw t (omega arith))
]

pub noted_few : (nodes : List NewNode) → length (flat_map node_noted nodes) ≤ 2 * length nodes
noted_few [] = omega arith
noted_few (new ∷ nodes) =
    let e : length (flat_map node_noted (new ∷ nodes)) ≡ length (node_noted new) + length (flat_map node_noted nodes) = length-append (node_noted new) (flat_map node_noted nodes) in
    let a : length (node_noted new) ≤ 2 = noted_two new in
    let b : length (flat_map node_noted nodes) ≤ 2 * length nodes = noted_few nodes in
    let c : length (new ∷ nodes) ≡ length nodes + 1 = omega arith in
    omega arith

stored_one : (frames : ℕ) (new : NewNode) (above : Option ℕ) → length (pointer_in frames new above) ≤ 1
stored_one frames new None = omega arith
stored_one frames new (Some above) = omega arith

pub stored_few : (r : Records) (nodes : List NewNode) → length (flat_map (pointer_stored r) nodes) ≤ length nodes
stored_few r [] = omega arith
stored_few r (new ∷ nodes) =
    let e : length (flat_map (pointer_stored r) (new ∷ nodes)) ≡ length (pointer_stored r new) + length (flat_map (pointer_stored r) nodes) = length-append (pointer_stored r new) (flat_map (pointer_stored r) nodes) in
    let a : length (pointer_stored r new) ≤ 1 = stored_one r.limits.frames new (node_above r new) in
    let b : length (flat_map (pointer_stored r) nodes) ≤ length nodes = stored_few r nodes in
    let c : length (new ∷ nodes) ≡ length nodes + 1 = omega arith in
    omega arith

-- the room that is left where one was pushed for each
pub room_left : {X A : Type 0} (g : X → A) (xs : List X) (old new : RoomyValue A) → new ≡ all_pushed (map g xs) old → new.room ≡ old.room - length xs
room_left g xs old new e = (let r : new.room ≡ old.room - length (map g xs) = ap (λ l. l.room) e in let n : length (map g xs) ≡ length xs = length-map xs g in omega arith)
