-- How many pieces an unmap has.
use Rattle.std.proofs.Common.{◌≡◌, ◌≤◌, ◌+◌, ◌-◌, ◌*◌, ◌++◌, ℕ, suc, List, [], ◌∷◌, Option, Some, None, Result, Ok, Err, length, map, ap, ◌∙◌, inl, inr, arith, length-append, IfOk}
use Rattle.std.specs.List.{flat_map}
use Rattle.std.proofs.Math.Nat.{mul-suc, suc-mul}
use Rattle.std.proofs.lemmas.List.{length-map}
use Rattle.std.proofs.lemmas.List.FromFn.{length-range_with_len}
use Rattle.wf_outside.specs.declared.memory.Memory.{Memory}
use Rattle.wf_outside.specs.Pages.{page_of}
use Rattle.wf_views.specs.declared.plan.Change.TheVariants as change
use Rattle.wf_views.specs.declared.plan.Piece.TheVariants.{Leave}
use Rattle.wf_views.specs.declared.plan.Plan.{Plan}
use Rattle.wf_views.specs.declared.records.Records.{Records}
use Rattle.wf_views.specs.Lists.{has_number}
use Rattle.wf_views.specs.Views.{ViewValue}
use Rattle.wf_homes.proofs.ListLemmas.{true_or_false}
use Rattle.wf_verdict.specs.Verdict.{pages_from}
use Rattle.wf_space.specs.declared.job.Job.TheVariants.{Unmap}
use Rattle.wf_space.specs.Jobs.{HasRoomFor}
use Rattle.wf_space.specs.Leaves.{node_for}
use Rattle.wf_space.specs.Unmapping.{cleared_at, leaf_cleared, leaves_cleared, unmap_pieces}

one_leaf : (frames page : ℕ) (v : ViewValue) → length (leaf_cleared frames page v) ≤ 1
one_leaf frames page v = elim (true_or_false (has_number v.met.items page)) [
  | inl t ↦ (rw t (at_most (node_for v page)))
  | inr t ↦ (rw t (omega arith))
]
  where
    at_most : (o : Option ℕ) → length (cleared_at frames page o) ≤ 1
    at_most None = omega arith
    at_most (Some node) = omega arith

page_leaves : (frames page : ℕ) (vs : List ViewValue) → length (leaves_cleared frames vs page) ≤ length vs
page_leaves frames page [] = omega arith
page_leaves frames page (v ∷ vs) =
    let n : length (leaf_cleared frames page v ++ leaves_cleared frames vs page) ≡ length (leaf_cleared frames page v) + length (leaves_cleared frames vs page) = length-append (leaf_cleared frames page v) (leaves_cleared frames vs page) in
    let a : length (leaf_cleared frames page v) ≤ 1 = one_leaf frames page v in
    let b : length (leaves_cleared frames vs page) ≤ length vs = page_leaves frames page vs in
    omega arith

all_leaves : (frames : ℕ) (vs : List ViewValue) (ps : List ℕ) → length (flat_map (leaves_cleared frames vs) ps) ≤ length ps * length vs
all_leaves frames vs [] = omega arith
all_leaves frames vs (p ∷ ps) =
    let n : length (leaves_cleared frames vs p ++ flat_map (leaves_cleared frames vs) ps) ≡ length (leaves_cleared frames vs p) + length (flat_map (leaves_cleared frames vs) ps) = length-append (leaves_cleared frames vs p) (flat_map (leaves_cleared frames vs) ps) in
    let a : length (leaves_cleared frames vs p) ≤ length vs = page_leaves frames p vs in
    let b : length (flat_map (leaves_cleared frames vs) ps) ≤ length ps * length vs = all_leaves frames vs ps in
    let c : suc (length ps) * length vs ≡ length ps * length vs + length vs = suc-mul (length ps) (length vs) in
    let d : length (flat_map (leaves_cleared frames vs) (p ∷ ps)) ≤ length ps * length vs + length vs = omega arith in
    rw c d

pub unmap_count : (r : Records) (va n : ℕ) → length (unmap_pieces r (pages_from va n)) ≤ n * (length r.views.views + 1)
unmap_count r va n =
    let ps : List ℕ = pages_from va n in
    let m : ℕ = length r.views.views in
    let a : length (flat_map (leaves_cleared r.limits.frames r.views.views) ps) ≤ length ps * m = all_leaves r.limits.frames r.views.views ps in
    let b : length (map Leave ps) ≡ length ps = length-map ps Leave in
    let c : length ps ≡ n = length-range_with_len (page_of va) n in
    let d : length (unmap_pieces r ps) ≡ length (flat_map (leaves_cleared r.limits.frames r.views.views) ps) + length (map Leave ps) = length-append (flat_map (leaves_cleared r.limits.frames r.views.views) ps) (map Leave ps) in
    let e : length ps * m ≡ n * m = ap (λ (k : ℕ). k * m) c in
    let f : m + 1 ≡ suc m = omega arith in
    let g : n * (m + 1) ≡ n * m + n = ap (λ (k : ℕ). n * k) f ∙ mul-suc n m in
    omega arith

going_count : (va n : ℕ) → length (map change.Going (pages_from va n)) ≡ n
going_count va n = length-map (pages_from va n) change.Going ∙ length-range_with_len (page_of va) n

pub unmap_room : (r : Records) (va n most : ℕ) (made : Result Plan Memory) → most ≡ n * (length r.views.views + 1) → IfOk made (λ plan. most ≤ plan.pieces.room) → IfOk made (λ plan. n ≤ plan.changes.room) → IfOk made (HasRoomFor r (Unmap va n))
unmap_room r va n most (Err e) is a b = tt
unmap_room r va n most (Ok plan) is a b =
    let k : length (unmap_pieces r (pages_from va n)) ≤ n * (length r.views.views + 1) = unmap_count r va n in
    let le : most ≤ plan.pieces.room = a in
    let g : length (map change.Going (pages_from va n)) ≡ n = going_count va n in
    let lc : n ≤ plan.changes.room = b in
    let first : length (unmap_pieces r (pages_from va n)) ≤ plan.pieces.room = (let s : length (unmap_pieces r (pages_from va n)) ≤ most = rw is k in omega arith) in
    record { pieces = first; changes = (let z : length (map change.Going (pages_from va n)) ≤ plan.changes.room = omega arith in z); records = tt }

-- what is left of the room
pub leave_room : (r : Records) (va n room : ℕ) → length (unmap_pieces r (pages_from va n)) ≤ room → n ≤ room - length (flat_map (leaves_cleared r.limits.frames r.views.views) (pages_from va n))
leave_room r va n room le =
    let ps : List ℕ = pages_from va n in
    let b : length (map Leave ps) ≡ n = length-map ps Leave ∙ length-range_with_len (page_of va) n in
    let d : length (unmap_pieces r ps) ≡ length (flat_map (leaves_cleared r.limits.frames r.views.views) ps) + length (map Leave ps) = length-append (flat_map (leaves_cleared r.limits.frames r.views.views) ps) (map Leave ps) in
    omega arith

pub going_room : (r : Records) (va n : ℕ) (plan : Plan) → HasRoomFor r (Unmap va n) plan → n ≤ plan.changes.room
going_room r va n plan has =
    let g : length (map change.Going (pages_from va n)) ≡ n = going_count va n in
    let le : length (map change.Going (pages_from va n)) ≤ plan.changes.room = has.changes in
    omega arith
