-- The records after the changes of a birth.
use Rattle.std.proofs.Common.{◌≡◌, ◌+◌, ◌++◌, ◌||◌, ℕ, zero, suc, List, [], ◌∷◌, Bool, true, false, Option, Some, None, length, map, refl, sym, ap, ◌∙◌, inl, inr, arith, nat_eq, if◌then◌else◌}
use Rattle.std.specs.Prelude.{slice_get, sum_by}
use Rattle.std.specs.Option.{option_map}
use Rattle.std.specs.Set.{is_member}
use Rattle.std.proofs.lemmas.Bool.Decides.{nat_tests}
use Rattle.std.proofs.lemmas.List.Sums.{fold-append, sum_by-cons}
use Rattle.wf_frames.specs.declared.state.Frame.{Frame}
use Rattle.wf_frames.specs.Frames.{all_taken, changed_at, taken}
use Rattle.wf_frames.proofs.FrameLemmas.{length_changed}
use Rattle.wf_views.specs.declared.plan.Change.TheVariants.{Born}
use Rattle.wf_views.specs.declared.records.Records.{Records}
use Rattle.wf_views.specs.declared.view.TextAt.{TextAt}
use Rattle.wf_views.specs.Lists.{pushed}
use Rattle.wf_views.specs.Views.{ViewValue, with_added}
use Rattle.wf_homes.proofs.ListLemmas.{true_or_false}
use Rattle.wf_space.specs.Changes.{born_with, with_change, with_changes}
use Rattle.wf_mapping.specs.declared.nodes.NewNode.{NewNode}
use Rattle.wf_mapping.specs.Plans.{node_marked}
use Rattle.wf_creating.specs.Plans.{text_marked}

-- the frames of text and of nodes
abbrev pub frames_born : List TextAt → List NewNode → List ℕ
frames_born text nodes = map (λ (t : TextAt). t.frame) text ++ map (λ (n : NewNode). n.node.frame) nodes

-- the records in which these frames are taken
abbrev pub frames_used : List ℕ → Records → Records
frames_used fs r = record r { frames = record r.frames { frames = all_taken fs r.frames.frames } }

texts_marked : (text : List TextAt) (r : Records) → with_changes r (map text_marked text) ≡ frames_used (map (λ (t : TextAt). t.frame) text) r
texts_marked [] r = refl
texts_marked (t ∷ ts) r = texts_marked ts (with_change r (text_marked t))

nodes_marked : (nodes : List NewNode) (r : Records) → with_changes r (map node_marked nodes) ≡ frames_used (map (λ (n : NewNode). n.node.frame) nodes) r
nodes_marked [] r = refl
nodes_marked (n ∷ ns) r = nodes_marked ns (with_change r (node_marked n))

used_twice : (ns ms : List ℕ) (frames : List Frame) → all_taken ms (all_taken ns frames) ≡ all_taken (ns ++ ms) frames
used_twice [] ms frames = refl
used_twice (n ∷ ns) ms frames = used_twice ns ms (changed_at frames n taken)

-- the records after a birth
abbrev pub recorded : List TextAt → List NewNode → ViewValue → Records → Records
recorded text nodes view r =
    record r {
      frames = record r.frames { frames = all_taken (frames_born text nodes) r.frames.frames };
      views = with_added r.views view;
      born = pushed (born_with view) r.born;
    }

pub all_changed : (text : List TextAt) (nodes : List NewNode) (view : ViewValue) (r : Records) → with_changes r (map text_marked text ++ map node_marked nodes ++ Born view ∷ []) ≡ recorded text nodes view r
all_changed text nodes view r =
    fold-append with_change r (map text_marked text ++ map node_marked nodes) (Born view ∷ [])
    ∙ ap (λ (x : Records). with_change x (Born view))
    (fold-append with_change r (map text_marked text) (map node_marked nodes)
    ∙ ap (λ (x : Records). with_changes x (map node_marked nodes)) (texts_marked text r)
    ∙ nodes_marked nodes (frames_used (map (λ (t : TextAt). t.frame) text) r)
    ∙ ap (λ (fs : List Frame). let q : Records = record r { frames = record r.frames { frames = fs } } in q) (used_twice (map (λ (t : TextAt). t.frame) text) (map (λ (n : NewNode). n.node.frame) nodes) r.frames.frames))

-- a frame after these are taken
abbrev pub taken_if : Bool → Frame → Frame
taken_if used f = if used then taken f else f

eq_next : (a b : ℕ) → nat_eq (suc a) (suc b) ≡ nat_eq a b
eq_next a b = elim (true_or_false (nat_eq a b)) [
  | inl t ↦ (let u : nat_eq (suc a) (suc b) ≡ true = grind (arith, nat_tests) in u ∙ sym t)
  | inr t ↦ (let u : nat_eq (suc a) (suc b) ≡ false = grind (arith, nat_tests) in u ∙ sym t)
]

same_frame : (o : Option Frame) → o ≡ option_map (taken_if false) o
same_frame None = refl
same_frame (Some x) = refl

pub changed_get : (fs : List Frame) (n k : ℕ) → slice_get (changed_at fs n taken) k ≡ option_map (taken_if (nat_eq k n)) (slice_get fs k)
changed_get [] n k = refl
changed_get (f ∷ fs) zero zero = refl
changed_get (f ∷ fs) zero (suc k) = (let e : nat_eq (suc k) 0 ≡ false = grind (arith, nat_tests) in rw e (same_frame (slice_get fs k)))
changed_get (f ∷ fs) (suc n) zero = (let e : nat_eq 0 (suc n) ≡ false = grind (arith, nat_tests) in rw e refl)
changed_get (f ∷ fs) (suc n) (suc k) = changed_get fs n k ∙ ap (λ (b : Bool). option_map (taken_if b) (slice_get fs k)) (sym (eq_next k n))

pub taken_get : (ns : List ℕ) (fs : List Frame) (k : ℕ) → slice_get (all_taken ns fs) k ≡ option_map (taken_if (is_member nat_eq ns k)) (slice_get fs k)
taken_get [] fs k = same_frame (slice_get fs k)
taken_get (n ∷ ns) fs k =
    taken_get ns (changed_at fs n taken) k
    ∙ ap (option_map (taken_if (is_member nat_eq ns k))) (changed_get fs n k)
    ∙ both (nat_eq k n) (is_member nat_eq ns k) (slice_get fs k)
  where
    both : (a b : Bool) (o : Option Frame) → option_map (taken_if b) (option_map (taken_if a) o) ≡ option_map (taken_if (a || b)) o
    both a b None = refl
    both true true (Some x) = refl
    both true false (Some x) = refl
    both false true (Some x) = refl
    both false false (Some x) = refl

pub taken_long : (ns : List ℕ) (fs : List Frame) → length (all_taken ns fs) ≡ length fs
taken_long [] fs = refl
taken_long (n ∷ ns) fs = taken_long ns (changed_at fs n taken) ∙ length_changed fs n taken

changed_sum : (fs : List Frame) (n : ℕ) → sum_by (λ f. f.incarnation) (changed_at fs n taken) ≡ sum_by (λ f. f.incarnation) fs
changed_sum [] n = refl
changed_sum (f ∷ fs) zero = sum_by-cons (λ (f : Frame). f.incarnation) (taken f) fs ∙ sym (sum_by-cons (λ (f : Frame). f.incarnation) f fs)
changed_sum (f ∷ fs) (suc n) = sum_by-cons (λ (f : Frame). f.incarnation) f (changed_at fs n taken) ∙ ap (λ (k : ℕ). f.incarnation + k) (changed_sum fs n) ∙ sym (sum_by-cons (λ (f : Frame). f.incarnation) f fs)

pub taken_sum : (ns : List ℕ) (fs : List Frame) → sum_by (λ f. f.incarnation) (all_taken ns fs) ≡ sum_by (λ f. f.incarnation) fs
taken_sum [] fs = refl
taken_sum (n ∷ ns) fs = taken_sum ns (changed_at fs n taken) ∙ changed_sum fs n
