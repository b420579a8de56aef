-- The records after the changes of a mapping, part by part.
use Rattle.std.proofs.Common.{◌≡◌, ◌+◌, ◌==◌, ◌++◌, ℕ, List, [], ◌∷◌, Bool, true, false, Option, Some, None, map, refl, sym, append_assoc, ap, ◌∙◌, inl, inr, arith, if◌then◌else◌}
use Rattle.std.specs.List.{filter, flat_map}
use Rattle.std.specs.Option.{option_map}
use Rattle.std.proofs.lemmas.Bool.Decides.{nat_tests}
use Rattle.std.proofs.lemmas.List.{append-nil}
use Rattle.std.proofs.lemmas.List.Sums.{fold-append}
use Rattle.wf_frames.specs.Frames.{FramesValue, with_frame}
use Rattle.wf_views.specs.declared.pages.PageAt.{PageAt}
use Rattle.wf_views.specs.declared.plan.Change.{Change}
use Rattle.wf_views.specs.declared.plan.Change.TheVariants.{Birth, Mark, Page}
use Rattle.wf_views.specs.declared.records.Records.{Records}
use Rattle.wf_views.specs.declared.view.NodeAt.{NodeAt}
use Rattle.wf_views.specs.Lists.{RoomyValue, number_added, pushed}
use Rattle.wf_views.specs.Pages.{page_added}
use Rattle.wf_views.specs.Views.{ViewValue, ViewsValue, generation_number, view_of, with_node, with_reach, with_view}
use Rattle.wf_homes.specs.Homes.{DataOf, NodeOf, Tenant, TextOf}
use Rattle.wf_homes.proofs.FoundLemmas.{found_changed}
use Rattle.wf_homes.proofs.ListLemmas.{true_or_false}
use Rattle.wf_space.specs.Changes.{marked, with_change, with_changes}
use Rattle.wf_mapping.specs.declared.nodes.NewNode.{NewNode}
use Rattle.wf_mapping.specs.Laws.{node_home, page_home}
use Rattle.wf_mapping.specs.Plans.{changes_for, node_marked, node_noted, page_marked}

-- a page of data lies there
abbrev pub is_data : Tenant → Bool
is_data (TextOf g page) = false
is_data (DataOf page) = true
is_data (NodeOf g level prefix) = false

abbrev pub mark_of : Tenant × ℕ → Change
mark_of h = Mark h.1 (is_data h.0)

-- the frames after homes are taken
abbrev pub frames_taken : List (Tenant × ℕ) → FramesValue → FramesValue
frames_taken [] v = v
frames_taken (h ∷ hs) v = frames_taken hs (with_frame v h.1 (marked v.last_birth (is_data h.0)))

-- the pages after more are recorded
abbrev pub pages_added : List PageAt → RoomyValue PageAt → RoomyValue PageAt
pages_added [] v = v
pages_added (p ∷ ps) v = pages_added ps (page_added p v)

-- the views after one reaches a place by a new node
abbrev pub place_in : NewNode → ViewsValue → ViewsValue
place_in n v = if n.node.level == 0 then with_view v n.generation (with_reach n.node.prefix) else v

-- the views after new nodes
abbrev pub views_noted : List NewNode → ViewsValue → ViewsValue
views_noted [] v = v
views_noted (n ∷ ns) v = views_noted ns (place_in n (with_view v n.generation (with_node n.node)))

pub marks_are : (ps : List PageAt) (ns : List NewNode) → map page_marked ps ++ map node_marked ns ≡ map mark_of (map page_home ps ++ map node_home ns)
marks_are [] ns = of_nodes ns
  where
    of_nodes : (ns : List NewNode) → map node_marked ns ≡ map mark_of (map node_home ns)
    of_nodes [] = refl
    of_nodes (n ∷ ns) = ap (λ (cs : List Change). node_marked n ∷ cs) (of_nodes ns)
marks_are (p ∷ ps) ns = ap (λ (cs : List Change). page_marked p ∷ cs) (marks_are ps ns)

pub marks_made : (hs : List (Tenant × ℕ)) (r : Records) → with_changes r (map mark_of hs) ≡ record r { frames = frames_taken hs r.frames }
marks_made [] r = refl
marks_made (h ∷ hs) r = marks_made hs (with_change r (mark_of h))

pub pages_made : (ps : List PageAt) (r : Records) → with_changes r (map Page ps) ≡ record r { pages = pages_added ps r.pages }
pages_made [] r = refl
pages_made (p ∷ ps) r = pages_made ps (with_change r (Page p))

nodes_made : (ns : List NewNode) (r : Records) → with_changes r (flat_map node_noted ns) ≡ record r { views = views_noted ns r.views }
nodes_made [] r = refl
nodes_made (n ∷ ns) r = elim (true_or_false (n.node.level == 0)) [
  | inl t ↦ (rw t (nodes_made ns (record r { views = with_view (with_view r.views n.generation (with_node n.node)) n.generation (with_reach n.node.prefix) })))
  | inr t ↦ (rw t (nodes_made ns (record r { views = with_view r.views n.generation (with_node n.node) })))
]

-- the records after the changes
abbrev pub recorded : ℕ → List PageAt → List NewNode → Records → Records
recorded n pages nodes r =
    record r {
      frames = frames_taken (map page_home pages ++ map node_home nodes) r.frames;
      pages = pages_added pages r.pages;
      births = r.births + n;
      views = views_noted nodes r.views;
    }

pub all_changes : (n : ℕ) (pages : List PageAt) (nodes : List NewNode) (r : Records) → with_changes r (changes_for n pages nodes) ≡ recorded n pages nodes r
all_changes n pages nodes r =
    fold-append with_change r (marks ++ map Page pages ++ Birth n ∷ []) (flat_map node_noted nodes)
    ∙ ap (λ (x : Records). with_changes x (flat_map node_noted nodes))
    (fold-append with_change r (marks ++ map Page pages) (Birth n ∷ [])
    ∙ ap (λ (x : Records). with_changes x (Birth n ∷ [])) (fold-append with_change r marks (map Page pages) ∙ ap (λ (x : Records). with_changes x (map Page pages)) (ap (with_changes r) (marks_are pages nodes) ∙ marks_made (map page_home pages ++ map node_home nodes) r) ∙ pages_made pages r1))
    ∙ nodes_made nodes r3
  where
    marks : List Change
    marks = map page_marked pages ++ map node_marked nodes

    r1 : Records
    r1 = record r { frames = frames_taken (map page_home pages ++ map node_home nodes) r.frames }

    r3 : Records
    r3 = record r {
      frames = frames_taken (map page_home pages ++ map node_home nodes) r.frames;
      pages = pages_added pages r.pages;
      births = r.births + n;
    }

-- the nodes of a view after new ones
abbrev pub nodes_with : List NewNode → ℕ → RoomyValue NodeAt → RoomyValue NodeAt
nodes_with [] g l = l
nodes_with (n ∷ ns) g l = nodes_with ns g (if n.generation == g then pushed n.node l else l)

-- a place that is reached by a new node
abbrev pub reach_next : NewNode → ℕ → RoomyValue ℕ → RoomyValue ℕ
reach_next n g l = if n.generation == g then (if n.node.level == 0 then number_added n.node.prefix l else l) else l

-- the places of a view after new nodes
abbrev pub reach_with : List NewNode → ℕ → RoomyValue ℕ → RoomyValue ℕ
reach_with [] g l = l
reach_with (n ∷ ns) g l = reach_with ns g (reach_next n g l)

-- a view after new nodes
abbrev pub noted : List NewNode → ViewValue → ViewValue
noted ns v = record v { nodes = nodes_with ns v.generation v.nodes; reach = reach_with ns v.generation v.reach }

-- one view after one new node
abbrev pub one_noted : NewNode → ViewValue → ViewValue
one_noted n v = record v { nodes = if n.generation == v.generation then pushed n.node v.nodes else v.nodes; reach = reach_next n v.generation v.reach }

pub one_view : (n : NewNode) (v : ViewsValue) (g : ℕ) → view_of (place_in n (with_view v n.generation (with_node n.node))) g ≡ option_map (one_noted n) (view_of v g)
one_view n v g = by_level (n.node.level == 0) refl
  where
    first : view_of (with_view v n.generation (with_node n.node)) g ≡ option_map (λ x. if generation_number x == n.generation then with_node n.node x else x) (view_of v g)
    first = found_changed generation_number (with_node n.node) (λ x. refl) v.views n.generation g

    flip : (a b : ℕ) (t : Bool) → (a == b) ≡ t → (b == a) ≡ t
    flip a b true e = let k : a ≡ b = grind (arith, nat_tests) in grind (arith, nat_tests)
    flip a b false e = grind (arith, nat_tests)

    by_level : (b : Bool) → (n.node.level == 0) ≡ b → view_of (place_in n (with_view v n.generation (with_node n.node))) g ≡ option_map (one_noted n) (view_of v g)
    by_level true e =
        rw e (found_changed generation_number (with_reach n.node.prefix) (λ x. refl) (with_view v n.generation (with_node n.node)).views n.generation g
        ∙ ap (option_map (λ (x : ViewValue). if generation_number x == n.generation then with_reach n.node.prefix x else x)) first
        ∙ at (view_of v g))
      where
        at : (o : Option ViewValue) → option_map (λ (x : ViewValue). if generation_number x == n.generation then with_reach n.node.prefix x else x) (option_map (λ x. if generation_number x == n.generation then with_node n.node x else x) o) ≡ option_map (one_noted n) o
        at None = refl
        at (Some x) = elim (true_or_false (x.generation == n.generation)) [
          | inl t ↦ (let u : (n.generation == x.generation) ≡ true = flip x.generation n.generation true t in rw (t, t, u, e) refl)
          | inr t ↦ (let u : (n.generation == x.generation) ≡ false = flip x.generation n.generation false t in rw (t, t, u) refl)
        ]
    by_level false e = rw e (first ∙ at (view_of v g))
      where
        at : (o : Option ViewValue) → option_map (λ x. if generation_number x == n.generation then with_node n.node x else x) o ≡ option_map (one_noted n) o
        at None = refl
        at (Some x) = elim (true_or_false (x.generation == n.generation)) [
          | inl t ↦ (let u : (n.generation == x.generation) ≡ true = flip x.generation n.generation true t in rw (t, u, e) refl)
          | inr t ↦ (let u : (n.generation == x.generation) ≡ false = flip x.generation n.generation false t in rw (t, u) refl)
        ]

pub view_noted : (ns : List NewNode) (v : ViewsValue) (g : ℕ) → view_of (views_noted ns v) g ≡ option_map (noted ns) (view_of v g)
view_noted [] v g = at (view_of v g)
  where
    at : (o : Option ViewValue) → o ≡ option_map (noted []) o
    at None = refl
    at (Some x) = refl
view_noted (n ∷ ns) v g =
    view_noted ns (place_in n (with_view v n.generation (with_node n.node))) g
    ∙ ap (option_map (noted ns)) (one_view n v g)
    ∙ at (view_of v g)
  where
    at : (o : Option ViewValue) → option_map (noted ns) (option_map (one_noted n) o) ≡ option_map (noted (n ∷ ns)) o
    at None = refl
    at (Some x) = refl

-- a new node is one of a generation
abbrev pub is_of : ℕ → NewNode → Bool
is_of g n = n.generation == g

pub nodes_are : (ns : List NewNode) (g : ℕ) (l : RoomyValue NodeAt) → (nodes_with ns g l).items ≡ l.items ++ map (λ (n : NewNode). n.node) (filter (is_of g) ns)
nodes_are [] g l = sym (append-nil l.items)
nodes_are (n ∷ ns) g l = by_test (n.generation == g) (λ k. nodes_are ns g k)
  where
    by_test : (b : Bool) → ((k : RoomyValue NodeAt) → (nodes_with ns g k).items ≡ k.items ++ map (λ (n : NewNode). n.node) (filter (is_of g) ns)) → (nodes_with ns g (if b then pushed n.node l else l)).items ≡ l.items ++ map (λ (n : NewNode). n.node) (if b then n ∷ filter (is_of g) ns else filter (is_of g) ns)
    by_test true rest = rest (pushed n.node l) ∙ append_assoc l.items (n.node ∷ []) (map (λ (n : NewNode). n.node) (filter (is_of g) ns))
    by_test false rest = rest l

-- the last view stays
pub last_noted : (ns : List NewNode) (v : ViewsValue) → (views_noted ns v).last ≡ v.last
last_noted [] v = refl
last_noted (n ∷ ns) v = last_noted ns (place_in n (with_view v n.generation (with_node n.node))) ∙ one
  where
    one : (place_in n (with_view v n.generation (with_node n.node))).last ≡ v.last
    one = elim (true_or_false (n.node.level == 0)) [
      | inl t ↦ (rw t refl)
      | inr t ↦ (rw t refl)
    ]
