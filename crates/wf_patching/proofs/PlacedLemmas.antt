-- Text, shared pages and nodes in frames that are left, one after another.
use Rattle.std.proofs.Common.{◌≡◌, ◌+◌, ◌∙◌, ℕ, zero, suc, List, [], ◌∷◌, drop, length, take, Some, refl, ap, arith, subst}
use Rattle.wf_outside.specs.Pages.{DataPageValue}
use Rattle.wf_outside.specs.declared.image.Jump.{Jump}
use Rattle.wf_views.specs.declared.pages.PageAt.{PageAt}
use Rattle.wf_views.specs.declared.view.NodeAt.{NodeAt}
use Rattle.wf_views.specs.Lists.{RoomyValue}
use Rattle.wf_views.specs.Views.{ViewValue}
use Rattle.wf_views.specs.declared.view.TextAt.{TextAt}
use Rattle.wf_mapping.specs.declared.nodes.MissingNode.{MissingNode}
use Rattle.wf_mapping.specs.declared.nodes.NewNode.{NewNode}
use Rattle.wf_mapping.specs.Layout.{page_placed}
use Rattle.wf_mapping.specs.Nodes.{node_placed, nodes_placed}
use Rattle.wf_creating.specs.Layout.{full, texts_placed}
use Rattle.wf_creating.proofs.TextLemmas.{texts_laid}
use Rattle.wf_patching.specs.Layout.{shared_placed}

pub none_shared : (ps : List DataPageValue) → shared_placed ps [] ≡ []
none_shared [] = refl
none_shared (p ∷ ps) = refl

-- what is behind the first of some frames are the first of those behind them
drop_taken : (n m : ℕ) (xs : List ℕ) → drop n (take (n + m) xs) ≡ take m (drop n xs)
drop_taken zero m xs = (let e : 0 + m ≡ m = omega arith in ap (λ (k : ℕ). take k xs) e)
drop_taken (suc n) zero [] = (let e : suc n + 0 ≡ suc (n + 0) = omega arith in rw e refl)
drop_taken (suc n) (suc m) [] = (let e : suc n + suc m ≡ suc (n + suc m) = omega arith in rw e refl)
drop_taken (suc n) m (x ∷ xs) = (let e : suc n + m ≡ suc (n + m) = omega arith in rw e (drop_taken n m xs))

shared_first : (ps : List DataPageValue) (more : ℕ) (fs : List ℕ) → shared_placed ps (take (length ps + more) fs) ≡ shared_placed ps fs
shared_first [] more fs = refl
shared_first (p ∷ ps) more [] = (let e : length (p ∷ ps) + more ≡ suc (length ps + more) = omega arith in rw e refl)
shared_first (p ∷ ps) more (f ∷ fs) = (let e : length (p ∷ ps) + more ≡ suc (length ps + more) = omega arith in rw e (ap (λ (xs : List PageAt). page_placed p.write p.number f ∷ xs) (shared_first ps more fs)))

nodes_first : (ms : List MissingNode) (more : ℕ) (fs : List ℕ) → nodes_placed ms (take (length ms + more) fs) ≡ nodes_placed ms fs
nodes_first [] more fs = refl
nodes_first (m ∷ ms) more [] = (let e : length (m ∷ ms) + more ≡ suc (length ms + more) = omega arith in rw e refl)
nodes_first (m ∷ ms) more (f ∷ fs) = (let e : length (m ∷ ms) + more ≡ suc (length ms + more) = omega arith in rw e (ap (λ (xs : List NewNode). node_placed m f ∷ xs) (nodes_first ms more fs)))

-- the lowest free frames suffice, as many as there are pages and nodes
module _ (ns : List ℕ) (ps : List DataPageValue) (ls os : List MissingNode) (free : List ℕ) where
  abbrev pub taken : List ℕ
  taken = take (length ns + length ps + length ls + length os) free

  pub text_placed : texts_placed ns taken ≡ texts_placed ns free
  text_placed =
      let e : length ns + length ps + length ls + length os ≡ length ns + (length ps + length ls + length os) = omega arith in
      ap (λ (k : ℕ). texts_placed ns (take k free)) e ∙ texts_laid ns (length ps + length ls + length os) free

  behind_text : drop (length ns) taken ≡ take (length ps + (length ls + length os)) (drop (length ns) free)
  behind_text =
      let e : length ns + length ps + length ls + length os ≡ length ns + (length ps + (length ls + length os)) = omega arith in
      ap (λ (k : ℕ). drop (length ns) (take k free)) e ∙ drop_taken (length ns) (length ps + (length ls + length os)) free

  pub pages_placed_first : shared_placed ps (drop (length ns) taken) ≡ shared_placed ps (drop (length ns) free)
  pages_placed_first = ap (shared_placed ps) behind_text ∙ shared_first ps (length ls + length os) (drop (length ns) free)

  behind_pages : drop (length ps) (drop (length ns) taken) ≡ take (length ls + length os) (drop (length ps) (drop (length ns) free))
  behind_pages = ap (drop (length ps)) behind_text ∙ drop_taken (length ps) (length ls + length os) (drop (length ns) free)

  pub lacked_placed : nodes_placed ls (drop (length ps) (drop (length ns) taken)) ≡ nodes_placed ls (drop (length ps) (drop (length ns) free))
  lacked_placed = ap (nodes_placed ls) behind_pages ∙ nodes_first ls (length os) (drop (length ps) (drop (length ns) free))

  pub own_placed : nodes_placed os (drop (length ls) (drop (length ps) (drop (length ns) taken))) ≡ nodes_placed os (drop (length ls) (drop (length ps) (drop (length ns) free)))
  own_placed =
      let rest : List ℕ = drop (length ps) (drop (length ns) free) in
      let z : length os ≡ length os + 0 = omega arith in
      ap (λ (fs : List ℕ). nodes_placed os (drop (length ls) fs)) behind_pages
      ∙ ap (nodes_placed os) (drop_taken (length ls) (length os) rest)
      ∙ ap (λ (k : ℕ). nodes_placed os (take k (drop (length ls) rest))) z
      ∙ nodes_first os 0 (drop (length ls) rest)

-- a view whose parts are those of another
pub view_is : (parent patches g h a b : ℕ) (ns ms : RoomyValue NodeAt) (ts us : List TextAt) (js ks : List Jump) (rs qs xs ys none : RoomyValue ℕ) → g ≡ h → a ≡ b → ns ≡ ms → ts ≡ us → js ≡ ks → rs ≡ qs → xs ≡ none → ys ≡ none
    → Path ViewValue (record { generation = g; parent = Some parent; root = a; nodes = ns; text = ts; jumps = js; patches = patches; reach = rs; met = xs; residents = ys })
    (record { generation = h; parent = Some parent; root = b; nodes = ms; text = us; jumps = ks; patches = patches; reach = qs; met = none; residents = none })
view_is parent patches g h a b ns ms ts us js ks rs qs xs ys none e1 e2 e3 e4 e5 e6 e7 e8 = rw (e1, e2, e3, e4, e5, e6, e7, e8) refl

pub roomy_is : {A : Type 0} (l : RoomyValue A) (xs : List A) → l.items ≡ xs → l.room ≡ 0 → l ≡ full xs
roomy_is {A = A} l xs e f = subst (λ (ys : List A). l ≡ record { items = ys; room = 0 }) e (subst (λ (k : ℕ). l ≡ record { items = l.items; room = k }) f refl)

-- what lies in the frames that are left, where all before it is the same
pub shared_cong : (free ns ms : List ℕ) (ps qs : List DataPageValue) → ns ≡ ms → ps ≡ qs → shared_placed ps (drop (length ns) free) ≡ shared_placed qs (drop (length ms) free)
shared_cong free ns ms ps qs a b = rw (a, b) refl

pub nodes_cong : (free ns ms : List ℕ) (ps qs : List DataPageValue) (ls ks : List MissingNode) → ns ≡ ms → ps ≡ qs → ls ≡ ks → nodes_placed ls (drop (length ps) (drop (length ns) free)) ≡ nodes_placed ks (drop (length qs) (drop (length ms) free))
nodes_cong free ns ms ps qs ls ks a b c = rw (a, b, c) refl

pub table_cong : (free ns ms : List ℕ) (ps qs : List DataPageValue) (ls ks os us : List MissingNode) → ns ≡ ms → ps ≡ qs → ls ≡ ks → os ≡ us → nodes_placed os (drop (length ls) (drop (length ps) (drop (length ns) free))) ≡ nodes_placed us (drop (length ks) (drop (length qs) (drop (length ms) free)))
table_cong free ns ms ps qs ls ks os us a b c d = rw (a, b, c, d) refl

pub need_cong : (ns ms : List ℕ) (ps qs : List DataPageValue) (ls ks os us : List MissingNode) → ns ≡ ms → ps ≡ qs → ls ≡ ks → os ≡ us → length ns + length ps + length ls + length os ≡ length ms + length qs + length ks + length us
need_cong ns ms ps qs ls ks os us a b c d = rw (a, b, c, d) refl
