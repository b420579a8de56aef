-- The views as clauses see them: with one changed, one more and one less.
use Rattle.std.proofs.Common.{◌≡◌, ◌∙◌, ◌-◌, ◌<◌, max, ℕ, List, [], ◌∷◌, ◌++◌, Option, Some, None, refl, sym, ap, subst, arith, inl, inr}
use Rattle.std.specs.Prelude.{IsSome, IsSomeAnd}
use Rattle.std.specs.List.{AllByRecursion}
use Rattle.std.proofs.lemmas.Bool.{cases_eq, false≢true}
use Rattle.slab.specs.Slab.{Slab, get, with_value}
use Rattle.wf_views.specs.declared.views.Place.{Place}
use Rattle.wf_views.specs.declared.view.NodeAt.{NodeAt}
use Rattle.wf_views.specs.Lists.{RoomyValue, found_by, without_by}
use Rattle.wf_views.specs.Views.{ViewValue, ViewsValue, generation_number, view_of, with_view, with_added, with_removed, IsAbove}
use Rattle.wf_views.specs.Kept.{views_at, AreAt, IsKeyOf, place_number}
use Rattle.wf_views.proofs.KeyLemmas.{without_none, found_here, found_past}
use Rattle.wf_views.proofs.KeptLemmas.{views_changed, view_missed, views_cons, seen}

-- the residents of a view change
pub residents_are : (x v : ViewValue) (m : RoomyValue ℕ) (f : RoomyValue ℕ → RoomyValue ℕ) → x ≡ v → m ≡ f x.residents → record x { residents = m } ≡ record v { residents = f v.residents }
residents_are x v m f e g = ap {B = ViewValue} (λ (n : RoomyValue ℕ). record x { residents = n }) g ∙ ap (λ (y : ViewValue). record y { residents = f y.residents }) e

-- what a view has met changes
pub met_is : (x v : ViewValue) (m : RoomyValue ℕ) (f : RoomyValue ℕ → RoomyValue ℕ) → x ≡ v → m ≡ f x.met → record x { met = m } ≡ record v { met = f v.met }
met_is x v m f e g = ap {B = ViewValue} (λ (n : RoomyValue ℕ). record x { met = n }) g ∙ ap (λ (y : ViewValue). record y { met = f y.met }) e

-- the nodes of a view change
pub nodes_are : (x v : ViewValue) (m : RoomyValue NodeAt) (f : RoomyValue NodeAt → RoomyValue NodeAt) → x ≡ v → m ≡ f x.nodes → record x { nodes = m } ≡ record v { nodes = f v.nodes }
nodes_are x v m f e g = ap {B = ViewValue} (λ (n : RoomyValue NodeAt). record x { nodes = n }) g ∙ ap (λ (y : ViewValue). record y { nodes = f y.nodes }) e

-- what a view reaches changes
pub reach_is : (x v : ViewValue) (m : RoomyValue ℕ) (f : RoomyValue ℕ → RoomyValue ℕ) → x ≡ v → m ≡ f x.reach → record x { reach = m } ≡ record v { reach = f v.reach }
reach_is x v m f e g = ap {B = ViewValue} (λ (n : RoomyValue ℕ). record x { reach = n }) g ∙ ap (λ (y : ViewValue). record y { reach = f y.reach }) e

-- one view changes
pub one_changes : (w : ViewsValue) (s : Slab ViewValue) (ps qs : List Place) (last : Option ℕ) (room g k : ℕ) (x y : ViewValue) (f : ViewValue → ViewValue) → record { views = views_at s ps; last = last; room = room } ≡ w
    → AreAt s ps → IsKeyOf s qs g k → qs ≡ ps → get s k ≡ Some x → y ≡ f x → record { views = views_at (with_value s k y) ps; last = last; room = room } ≡ with_view w g f
one_changes w s ps qs last room g k x y f e at key same here is =
    ap {B = ViewsValue} (λ vs. record { views = vs; last = last; room = room }) (views_changed s ps g k x y f at (subst (λ rs. IsKeyOf s rs g k) same key) here is)
    ∙ ap (λ (v : ViewsValue). with_view v g f) e

-- one more view
pub one_more : (v w : ViewsValue) (x : ViewValue) (vs us : List ViewValue) (l : Option ℕ) (room g : ℕ) → record { views = us; last = l; room = room } ≡ w → w ≡ record v { room = max v.room 1 } → vs ≡ us ++ x ∷ [] → g ≡ x.generation
    → record { views = vs; last = Some g; room = room - 1 } ≡ with_added v x
one_more v w x vs us l room g e f a b =
    let u : us ≡ v.views = ap (λ (y : ViewsValue). y.views) (e ∙ f) in
    let r : room ≡ max v.room 1 = ap (λ (y : ViewsValue). y.room) (e ∙ f) in
    let less : room - 1 ≡ v.room - 1 = omega arith in
    let all : vs ≡ v.views ++ x ∷ [] = a ∙ ap (λ ws. ws ++ x ∷ []) u in
    λ i. record { views = all i; last = Some (b i); room = less i }

pub above_last : (v w : ViewsValue) (us : List ViewValue) (l : Option ℕ) (room g n : ℕ) → record { views = us; last = l; room = room } ≡ w → w ≡ record v { room = n } → IsAbove v.last g → IsAbove l g
above_last v w us l room g n e f h = let same : l ≡ v.last = ap (λ (y : ViewsValue). y.last) (e ∙ f) in subst (λ o. IsAbove o g) (sym same) h

-- one view less
pub one_less : (w : ViewsValue) (vs us : List ViewValue) (l : Option ℕ) (room g : ℕ) → record { views = us; last = l; room = room } ≡ w → vs ≡ without_by generation_number us g → record { views = vs; last = l; room = room } ≡ with_removed w g
one_less w vs us l room g e a = ap {B = ViewsValue} (λ ws. record { views = ws; last = l; room = room }) a ∙ ap (λ (v : ViewsValue). with_removed v g) e

-- no view has the generation
pub none_less : (w : ViewsValue) (s : Slab ViewValue) (ps qs : List Place) (l : Option ℕ) (room g : ℕ) → record { views = views_at s ps; last = l; room = room } ≡ w → AreAt s ps → qs ≡ ps → found_by place_number qs g ≡ None → w ≡ with_removed w g
none_less w s ps qs l room g e at same none =
    sym e ∙ ap {B = ViewsValue} (λ vs. record { views = vs; last = l; room = room }) (sym (without_none generation_number (views_at s ps) g (view_missed s ps g at (subst (λ rs. found_by place_number rs g ≡ None) same none))))
    ∙ ap (λ (v : ViewsValue). with_removed v g) e

pub none_found : (w : ViewsValue) (s : Slab ViewValue) (ps qs : List Place) (l : Option ℕ) (room g : ℕ) → record { views = views_at s ps; last = l; room = room } ≡ w → AreAt s ps → qs ≡ ps → found_by place_number qs g ≡ None → view_of w g ≡ None
none_found w s ps qs l room g e at same none =
    ap (λ (v : ViewsValue). view_of v g) (sym e) ∙ view_missed s ps g at (subst (λ rs. found_by place_number rs g ≡ None) same none)

pub some_room : (v w : ViewsValue) (us : List ViewValue) (l : Option ℕ) (room : ℕ) → record { views = us; last = l; room = room } ≡ w → w ≡ record v { room = max v.room 1 } → 0 < room
some_room v w us l room e f = let r : room ≡ max v.room 1 = ap (λ (y : ViewsValue). y.room) (e ∙ f) in omega arith

-- the view of a generation that is there is that at its key
pub only_view : (s : Slab ViewValue) (ps : List Place) (g k : ℕ) (x : ViewValue) → AreAt s ps → AllByRecursion (λ p. p.generation ≡ g → p.key ≡ k) ps → get s k ≡ Some x → (found_by generation_number (views_at s ps) g ≡ None → ⊥) → found_by generation_number (views_at s ps) g ≡ Some x
only_view s [] g k x h only e some = absurd (some refl)
only_view s (p ∷ ps) g k x h only e some =
    let v = seen (get s p.key) p.generation h.0 in
    let c = ap (λ vs. found_by generation_number vs g) (views_cons s p ps v.0 v.1) in
    elim (cases_eq p.generation g) [
      | inl same ↦ (
          let at : get s p.key ≡ Some x = ap (get s) (only.0 same) ∙ e in
          let is : v.0 ≡ x = cc in
          c ∙ found_here generation_number v.0 (views_at s ps) g (v.2 ∙ same) ∙ ap Some is
          )
      | inr differs ↦ (
          let past = found_past generation_number v.0 (views_at s ps) g (λ same. differs (sym v.2 ∙ same)) in
          c ∙ past ∙ only_view s ps g k x h.1 only.1 e (λ none. some (c ∙ past ∙ none))
          )
    ]

some_not : (o : Option ViewValue) → IsSome o → o ≡ None → ⊥
some_not o h e = false≢true (subst IsSome e h)

pub some_of : (P : ViewValue → Type 0) (o : Option ViewValue) → IsSomeAnd o P → IsSome o
some_of P None h = absurd h
some_of P (Some v) h = refl

pub key_view : (w : ViewsValue) (s : Slab ViewValue) (ps qs : List Place) (last : Option ℕ) (room g k : ℕ) (x y : ViewValue) → record { views = views_at s ps; last = last; room = room } ≡ w → AreAt s ps → IsKeyOf s qs g k → qs ≡ ps → get s k ≡ Some x → y ≡ x → IsSome (view_of w g) → view_of w g ≡ Some y
key_view w s ps qs last room g k x y e at key same here is some =
    let f = ap (λ (v : ViewsValue). view_of v g) e in
    sym f ∙ only_view s ps g k x at (subst (λ rs. IsKeyOf s rs g k) same key).only here (λ none. some_not (view_of w g) some (sym f ∙ none)) ∙ ap Some (sym is)
