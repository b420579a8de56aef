-- What is found by one pass over a list, or made by one.
use Rattle.std.proofs.Common.{◌≡◌, ◌≤◌, ◌+◌, ◌++◌, ◌==◌, ℕ, List, [], ◌∷◌, Bool, true, false, Some, drop, length, refl, sym, ap, ◌∙◌, inl, inr, is_some, append_assoc}
use Rattle.std.specs.Prelude.{slice_get}
use Rattle.std.specs.Option.{option_map}
use Rattle.std.specs.List.{flat_map, list_any}
use Rattle.std.proofs.lemmas.List.{append-nil}
use Rattle.wf_views.specs.declared.view.TextAt.{TextAt}
use Rattle.wf_views.specs.Lists.{found_by}
use Rattle.wf_homes.specs.Kept.{text_page}
use Rattle.wf_homes.proofs.ListLemmas.{true_or_false}
use Rattle.wf_space.proofs.PushLemmas.{drop_all}
use Rattle.wf_mapping.specs.declared.nodes.MissingNode.{MissingNode}
use Rattle.wf_mapping.specs.Nodes.{nodes_placed}
use Rattle.wf_mapping.proofs.MapLemmas.{drop_next}

-- one more is made
pub flat_next : {X A : Type 0} (f : X → List A) (xs : List X) (i : ℕ) (x : X) (now next all : List A) → slice_get xs i ≡ Some x → next ≡ now ++ f x → now ++ flat_map f (drop i xs) ≡ all → next ++ flat_map f (drop (i + 1) xs) ≡ all
flat_next {X = X} {A = A} f xs i x now next all e is made =
    ap (λ (ys : List A). ys ++ flat_map f (drop (i + 1) xs)) is
    ∙ append_assoc now (f x) (flat_map f (drop (i + 1) xs))
    ∙ sym (ap (λ (ys : List X). now ++ flat_map f ys) (drop_next xs i x e))
    ∙ made

pub flat_end : {X A : Type 0} (f : X → List A) (xs : List X) (i : ℕ) (now all : List A) → length xs ≤ i → now ++ flat_map f (drop i xs) ≡ all → now ≡ all
flat_end {X = X} {A = A} f xs i now all le made = sym (append-nil now) ∙ sym (ap (λ (ys : List X). now ++ flat_map f ys) (drop_all xs i le)) ∙ made

module _ {X : Type 0} (p : X → Bool) where
  pub any_next : (xs : List X) (i : ℕ) (x : X) (all : Bool) → slice_get xs i ≡ Some x → p x ≡ false → list_any p (drop i xs) ≡ all → list_any p (drop (i + 1) xs) ≡ all
  any_next xs i x all e f is =
      let past : list_any p (x ∷ drop (i + 1) xs) ≡ list_any p (drop (i + 1) xs) = rw f refl in
      sym past ∙ sym (ap (list_any p) (drop_next xs i x e)) ∙ is

  pub any_found : (xs : List X) (i : ℕ) (x : X) (all : Bool) → slice_get xs i ≡ Some x → p x ≡ true → list_any p (drop i xs) ≡ all → true ≡ all
  any_found xs i x all e t is =
      let here : list_any p (x ∷ drop (i + 1) xs) ≡ true = rw t refl in
      sym here ∙ sym (ap (list_any p) (drop_next xs i x e)) ∙ is

-- a page is among pages of text where one of its number is found there
pub has_text : (text : List TextAt) (page : ℕ) → list_any (λ other. other.page == page) text ≡ is_some (option_map (λ other. other.frame) (found_by text_page text page))
has_text [] page = refl
has_text (x ∷ xs) page = elim (true_or_false (x.page == page)) [
  | inl t ↦ (rw t refl)
  | inr t ↦ (rw t (has_text xs page))
]

pub none_placed : (missing : List MissingNode) → nodes_placed missing [] ≡ []
none_placed [] = refl
none_placed (x ∷ xs) = refl
