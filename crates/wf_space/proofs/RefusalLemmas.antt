-- What jobs are refused for by the records, and by the table of calls.
use Rattle.std.proofs.Common.{◌≡◌, ◌==◌, ◌||◌, ℕ, List, [], ◌∷◌, Bool, true, false, not, Option, Some, None, refl, sym, ap, ◌∙◌, inl, inr, is_some}
use Rattle.std.specs.Prelude.{unwrap_or}
use Rattle.std.specs.Option.{option_map}
use Rattle.std.specs.List.{find, flat_map}
use Rattle.std.specs.Set.{is_member}
use Rattle.wf_outside.specs.declared.refusal.Refusal.{Refusal}
use Rattle.wf_outside.specs.declared.refusal.Refusal.TheVariants.{Absent, Leaving}
use Rattle.wf_outside.specs.Lists.{first_of}
use Rattle.wf_frames.specs.Layout.{WordsValue}
use Rattle.wf_views.specs.declared.pages.PageAt.{PageAt}
use Rattle.wf_views.specs.declared.records.Records.{Records}
use Rattle.wf_views.specs.Pages.{page_at}
use Rattle.wf_flat.specs.Accesses.{is_ending}
use Rattle.wf_flat.specs.Memory.{data_in}
use Rattle.wf_flat.specs.State.{FlatState, PageState}
use Rattle.wf_flat.proofs.FoundLemmas.{key_of_found}
use Rattle.wf_effects.specs.Ranges.{is_data, is_page_ending}
use Rattle.wf_homes.specs.Homes.{DataOf, Homes, has_tenant, home_frame, node_tenants, same_tenant, text_tenants}
use Rattle.wf_homes.specs.Kept.{IsKeptPage, LiesIn, record_of}
use Rattle.wf_homes.specs.Stands.{StandsFor}
use Rattle.wf_homes.proofs.ListLemmas.{true_or_false}
use Rattle.wf_homes.proofs.RecordedLemmas.{flip_test}
use Rattle.wf_verdict.specs.Verdict.{absent, leaving, pages_from}
use Rattle.wf_space.proofs.LeftLemmas.{data_tenants, no_data_node, no_data_text, parts}
use Rattle.wf_space.proofs.MeetLemmas.{found_each, some_of}
use Rattle.wf_space.specs.Jobs.{absent_in, is_absent_at, is_ending_at, leaving_in}
use Rattle.wf_space.specs.Refusals.{RefusalsAgree}

-- a search by two tests that say the same
find_same : (p q : ℕ → Bool) → ((n : ℕ) → p n ≡ q n) → (xs : List ℕ) → find p xs ≡ find q xs
find_same p q same [] = refl
find_same p q same (x ∷ xs) = elim (true_or_false (q x)) [
  | inl t ↦ (let u : p x ≡ true = same x ∙ t in rw (u, t) refl)
  | inr t ↦ (let u : p x ≡ false = same x ∙ t in rw (u, t) (find_same p q same xs))
]

-- a page of data is a tenant
data_member : (pages : List PageState) (n : ℕ) → is_member same_tenant (data_tenants pages) (DataOf n) ≡ is_some (data_in pages n)
data_member [] n = refl
data_member (p ∷ ps) n = elim (true_or_false (p.number == n)) [
  | inl t ↦ (let u : (n == p.number) ≡ true = flip_test p.number n true t in rw (t, u) refl)
  | inr t ↦ (let u : (n == p.number) ≡ false = flip_test p.number n false t in rw (t, u) (data_member ps n))
]

data_tenant : (s : FlatState) (n : ℕ) → has_tenant s (DataOf n) ≡ is_some (data_in s.pages n)
data_tenant s n =
    let a : is_member same_tenant (flat_map text_tenants s.gens) (DataOf n) ≡ false = no_data_text s.gens n in
    let b : is_member same_tenant (flat_map node_tenants s.gens) (DataOf n) ≡ false = no_data_node s.gens n in
    parts s (DataOf n)
    ∙ ap (λ (x : Bool). (x || is_member same_tenant (data_tenants s.pages) (DataOf n)) || is_member same_tenant (flat_map node_tenants s.gens) (DataOf n)) a
    ∙ ap (λ (x : Bool). is_member same_tenant (data_tenants s.pages) (DataOf n) || x) b
    ∙ or_false (is_member same_tenant (data_tenants s.pages) (DataOf n))
    ∙ data_member s.pages n
  where
    or_false : (x : Bool) → (x || false) ≡ x
    or_false true = refl
    or_false false = refl

module _ (words : WordsValue) (r : Records) (homes : Homes) (s : FlatState) (st : StandsFor words r homes s) where
  there_same : (n : ℕ) → is_some (page_at r.pages n) ≡ is_some (data_in s.pages n)
  there_same n = sym (mapped (page_at r.pages n)) ∙ ap is_some (st.at_home (DataOf n)) ∙ st.housed.each (DataOf n) ∙ data_tenant s n
    where
      mapped : (o : Option PageAt) → is_some (option_map (λ (p : PageAt). p.frame) o) ≡ is_some o
      mapped None = refl
      mapped (Some p) = refl

  absent_same : (n : ℕ) → is_absent_at r n ≡ not (is_data s n)
  absent_same n = ap not (there_same n)

  ending_same : (n : ℕ) → is_ending_at r n ≡ is_page_ending s n
  ending_same n = by_data (data_in s.pages n) refl
    where
      none_is : (o : Option PageAt) → is_some o ≡ false → o ≡ None
      none_is None e = refl
      none_is (Some p) e = absurd cc

      by_data : (o : Option PageState) → data_in s.pages n ≡ o → is_ending_at r n ≡ is_page_ending s n
      by_data None e =
          let none : page_at r.pages n ≡ None = none_is (page_at r.pages n) (there_same n ∙ ap is_some e) in
          rw (none, e) refl
      by_data (Some x) e =
          let number : x.number ≡ n = key_of_found (λ (y : PageState). y.number) s.pages n x e in
          let h = some_of (home_frame homes (DataOf x.number)) (LiesIn words r x) (found_each (IsKeptPage words r homes) s.pages n x st.pages e) in
          let recorded : page_at r.pages n ≡ Some (record_of x h.0) = ap (λ (k : ℕ). page_at r.pages k) (sym number) ∙ h.2.recorded in
          ap (λ (o : Option PageAt). unwrap_or (option_map (λ page. page.ending) o) false) recorded ∙ sym (ap (λ (o : Option PageState). unwrap_or (option_map (λ page. is_ending page.stage) o) false) e)

pub refusals_same : RefusalsAgree
refusals_same words r homes s va pages deltas next st fine =
    let ps : List ℕ = pages_from va pages in
    let a : absent_in r ps ≡ absent s ps = ap (option_map Absent) (find_same (is_absent_at r) (λ page. not (is_data s page)) (absent_same words r homes s st) ps) in
    let b : leaving_in r ps ≡ leaving s ps = ap (option_map Leaving) (find_same (is_ending_at r) (λ page. is_page_ending s page) (ending_same words r homes s st) ps) in
    ap (λ (o : Option Refusal). first_of (o ∷ leaving_in r ps ∷ [])) a ∙ ap (λ (o : Option Refusal). first_of (absent s ps ∷ o ∷ [])) b ∙ sym (ap (λ (o : Option Refusal). first_of (o ∷ absent s ps ∷ leaving s ps ∷ [])) fine)
