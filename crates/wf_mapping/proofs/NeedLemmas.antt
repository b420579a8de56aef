-- How many frames a mapping needs.
use Rattle.std.proofs.Common.{◌≡◌, ◌+◌, ◌&&◌, ◌++◌, ℕ, zero, suc, List, [], ◌∷◌, Bool, true, false, not, Some, None, length, map, refl, sym, ap, ◌∙◌, arith, is_some, length-append}
use Rattle.std.specs.Prelude.{slice_get}
use Rattle.std.specs.List.{AllByRecursion, filter}
use Rattle.std.specs.Set.{is_member}
use Rattle.std.proofs.lemmas.List.{length-map}
use Rattle.std.proofs.lemmas.List.Filters.{length-filter_both}
use Rattle.std.proofs.lemmas.List.FromFn.{length-range_with_len}
use Rattle.std.proofs.lemmas.Map.Made.{is_member-filter, length-from_same_keys}
use Rattle.wf_outside.specs.Lists.{IsRising}
use Rattle.wf_outside.specs.Pages.{page_of}
use Rattle.wf_frames.specs.Layout.{WordsValue}
use Rattle.wf_views.specs.declared.records.Records.{Records}
use Rattle.wf_views.specs.Views.{generation_number}
use Rattle.wf_flat.specs.Counts.{used_of}
use Rattle.wf_flat.specs.Memory.{data_in}
use Rattle.wf_flat.specs.Ordered.{IsGen}
use Rattle.wf_flat.specs.State.{FlatState, GenState}
use Rattle.wf_effects.specs.Effects.{new_reach, reaching}
use Rattle.wf_effects.specs.Ranges.{is_data}
use Rattle.wf_effects.proofs.MappedLemmas.{mapped_ordered}
use Rattle.wf_homes.specs.Homes.{DataOf, Homes, Tenant, has_tenant, home_frame, newcomers, same_tenant, tenants_of}
use Rattle.wf_homes.specs.Laws.{IsTidy}
use Rattle.wf_homes.specs.Stands.{StandsFor}
use Rattle.wf_homes.proofs.CountLemmas.{tenants_distinct, tenants_length}
use Rattle.wf_homes.proofs.ListLemmas.{distinct_kept}
use Rattle.wf_homes.proofs.TenantLemmas.{same_tenant_laws, same_test}
use Rattle.wf_mapping.specs.declared.layout.Mapping.{Mapping}
use Rattle.wf_mapping.specs.Laws.{NeedIsCounted, mapped_by}
use Rattle.wf_mapping.specs.Layout.{missing_for, need_of, numbers_of}
use Rattle.wf_mapping.proofs.LaidLemmas.{newcomers_are, there_still}
use Rattle.wf_mapping.proofs.NodeLemmas.{tenant_of}
use Rattle.wf_mapping.proofs.PlaceLemmas.{places_rise}

-- the tables stay in order where pages are mapped
module _ (s : FlatState) (mapping : Mapping) (tidy : IsTidy s) (absent : AllByRecursion (λ page. data_in s.pages page ≡ None) (numbers_of mapping)) where
  abbrev pages : List ℕ
  pages = numbers_of mapping

  no_data : (ns : List ℕ) → AllByRecursion (λ page. data_in s.pages page ≡ None) ns → AllByRecursion (λ page. is_data s page ≡ false) ns
  no_data [] all = tt
  no_data (n ∷ ns) all = (ap is_some all.0, no_data ns all.1)

  placed : (gens : List GenState) (a : ℕ) → ((g : ℕ) (gen : GenState) → slice_get gens g ≡ Some gen → gen.number ≡ a + g) → (g : ℕ) (gen : GenState) → slice_get (map (reaching pages) gens) g ≡ Some gen → gen.number ≡ a + g
  placed [] a each g gen e = absurd cc
  placed (x ∷ xs) a each zero gen e = (let same : reaching pages x ≡ gen = cc in sym (ap (λ (y : GenState). y.number) same) ∙ each 0 x refl)
  placed (x ∷ xs) a each (suc g) gen e =
      let k : gen.number ≡ a + 1 + g = placed xs (a + 1) (λ h y f. (let m : y.number ≡ a + suc h = each (suc h) y f in omega arith)) g gen e in
      omega arith

  rises : (gen : GenState) → IsRising gen.reach → (b : Bool) → gen.live ≡ b → IsRising (new_reach pages gen)
  rises gen up true e = rw e (places_rise gen.reach pages up)
  rises gen up false e = rw e up

  all_rise : (gens : List GenState) → AllByRecursion (λ gen. IsGen gen.text gen.reach) gens → AllByRecursion (λ gen. IsGen gen.text gen.reach) (map (reaching pages) gens)
  all_rise [] all = tt
  all_rise (gen ∷ gens) all = (record { rising = all.0.rising; reach_rising = rises gen all.0.reach_rising gen.live refl }, all_rise gens all.1)

  pub tidy_mapped : IsTidy (mapped_by s mapping)
  tidy_mapped = record {
    ordered = mapped_ordered s (page_of mapping.va) mapping.pages mapping.write None tidy.ordered (no_data pages absent);
    placed = λ g gen e. (let k : gen.number ≡ 0 + g = placed s.gens 0 (λ h y f. (let m : y.number ≡ h = tidy.placed h y f in omega arith)) g gen e in omega arith);
    gens = all_rise s.gens tidy.gens;
  }

module _ (words : WordsValue) (r : Records) (homes : Homes) (s : FlatState) (mapping : Mapping) (st : StandsFor words r homes s) (tidy : IsTidy s) (up : IsRising (map generation_number r.views.views)) (absent : AllByRecursion (λ page. data_in s.pages page ≡ None) (numbers_of mapping)) where
  abbrev after : FlatState
  after = mapped_by s mapping

  abbrev has_home : Tenant → Bool
  has_home t = is_some (home_frame homes t)

  -- those that have a home are those that were there
  old_members : (t : Tenant) → is_member same_tenant (filter has_home (tenants_of after)) t ≡ is_member same_tenant (tenants_of s) t
  old_members t =
      is_member-filter same_tenant_laws has_home t (λ u e. same_test has_home t u e) (tenants_of after)
      ∙ ap (λ (b : Bool). has_tenant after t && b) (st.housed.each t)
      ∙ by_old (has_tenant s t) refl
    where
      and_true : (b : Bool) → b ≡ true → (b && true) ≡ true
      and_true b e = rw e refl

      and_false : (b : Bool) → (b && false) ≡ false
      and_false true = refl
      and_false false = refl

      by_old : (b : Bool) → has_tenant s t ≡ b → (has_tenant after t && has_tenant s t) ≡ has_tenant s t
      by_old true e = ap (λ (b : Bool). has_tenant after t && b) e ∙ and_true (has_tenant after t) (there_still words r homes s mapping st tidy up absent t e) ∙ sym e
      by_old false e = ap (λ (b : Bool). has_tenant after t && b) e ∙ and_false (has_tenant after t) ∙ sym e

  pub counted : used_of s + need_of r mapping ≡ used_of after
  counted =
      let old : List Tenant = filter has_home (tenants_of after) in
      let a : length (newcomers homes after) + length old ≡ length (tenants_of after) = length-filter_both (λ t. not (has_home t)) has_home (λ t. not_not (has_home t)) (tenants_of after) in
      let b : length old ≡ length (tenants_of s) =
      length-from_same_keys same_tenant_laws old (tenants_of s) (distinct_kept same_tenant has_home (tenants_of after) (tenants_distinct after (tidy_mapped s mapping tidy absent))) (tenants_distinct s tidy) old_members in
      let missing : List Tenant = map (tenant_of words r homes s st tidy (numbers_of mapping)) (missing_for r mapping) in
      let c : length (newcomers homes after) ≡ length (map DataOf (numbers_of mapping) ++ missing) = ap length (newcomers_are words r homes s mapping st tidy up absent) in
      let d : length (map DataOf (numbers_of mapping) ++ missing) ≡ length (map DataOf (numbers_of mapping)) + length missing = length-append (map DataOf (numbers_of mapping)) missing in
      let e : length (map DataOf (numbers_of mapping)) ≡ mapping.pages = length-map (numbers_of mapping) DataOf ∙ length-range_with_len (page_of mapping.va) mapping.pages in
      let f : length missing ≡ length (missing_for r mapping) = length-map (missing_for r mapping) (tenant_of words r homes s st tidy (numbers_of mapping)) in
      let g : length (tenants_of after) ≡ used_of after = tenants_length after in
      let h : length (tenants_of s) ≡ used_of s = tenants_length s in
      omega arith
    where
      not_not : (b : Bool) → b ≡ not (not b)
      not_not true = refl
      not_not false = refl

pub need_counted : NeedIsCounted
need_counted words r homes s mapping st tidy up absent = counted words r homes s mapping st tidy up absent
