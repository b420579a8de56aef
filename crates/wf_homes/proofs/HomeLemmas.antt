-- Homes are made for a state, and the frames that are free are counted.
use Rattle.std.proofs.Common.{◌≡◌, ◌<◌, ◌≤◌, ◌+◌, ◌&&◌, ◌||◌, ◌++◌, ℕ, zero, suc, List, [], ◌∷◌, Bool, true, false, not, length, take, refl, sym, ap, subst, ◌∙◌, inl, inr, arith, nat_eq, is_some, length-append}
use Rattle.std.specs.List.{AllByRecursion, IsDistinct, filter, list_any, range_with_len, zip}
use Rattle.std.specs.Map.{keys_of, values_of}
use Rattle.std.specs.Set.{is_member}
use Rattle.std.proofs.lemmas.Bool.Decides.{nat_tests}
use Rattle.std.proofs.lemmas.Cmp.{nat_eq_equiv}
use Rattle.std.proofs.lemmas.List.{map-append}
use Rattle.std.proofs.lemmas.List.Elements.{recursion_from_All}
use Rattle.std.proofs.lemmas.List.Filters.{length-filter_both}
use Rattle.std.proofs.lemmas.List.FromFn.{length-range_with_len}
use Rattle.std.proofs.lemmas.Map.Made.{All-is_member, is_member-filter, is_some-lookup, length-from_same_keys, length-le_from_is_member}
use Rattle.wf_flat.specs.Counts.{used_of}
use Rattle.wf_flat.specs.State.{FlatState}
use Rattle.wf_homes.specs.Homes.{AreHomes, AreSeparate, Homes, Tenant, free_frames, has_tenant, home_frame, homes_in, is_home, is_worn, newcomers, same_tenant, tenants_of, without_left}
use Rattle.wf_homes.specs.Laws.{AreCounted, FreeFramesAreCounted, HomesAreMade}
use Rattle.wf_homes.proofs.ListLemmas.{all_back, all_both, all_front, all_kept, all_more, all_taken, any_both, any_none, distinct_between, distinct_kept, distinct_taken, distinct_two, keys_kept, keys_zipped, length_keys, length_values, true_or_false, values_all_kept, values_kept_front, values_zipped}
use Rattle.wf_homes.proofs.TenantLemmas.{same_tenant_laws, same_test}

-- a range of numbers
range_low : (a n m : ℕ) → a + n ≤ m → AllByRecursion (λ k. k < m) (range_with_len a n)
range_low a zero m le = tt
range_low a (suc n) m le = (omega arith, range_low (a + 1) n m (omega arith))

range_past : (a n b : ℕ) → b < a → AllByRecursion (λ k. nat_eq b k ≡ false) (range_with_len a n)
range_past a zero b lt = tt
range_past a (suc n) b lt = (grind (arith, nat_tests), range_past (a + 1) n b (omega arith))

range_distinct : (a n : ℕ) → IsDistinct nat_eq (range_with_len a n)
unfolding IsDistinct
range_distinct a zero = tt
range_distinct a (suc n) = (range_past (a + 1) n a (omega arith), range_distinct (a + 1) n)

range_member : (a n k : ℕ) → a ≤ k → k < a + n → is_member nat_eq (range_with_len a n) k ≡ true
range_member a zero k le lt = absurd (omega arith)
range_member a (suc n) k le lt = elim (true_or_false (nat_eq k a)) [
  | inl t ↦ (rw t refl)
  | inr t ↦ (rw t (range_member (a + 1) n k (grind (arith, nat_tests)) (omega arith)))
]

-- what holds of all numbers holds of a member
member_all : (P : ℕ → Type 0) (ns : List ℕ) (k : ℕ) → AllByRecursion P ns → is_member nat_eq ns k ≡ true → P k
member_all P [] k all e = absurd cc
member_all P (n ∷ ns) k all e = elim (true_or_false (nat_eq k n)) [
  | inl t ↦ (let same : n ≡ k = grind (arith, nat_tests) in subst P same all.0)
  | inr t ↦ member_all P ns k all.1 (rw t at e)
]

or_fill : (k h m : Bool) → m ≡ (k && h) → (m || (h && not m)) ≡ h
or_fill true true m e = rw e refl
or_fill true false m e = rw e refl
or_fill false true m e = rw e refl
or_fill false false m e = rw e refl

and_second : (a b : Bool) → (a && b) ≡ true → b ≡ true
and_second true b e = e
and_second false b e = absurd cc

and_not : (h m : Bool) → m ≡ true → (h && not m) ≡ false
and_not true m e = rw e refl
and_not false m e = refl

neither : (a b : Bool) → (not a && not b) ≡ true → (a || b) ≡ false
neither true b e = absurd cc
neither false true e = absurd cc
neither false false e = refl

either : (a b : Bool) → not (not a && not b) ≡ (a || b)
either true b = refl
either false true = refl
either false false = refl

-- the frames of homes, and the worn ones
abbrev busy_of : Homes → List ℕ
busy_of homes = values_of homes.homes ++ homes.worn

abbrev is_free : Homes → ℕ → Bool
is_free homes frame = not (is_home homes frame) && not (is_worn homes frame)

busy_frames : ℕ → Homes → List ℕ
busy_frames count homes = filter (λ frame. not (is_free homes frame)) (range_with_len 0 count)

busy_is : (homes : Homes) (k : ℕ) → not (is_free homes k) ≡ is_member nat_eq (busy_of homes) k
busy_is homes k = either (is_home homes k) (is_worn homes k) ∙ sym (any_both (nat_eq k) (values_of homes.homes) homes.worn)

respects : (p : ℕ → Bool) (k n : ℕ) → nat_eq k n ≡ true → p k ≡ p n
respects p k n e = let same : k ≡ n = grind (arith, nat_tests) in ap p same

busy_members : (count : ℕ) (homes : Homes) (k : ℕ) → is_member nat_eq (busy_frames count homes) k ≡ (is_member nat_eq (range_with_len 0 count) k && not (is_free homes k))
unfolding busy_frames
busy_members count homes k = is_member-filter nat_eq_equiv (λ frame. not (is_free homes frame)) k (λ n e. respects (λ frame. not (is_free homes frame)) k n e) (range_with_len 0 count)

free_and_busy : (count : ℕ) (homes : Homes) → length (free_frames count homes) + length (busy_frames count homes) ≡ count
unfolding busy_frames
free_and_busy count homes =
    length-filter_both (is_free homes) (λ frame. not (is_free homes frame)) (λ frame. refl) (range_with_len 0 count) ∙ length-range_with_len 0 count

busy_distinct : (count : ℕ) (homes : Homes) → IsDistinct nat_eq (busy_frames count homes)
unfolding busy_frames
busy_distinct count homes = distinct_kept nat_eq (λ frame. not (is_free homes frame)) (range_with_len 0 count) (range_distinct 0 count)

-- no more frames are busy than are homes or worn
busy_few : (count : ℕ) (homes : Homes) → length (busy_frames count homes) ≤ length (busy_of homes)
busy_few count homes = length-le_from_is_member nat_eq_equiv (busy_frames count homes) (busy_of homes) (busy_distinct count homes) (λ k e. (
    let f : not (is_free homes k) ≡ true = and_second (is_member nat_eq (range_with_len 0 count) k) (not (is_free homes k)) (sym (busy_members count homes k) ∙ e) in
    sym (busy_is homes k) ∙ f
    ))

-- and as many, where none is there twice and all are frames
busy_length : (count : ℕ) (homes : Homes) → IsDistinct nat_eq (busy_of homes) → AllByRecursion (λ k. k < count) (busy_of homes) → length (busy_frames count homes) ≡ length (busy_of homes)
busy_length count homes apart low = length-from_same_keys nat_eq_equiv (busy_frames count homes) (busy_of homes) (busy_distinct count homes) apart (λ k. busy_members count homes k ∙ by_member k (is_member nat_eq (busy_of homes) k) refl)
  where
    by_member : (k : ℕ) (b : Bool) → is_member nat_eq (busy_of homes) k ≡ b → (is_member nat_eq (range_with_len 0 count) k && not (is_free homes k)) ≡ is_member nat_eq (busy_of homes) k
    by_member k true e =
        let lt : k < count = member_all (λ n. n < count) (busy_of homes) k low e in
        let there : is_member nat_eq (range_with_len 0 count) k ≡ true = range_member 0 count k (omega arith) (omega arith) in
        rw there (busy_is homes k)
    by_member k false e = rw (busy_is homes k, e) (and_none (is_member nat_eq (range_with_len 0 count) k))
      where
        and_none : (b : Bool) → (b && false) ≡ false
        and_none true = refl
        and_none false = refl

busy_sum : (homes : Homes) → length (busy_of homes) ≡ length homes.homes + length homes.worn
busy_sum homes = length-append (values_of homes.homes) homes.worn ∙ ap (λ (n : ℕ). n + length homes.worn) (length_values homes.homes)

module _ (homes : Homes) (s : FlatState) (separate : AreSeparate homes s) (counted : AreCounted s) where
  abbrev kept : Homes
  kept = without_left homes s

  abbrev there : List Tenant
  there = keys_of kept.homes

  abbrev added : List Tenant
  added = newcomers kept s

  abbrev free : List ℕ
  free = free_frames s.limits.frames kept

  has_kept : (t : Tenant) → is_some (home_frame kept t) ≡ is_member same_tenant there t
  has_kept t = is_some-lookup (same_tenant t) kept.homes

  there_members : (t : Tenant) → is_member same_tenant there t ≡ (is_member same_tenant (keys_of homes.homes) t && has_tenant s t)
  there_members t =
      ap (λ (ts : List Tenant). is_member same_tenant ts t) (keys_kept (has_tenant s) homes.homes)
      ∙ is_member-filter same_tenant_laws (has_tenant s) t (λ u e. same_test (has_tenant s) t u e) (keys_of homes.homes)

  added_members : (t : Tenant) → is_member same_tenant added t ≡ (has_tenant s t && not (is_member same_tenant there t))
  added_members t =
      is_member-filter same_tenant_laws (λ u. not (is_some (home_frame kept u))) t (λ u e. same_test (λ w. not (is_some (home_frame kept w))) t u e) (tenants_of s)
      ∙ ap (λ (b : Bool). has_tenant s t && not b) (has_kept t)

  there_distinct : IsDistinct same_tenant there
  there_distinct = rw (keys_kept (has_tenant s) homes.homes) (distinct_kept same_tenant (has_tenant s) (keys_of homes.homes) separate.once)

  -- frames suffice
  suffices : used_of s + s.worn ≤ s.limits.frames → length added ≤ length free
  suffices enough =
      let had : List Tenant = filter (λ t. is_some (home_frame kept t)) (tenants_of s) in
      let a : length had + length added ≡ length (tenants_of s) = length-filter_both (λ t. is_some (home_frame kept t)) (λ t. not (is_some (home_frame kept t))) (λ t. refl) (tenants_of s) in
      let b : length there ≤ length had = length-le_from_is_member same_tenant_laws there had there_distinct (λ t e. (
      let h : has_tenant s t ≡ true = and_second (is_member same_tenant (keys_of homes.homes) t) (has_tenant s t) (sym (there_members t) ∙ e) in
      is_member-filter same_tenant_laws (λ u. is_some (home_frame kept u)) t (λ u f. same_test (λ w. is_some (home_frame kept w)) t u f) (tenants_of s) ∙ rw (h, has_kept t, e) refl
      )) in
      let c : length free + length (busy_frames s.limits.frames kept) ≡ s.limits.frames = free_and_busy s.limits.frames kept in
      let d : length (busy_frames s.limits.frames kept) ≤ length (busy_of kept) = busy_few s.limits.frames kept in
      let e : length (busy_of kept) ≡ length kept.homes + length homes.worn = busy_sum kept in
      let f : length there ≡ length kept.homes = length_keys kept.homes in
      let g : length homes.worn ≡ s.worn = separate.counted in
      let h : length (tenants_of s) ≡ used_of s = counted.count in
      omega arith

  module _ (le : length added ≤ length free) where
    abbrev given : List ℕ
    given = take (length added) free

    keys_are : keys_of (kept.homes ++ zip added free) ≡ there ++ added
    keys_are = map-append (λ (home : Tenant × ℕ). home.0) kept.homes (zip added free) ∙ ap (λ (ts : List Tenant). there ++ ts) (keys_zipped added free le)

    values_are : values_of (kept.homes ++ zip added free) ≡ values_of kept.homes ++ given
    values_are = map-append (λ (home : Tenant × ℕ). home.1) kept.homes (zip added free) ∙ ap (λ (fs : List ℕ). values_of kept.homes ++ fs) (values_zipped added free le)

    made_each : (t : Tenant) → is_some (home_frame (homes_in homes s) t) ≡ has_tenant s t
    made_each t =
        is_some-lookup (same_tenant t) (kept.homes ++ zip added free)
        ∙ ap (list_any (same_tenant t)) keys_are
        ∙ any_both (same_tenant t) there added
        ∙ ap (λ (b : Bool). is_member same_tenant there t || b) (added_members t)
        ∙ or_fill (is_member same_tenant (keys_of homes.homes) t) (has_tenant s t) (is_member same_tenant there t) (there_members t)

    made_once : IsDistinct same_tenant (keys_of (homes_in homes s).homes)
    made_once = rw keys_are (distinct_two same_tenant there added there_distinct (distinct_kept same_tenant (λ t. not (is_some (home_frame kept t))) (tenants_of s) counted.once)
        (all_more (λ t. is_member same_tenant there t ≡ true) (λ t. is_member same_tenant added t ≡ false) (λ t e. added_members t ∙ and_not (has_tenant s t) (is_member same_tenant there t) e) there
        (recursion_from_All (λ t. is_member same_tenant there t ≡ true) there (All-is_member same_tenant_laws there))))

    free_apart : AllByRecursion (λ k. AllByRecursion (λ n. nat_eq k n ≡ false) (busy_of kept)) given
    free_apart = all_taken (λ k. AllByRecursion (λ n. nat_eq k n ≡ false) (busy_of kept)) (length added) free
        (all_kept (is_free kept) (λ k. k < s.limits.frames) (λ k. AllByRecursion (λ n. nat_eq k n ≡ false) (busy_of kept))
        (λ k e lt. any_none (nat_eq k) (busy_of kept) (any_both (nat_eq k) (values_of kept.homes) homes.worn ∙ neither (is_home kept k) (is_worn kept k) e)) (range_with_len 0 s.limits.frames) (range_low 0 s.limits.frames s.limits.frames (omega arith)))

    made_apart : IsDistinct nat_eq (busy_of (homes_in homes s))
    made_apart = rw values_are (distinct_between nat_eq nat_eq_equiv.symm (values_of kept.homes) given homes.worn
        (values_kept_front nat_eq (λ home. has_tenant s home.0) homes.homes homes.worn separate.apart) (distinct_taken nat_eq (length added) free (distinct_kept nat_eq (is_free kept) (range_with_len 0 s.limits.frames) (range_distinct 0 s.limits.frames))) free_apart)

    made_low : AllByRecursion (λ k. k < s.limits.frames) (busy_of (homes_in homes s))
    made_low = rw values_are (all_both (λ k. k < s.limits.frames) (values_of kept.homes ++ given) homes.worn
        (all_both (λ k. k < s.limits.frames) (values_of kept.homes) given (values_all_kept (λ home. has_tenant s home.0) (λ k. k < s.limits.frames) homes.homes (all_front (λ k. k < s.limits.frames) (values_of homes.homes) homes.worn separate.low))
        (all_taken (λ k. k < s.limits.frames) (length added) free (all_kept (is_free kept) (λ k. k < s.limits.frames) (λ k. k < s.limits.frames) (λ k e lt. lt) (range_with_len 0 s.limits.frames) (range_low 0 s.limits.frames s.limits.frames (omega arith)))))
        (all_back (λ k. k < s.limits.frames) (values_of homes.homes) homes.worn separate.low))

    pub made : AreHomes (homes_in homes s) s
    made = record {
      separate = record { once = made_once; apart = made_apart; low = made_low; counted = separate.counted };
      each = made_each;
    }

pub homes_made : HomesAreMade
homes_made homes s separate counted enough = made homes s separate counted (suffices homes s separate counted enough)

pub free_counted : FreeFramesAreCounted
free_counted homes s are counted =
    let keys : List Tenant = keys_of homes.homes in
    let a : length keys ≡ length (tenants_of s) = length-from_same_keys same_tenant_laws keys (tenants_of s) are.separate.once counted.once (λ t. sym (is_some-lookup (same_tenant t) homes.homes) ∙ are.each t) in
    let b : length keys ≡ length homes.homes = length_keys homes.homes in
    let c : length (free_frames s.limits.frames homes) + length (busy_frames s.limits.frames homes) ≡ s.limits.frames = free_and_busy s.limits.frames homes in
    let d : length (busy_frames s.limits.frames homes) ≡ length (busy_of homes) = busy_length s.limits.frames homes are.separate.apart are.separate.low in
    let e : length (busy_of homes) ≡ length homes.homes + length homes.worn = busy_sum homes in
    let f : length homes.worn ≡ s.worn = are.separate.counted in
    let g : length (tenants_of s) ≡ used_of s = counted.count in
    omega arith
