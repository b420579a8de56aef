-- Addresses that are searched.
use Rattle.std.proofs.Common.{◌≡◌, ◌<◌, ◌≤◌, ◌+◌, ◌-◌, ℕ, List, [], ◌∷◌, ◌++◌, take, Bool, true, false, cond, not, ◌&&◌, ◌||◌, ◌==◌, Option, None, Some, is_some, refl, ap, sym, ◌∙◌, arith, length, get_or}
use Rattle.std.specs.Prelude.{nat_le, nat_lt}
use Rattle.std.specs.List.{filter, list_any}
use Rattle.std.specs.Ordering.{nat_cmp, match_ordering}
use Rattle.std.specs.BTreeSet.{insert_key}
use Rattle.std.specs.BTreeMap.Range.{range_contains}
use Rattle.std.specs.Map.Iter.{TakesFirst}
use Rattle.std.specs.declared.cmp.Ordering.{Ordering}
use Rattle.std.specs.declared.cmp.Ordering.TheVariants.{Less, Equal, Greater}
use Rattle.std.specs.declared.ops.Bound.TheVariants.{Included, Excluded}
use Rattle.std.proofs.lemmas.Bool.Decides.{nat_tests}
use Rattle.std.proofs.lemmas.Map.Lookups.{exact_unsigned}
use Rattle.std.proofs.lemmas.List.{take_more}
use Rattle.wf_outside.specs.declared.image.Jump.{Jump}
use Rattle.patch_build.specs.Jumps.{HasSame, addresses_of, overlap}

or_first : (a b : Bool) → (a || b) ≡ (b || a)
or_first true true = refl
or_first true false = refl
or_first false true = refl
or_first false false = refl

or_again : (a b : Bool) → (a || b) ≡ ((a || b) || a)
or_again true b = refl
or_again false true = refl
or_again false false = refl

or_assoc : (a b c : Bool) → (a || (b || c)) ≡ ((a || b) || c)
or_assoc true b c = refl
or_assoc false b c = refl

-- one more address
pub any-insert_key : (test : ℕ → Bool) (xs : List ℕ) (k : ℕ) → list_any test (insert_key nat_cmp xs k) ≡ (list_any test xs || test k)
any-insert_key test [] k = or_first (test k) false
any-insert_key test (x ∷ xs) k = at (nat_cmp k x) refl (any-insert_key test xs k) where
  at : (o : Ordering) → nat_cmp k x ≡ o → list_any test (insert_key nat_cmp xs k) ≡ (list_any test xs || test k)
      → list_any test (match_ordering o (k ∷ x ∷ xs) (x ∷ xs) (x ∷ insert_key nat_cmp xs k)) ≡ ((test x || list_any test xs) || test k)
  at Less e rest = or_first (test k) (test x || list_any test xs)
  at Equal e rest = or_again (test x) (list_any test xs) ∙ ap (λ (n : ℕ). (test x || list_any test xs) || test n) (sym (exact_unsigned k x e))
  at Greater e rest = ap (λ b. test x || b) rest ∙ or_assoc (test x) (list_any test xs) (test k)

-- whether a list has an element
abbrev pub has_one : List ℕ → Bool
has_one [] = false
has_one (x ∷ xs) = true

any-filter : (test : ℕ → Bool) (xs : List ℕ) → has_one (filter test xs) ≡ list_any test xs
any-filter test [] = refl
any-filter test (x ∷ xs) = at (test x) (any-filter test xs) where
  at : (b : Bool) → has_one (filter test xs) ≡ list_any test xs → has_one (cond b (x ∷ filter test xs) (filter test xs)) ≡ (b || list_any test xs)
  at true rest = refl
  at false rest = rest

agree : (p q : ℕ → Bool) (xs : List ℕ) → ((x : ℕ) → p x ≡ q x) → list_any p xs ≡ list_any q xs
agree p q [] same = refl
agree p q (x ∷ xs) same = ap (λ b. b || list_any p xs) (same x) ∙ ap (λ b. q x || b) (agree p q xs same)

-- what the first of a range tells
pub range_told : {A : Type 0} (shows : A → ℕ) (xs r t : List ℕ) (from to : ℕ) (o : Option A)
    → r ≡ filter (range_contains nat_cmp (Included from) (Excluded to)) xs → TakesFirst shows r o t
    → is_some o ≡ list_any (λ a. nat_le from a && nat_lt a to) xs
range_told {A = A} shows xs r t from to o range taken =
    by_item o taken ∙ ap has_one range ∙ any-filter _ xs ∙ agree _ _ xs between
  where
    by_item : (o : Option A) → TakesFirst shows r o t → is_some o ≡ has_one r
    by_item None h = ap has_one (sym h.0)
    by_item (Some x) h = ap has_one (sym h)

    between : (a : ℕ) → range_contains nat_cmp (Included from) (Excluded to) a ≡ (nat_le from a && nat_lt a to)
    between a = grind (arith, nat_tests)

-- no address lies between two where the second is not above the first
pub none_between : (xs : List ℕ) (from to : ℕ) → to ≤ from → false ≡ list_any (λ a. nat_le from a && nat_lt a to) xs
none_between [] from to le = refl
none_between (x ∷ xs) from to le =
    let h : (nat_le from x && nat_lt x to) ≡ false = grind (arith, nat_tests) in
    none_between xs from to le ∙ ap (λ b. b || list_any (λ a. nat_le from a && nat_lt a to) xs) (sym h)

regroup : (a b c d : Bool) → ((a || c) || (b || d)) ≡ ((a || b) || (c || d))
regroup true b c d = refl
regroup false true true d = refl
regroup false true false d = refl
regroup false false c d = refl

-- the addresses on either side of one, near it
pub either_side : (xs : List ℕ) (at : ℕ)
    → (list_any (λ a. nat_le (at - 7) a && nat_lt a at) xs || list_any (λ a. nat_le (at + 1) a && nat_lt a (at + 8)) xs)
    ≡ list_any (λ other. overlap at other && not (other == at)) xs
either_side [] at = refl
either_side (x ∷ xs) at =
    regroup (nat_le (at - 7) x && nat_lt x at) (nat_le (at + 1) x && nat_lt x (at + 8)) (list_any (λ a. nat_le (at - 7) a && nat_lt a at) xs) (list_any (λ a. nat_le (at + 1) a && nat_lt a (at + 8)) xs)
    ∙ ap (λ b. b || (list_any (λ a. nat_le (at - 7) a && nat_lt a at) xs || list_any (λ a. nat_le (at + 1) a && nat_lt a (at + 8)) xs)) here
    ∙ ap (λ b. (overlap at x && not (x == at)) || b) (either_side xs at)
  where
    here : ((nat_le (at - 7) x && nat_lt x at) || (nat_le (at + 1) x && nat_lt x (at + 8))) ≡ (overlap at x && not (x == at))
    here = grind (arith, nat_tests)

near : (at a : ℕ) → (nat_le (at - 7) a && nat_lt a (at + 8)) ≡ overlap at a
near at a = grind (arith, nat_tests)

any-addresses_of : (test : ℕ → Bool) (jumps : List Jump) → list_any test (addresses_of jumps) ≡ list_any (λ jump. test jump.at) jumps
any-addresses_of test [] = refl
any-addresses_of test (j ∷ jumps) = ap (λ b. test j.at || b) (any-addresses_of test jumps)

-- the addresses of jumps near one
pub near_jumps : (xs : List ℕ) (jumps : List Jump) (at : ℕ) → HasSame xs (addresses_of jumps)
    → list_any (λ a. nat_le (at - 7) a && nat_lt a (at + 8)) xs ≡ list_any (λ jump. overlap at jump.at) jumps
near_jumps xs jumps at same = agree _ _ xs (near at) ∙ same (overlap at) ∙ any-addresses_of (overlap at) jumps

any-push : (test : ℕ → Bool) (xs : List ℕ) (x : ℕ) → list_any test (xs ++ x ∷ []) ≡ (list_any test xs || test x)
any-push test [] x = or_first (test x) false
any-push test (y ∷ xs) x = ap (λ b. test y || b) (any-push test xs x) ∙ or_assoc (test y) (list_any test xs) (test x)

addresses-push : (jumps : List Jump) (j : Jump) → addresses_of (jumps ++ j ∷ []) ≡ addresses_of jumps ++ j.at ∷ []
addresses-push [] j = refl
addresses-push (i ∷ jumps) j = ap (λ l. i.at ∷ l) (addresses-push jumps j)

-- the addresses with that of one more jump
pub same-push : (old new : List ℕ) (jumps : List Jump) (j : Jump) → HasSame old (addresses_of jumps)
    → ((test : ℕ → Bool) → list_any test new ≡ (list_any test old || test j.at)) → HasSame new (addresses_of (jumps ++ j ∷ []))
same-push old new jumps j same noted = λ test.
    noted test ∙ ap (λ b. b || test j.at) (same test) ∙ sym (any-push test (addresses_of jumps) j.at)
    ∙ ap (list_any test) (sym (addresses-push jumps j))

-- the first addresses of a list, with one more
pub same-more : (old new xs : List ℕ) (i : ℕ) → i < length xs → HasSame old (take i xs)
    → ((test : ℕ → Bool) → list_any test new ≡ (list_any test old || test (get_or xs i 0))) → HasSame new (take (i + 1) xs)
same-more old new xs i lt same noted = λ test.
    noted test ∙ ap (λ b. b || test (get_or xs i 0)) (same test) ∙ sym (any-push test (take i xs) (get_or xs i 0))
    ∙ ap (list_any test) (sym (take_more xs i 0 lt))
