-- How words are read, and what is kept by what is read.
use Rattle.std.proofs.Common.{◌≡◌, ◌<◌, ◌≤◌, ◌-◌, ◌%◌, ◌^◌, ℕ, zero, suc, List, true, eqb, length, drop, Option, Some, None, refl, sym, ap, ◌∙◌, arith, inl, inr}
use Rattle.std.specs.Prelude.{◌&&◌, nat_lt, codes, slice_index}
use Rattle.std.specs.Str.{bytes_eq}
use Rattle.std.proofs.lemmas.Option.{none-some}
use Rattle.std.proofs.lemmas.Bool.Decides.{nat_tests}
use Rattle.wf_text.specs.Numbers.{number_of, number_from, any_hex, digit_of}
use Rattle.wf_text.proofs.NumberLemmas.{chosen, ten, number_sound, from_few}
use Rattle.wf_flat.specs.declared.event.Actor.{Actor}
use Rattle.wf_flat.specs.declared.event.Actor.TheVariants as actor
use Rattle.wf_script.specs.Words.{hart_of, actor_of, hart_actor, below, count_of, positive, address_of, aligned}
use Rattle.wf_script.specs.Commands.{IsThere, IsCount}

some_same : {A : Type 0} (x y : A) → Some x ≡ Some y → x ≡ y
some_same x y e = cc

-- a number that is read is at most the most
pub few_read : (most : ℕ) (word : List ℕ) (n : ℕ) → most < 2 ^ 64 → number_of 10 most word ≡ Some n → n ≤ most
few_read most word n fits e = (number_sound 10 ten most word n fits e).few

below_kept : (limit : ℕ) (r : Option ℕ) (n : ℕ) → below limit r ≡ Some n → n < limit
below_kept limit None n e = absurd (none-some n e)
below_kept limit (Some m) n e =
    elim (chosen (nat_lt m limit) (Some m) None (Some n) e) [
      | inl p ↦ let same : m ≡ n = some_same m n p.1 in let t : nat_lt m limit ≡ true = p.0 in grind (arith, nat_tests)
      | inr p ↦ absurd (none-some n p.1)
    ]

pub hart_kept : (harts : ℕ) (word : List ℕ) (h : ℕ) → hart_of harts word ≡ Some h → h < harts
unfolding hart_of
hart_kept harts word h e =
    elim (chosen (eqb (slice_index word 0) 104) (below harts (number_of 10 255 (drop 1 word))) None (Some h) e) [
      | inl p ↦ below_kept harts (number_of 10 255 (drop 1 word)) h p.1
      | inr p ↦ absurd (none-some h p.1)
    ]

hart_actor_kept : (harts : ℕ) (r : Option ℕ) (a : Actor) → ((h : ℕ) → r ≡ Some h → h < harts) → hart_actor r ≡ Some a → IsThere harts a
hart_actor_kept harts None (actor.Hart h) kept e = cc
hart_actor_kept harts None actor.Kernel kept e = tt
hart_actor_kept harts (Some h) (actor.Hart g) kept e = let same : h ≡ g = cc in rw (sym same) (kept h refl)
hart_actor_kept harts (Some h) actor.Kernel kept e = tt

pub actor_kept : (harts : ℕ) (word : List ℕ) (a : Actor) → actor_of harts word ≡ Some a → IsThere harts a
unfolding actor_of
actor_kept harts word (actor.Hart h) e =
    elim (chosen (bytes_eq word (codes "k")) (Some actor.Kernel) (hart_actor (hart_of harts word)) (Some (actor.Hart h)) e) [
      | inl p ↦ let no : Some actor.Kernel ≡ Some (actor.Hart h) = p.1 in cc
      | inr p ↦ hart_actor_kept harts (hart_of harts word) (actor.Hart h) (hart_kept harts word) p.1
    ]
actor_kept harts word actor.Kernel e = tt

positive_kept : (most : ℕ) (r : Option ℕ) (n : ℕ) → ((m : ℕ) → r ≡ Some m → m ≤ most) → positive r ≡ Some n → IsCount most n
positive_kept most None n kept e = absurd (none-some n e)
positive_kept most (Some zero) n kept e = absurd (none-some n e)
positive_kept most (Some (suc m)) n kept e =
    let same : suc m ≡ n = some_same (suc m) n e in
    let few : suc m ≤ most = kept (suc m) refl in
    (omega arith, omega arith)

pub count_kept : (most : ℕ) (word : List ℕ) (n : ℕ) → most < 2 ^ 64 → count_of most word ≡ Some n → IsCount most n
unfolding count_of
count_kept most word n fits e = positive_kept most (number_of 10 most word) n (λ m f. few_read most word m fits f) e

aligned_kept : (r : Option ℕ) (n : ℕ) → ((m : ℕ) → r ≡ Some m → m < 2 ^ 38) → aligned r ≡ Some n → (n % 8 ≡ 0) × (n < 2 ^ 38)
aligned_kept None n kept e = absurd (none-some n e)
aligned_kept (Some m) n kept e =
    elim (chosen (eqb (m % 8) 0) (Some m) None (Some n) e) [
      | inl p ↦
          let same : m ≡ n = some_same m n p.1 in
          let t : eqb (m % 8) 0 ≡ true = p.0 in
          let few : m < 2 ^ 38 = kept m refl in
          let whole : m % 8 ≡ 0 = grind (arith, nat_tests) in
          (ap (λ (k : ℕ). k % 8) (sym same) ∙ whole, omega arith)
      | inr p ↦ absurd (none-some n p.1)
    ]

hex_few : (most : ℕ) (bytes : List ℕ) (n : ℕ) → any_hex most bytes ≡ Some n → n ≤ most
hex_few most bytes n e =
    elim (chosen (eqb (length bytes) 0) None (number_from digit_of 16 most 0 bytes) (Some n) e) [
      | inl p ↦ absurd (none-some n p.1)
      | inr p ↦ from_few digit_of 16 most 0 bytes n (omega arith) p.1
    ]

pub address_kept : (word : List ℕ) (va : ℕ) → address_of word ≡ Some va → (va % 8 ≡ 0) × (va < 2 ^ 38)
unfolding address_of
address_kept word va e =
    elim (chosen (eqb (slice_index word 0) 48 && eqb (slice_index word 1) 120) (aligned (any_hex (2 ^ 38 - 1) (drop 2 word))) None (Some va) e) [
      | inl p ↦ aligned_kept (any_hex (2 ^ 38 - 1) (drop 2 word)) va (λ m f. let few : m ≤ 2 ^ 38 - 1 = hex_few (2 ^ 38 - 1) (drop 2 word) m f in omega arith) p.1
      | inr p ↦ absurd (none-some va p.1)
    ]
