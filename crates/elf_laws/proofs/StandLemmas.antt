-- Bytes that stand at a place, and the numbers in them.
use Rattle.std.proofs.Common.{◌≡◌, ◌<◌, ◌≤◌, ◌+◌, ◌-◌, ◌*◌, ◌^◌, ◌++◌, ℕ, List, [], ◌∷◌, length, drop, replicate, slice_range, refl, sym, ap, subst, ◌∙◌, arith}
use Rattle.std.proofs.lemmas.List.{append_assoc, append-nil, drop-append-le, drop-drop, drop_at, drop_all, length-append, length-replicate, take_at}
use Rattle.std.proofs.Math.Nat.{mul-suc}
use Rattle.std.specs.List.{flat_map, AllByRecursion}
use Rattle.byteorder.specs.Endian.{little_bytes, little_number}
use Rattle.byteorder.specs.Numbers.{little_number-reads_back, length-bytes_low_first}
use Rattle.elf_read.specs.Fields.{field}
use Rattle.elf_write.specs.Places.{placed}

-- the bytes stand at a place of a file
pub record Stands (at : ℕ) (bytes file : List ℕ) : Type 0 where
  pub room : at + length bytes ≤ length file
  pub here : drop at file ≡ bytes ++ drop (at + length bytes) file

-- they stand there too where more stands behind
pub stands_before : (at : ℕ) (bytes file more : List ℕ) → Stands at bytes file → Stands at bytes (file ++ more)
stands_before at bytes file more s = record {
  room = omega (arith, s.room, length-append file more);
  here =
      drop-append-le at file more (omega (arith, s.room))
      ∙ ap (λ (x : List ℕ). x ++ more) s.here
      ∙ append_assoc bytes (drop (at + length bytes) file) more
      ∙ ap (λ (x : List ℕ). bytes ++ x) (sym (drop-append-le (at + length bytes) file more s.room));
}

-- the length of a file to which bytes are added at a place
pub length-placed : (at : ℕ) (bytes front : List ℕ) → length front ≤ at → length (placed at bytes front) ≡ at + length bytes
unfolding placed
length-placed at bytes front h =
    omega (arith, h, length-append (front ++ replicate (at - length front) 0) bytes, length-append front (replicate (at - length front) 0), length-replicate {A = ℕ} (at - length front) 0)

-- what stood in a file stands there still
pub stands_still : (at place : ℕ) (bytes more front : List ℕ) → Stands at bytes front → Stands at bytes (placed place more front)
unfolding placed
stands_still at place bytes more front s =
    stands_before at bytes (front ++ replicate (place - length front) 0) more (stands_before at bytes front (replicate (place - length front) 0) s)

-- bytes stand at the end
pub stands_last : (at : ℕ) (front bytes : List ℕ) → length front ≡ at → Stands at bytes (front ++ bytes)
stands_last at front bytes e = record {
  room = omega (arith, e, length-append front bytes);
  here =
      drop_at front bytes at e
      ∙ sym (ap (λ (x : List ℕ). bytes ++ x) (drop_all (at + length bytes) (front ++ bytes) (omega (arith, e, length-append front bytes))) ∙ append-nil bytes);
}

-- the bytes that are added stand at their place
pub stands_placed : (at : ℕ) (bytes front : List ℕ) → length front ≤ at → Stands at bytes (placed at bytes front)
unfolding placed
stands_placed at bytes front h =
    stands_last at (front ++ replicate (at - length front) 0) bytes (omega (arith, h, length-append front (replicate (at - length front) 0), length-replicate {A = ℕ} (at - length front) 0))

-- the first of bytes that stand at a place
pub stands_front : (at : ℕ) (bytes more file : List ℕ) → Stands at (bytes ++ more) file → Stands at bytes file
stands_front at bytes more file s =
    let behind : drop (at + length bytes) file ≡ more ++ drop (at + length (bytes ++ more)) file =
    sym (drop-drop (length bytes) at file)
    ∙ ap (drop (length bytes)) (s.here ∙ append_assoc bytes more (drop (at + length (bytes ++ more)) file))
    ∙ drop_at bytes (more ++ drop (at + length (bytes ++ more)) file) (length bytes) refl in
    record {
      room = omega (arith, s.room, length-append bytes more);
      here =
          s.here ∙ append_assoc bytes more (drop (at + length (bytes ++ more)) file)
          ∙ ap (λ (x : List ℕ). bytes ++ x) (sym behind);
    }

-- the last of them
pub stands_back : (at n : ℕ) (bytes more file : List ℕ) → length bytes ≡ n → Stands at (bytes ++ more) file → Stands (at + n) more file
stands_back at n bytes more file e s =
    let behind : drop (at + n) file ≡ more ++ drop (at + length (bytes ++ more)) file =
    sym (drop-drop n at file)
    ∙ ap (drop n) (s.here ∙ append_assoc bytes more (drop (at + length (bytes ++ more)) file))
    ∙ drop_at bytes (more ++ drop (at + length (bytes ++ more)) file) n e in
    let end : at + length (bytes ++ more) ≡ at + n + length more = omega (arith, e, length-append bytes more) in
    record {
      room = omega (arith, s.room, e, length-append bytes more);
      here = behind ∙ ap (λ (k : ℕ). more ++ drop k file) end;
    }

-- a part of a file
pub part_is : (at n : ℕ) (bytes file : List ℕ) → length bytes ≡ n → Stands at bytes file → slice_range file at (at + n) ≡ bytes
part_is at n bytes file e s =
    let len : at + n - at ≡ n = omega arith in
    rw (len, s.here) (take_at bytes (drop (at + length bytes) file) n e)

-- a number of n bytes
pub number_is : (n at x : ℕ) (file : List ℕ) → x < 256 ^ n → Stands at (little_bytes n x) file → field n at file ≡ x
unfolding field
number_is n at x file h s =
    ap (λ (bytes : List ℕ). little_number n bytes) s.here ∙ little_number-reads_back n x (drop (at + length (little_bytes n x)) file) h

-- numbers of n bytes stand one after another, the first i bytes behind a place
abbrev pub HasNumbers : ℕ → ℕ → ℕ → List ℕ → List ℕ → Type 0
HasNumbers n at i [] file = Unit {0}
HasNumbers n at i (x ∷ xs) file = (field n (at + i) file ≡ x) × HasNumbers n at (i + n) xs file

pub numbers_are : (n at i : ℕ) (xs file : List ℕ) → AllByRecursion (λ x. x < 256 ^ n) xs → Stands (at + i) (flat_map (little_bytes n) xs) file → HasNumbers n at i xs file
numbers_are n at i [] file h s = tt
numbers_are n at i (x ∷ xs) file h s =
    let first = stands_front (at + i) (little_bytes n x) (flat_map (little_bytes n) xs) file s in
    let rest = stands_back (at + i) n (little_bytes n x) (flat_map (little_bytes n) xs) file (length-bytes_low_first 0 n x) s in
    let place : at + i + n ≡ at + (i + n) = omega arith in
    (number_is n (at + i) x file h.0 first, numbers_are n at (i + n) xs file h.1 (subst (λ (k : ℕ). Stands k (flat_map (little_bytes n) xs) file) place rest))

-- their length
pub length-numbers : (n : ℕ) (xs : List ℕ) → length (flat_map (little_bytes n) xs) ≡ n * length xs
length-numbers n [] = omega arith
length-numbers n (x ∷ xs) =
    omega (arith, length-append (little_bytes n x) (flat_map (little_bytes n) xs), length-bytes_low_first 0 n x, length-numbers n xs, mul-suc n (length xs))
