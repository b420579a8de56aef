-- What lists tell of names.
use Rattle.std.proofs.Common.{◌≡◌, ℕ, suc, zero, ◌+◌, ◌<◌, List, [], ◌∷◌, ◌++◌, Bool, true, false, cond, refl, sym, ap, subst, ◌∙◌, length, take, get_or, arith, IsSome, ◌||◌, ◌&&◌, ◌==◌}
use Rattle.std.specs.List.{filter, list_any, list_all}
use Rattle.std.specs.Cmp.Lexicographic.{bytes_decides, nat_list_eq_equiv}
use Rattle.std.specs.Str.{bytes_eq}
use Rattle.std.specs.BTreeMap.{BTreeMap}
use Rattle.std.specs.declared.vec.Vec.{Vec}
use Rattle.std.proofs.lemmas.List.Elements.{filter_more, filter-append}
use Rattle.std.proofs.lemmas.List.Folds.{list_any-append, list_all-append}
use Rattle.wf_outside.specs.declared.image.Name.{Name}
use Rattle.elf_syms.specs.declared.found.Found.{Found}
use Rattle.elf_syms.specs.declared.found.Found.TheVariants as found
use Rattle.elf_syms.specs.declared.among.Among.{Among}
use Rattle.elf_syms.specs.declared.among.Among.TheVariants.{All}
use Rattle.elf_syms.specs.Among.{among, is_among}
use Rattle.elf_syms.specs.Maps.{entry_at, AreThere}
use Rattle.elf_syms.specs.Telling.{told_by, told_of, joined, has_name, or_else}

-- one more name of a list
pub among-more : (which : Among) (names : List Name) (i : ℕ) (e : Name) → i < length names → e ≡ get_or names i e → is_among which e ≡ true
    → among which (take (i + 1) names) ≡ among which (take i names) ++ e ∷ []
among-more which names i e lt is counts =
    filter_more (is_among which) names i e lt
    ∙ ap (λ x. among which (take i names) ++ cond (is_among which x) (x ∷ []) []) (sym is)
    ∙ ap (λ b. among which (take i names) ++ cond b (e ∷ []) []) counts

append_nil : {X : Type 0} (xs : List X) → xs ++ [] ≡ xs
append_nil [] = refl
append_nil (x ∷ xs) = ap (λ l. x ∷ l) (append_nil xs)

pub among-same : (which : Among) (names : List Name) (i : ℕ) (e : Name) → i < length names → e ≡ get_or names i e → is_among which e ≡ false
    → among which (take (i + 1) names) ≡ among which (take i names)
among-same which names i e lt is passes =
    filter_more (is_among which) names i e lt
    ∙ ap (λ x. among which (take i names) ++ cond (is_among which x) (x ∷ []) []) (sym is)
    ∙ ap (λ b. among which (take i names) ++ cond b (e ∷ []) []) passes
    ∙ append_nil (among which (take i names))

-- all names count
pub among-all : (names : List Name) → among All names ≡ names
among-all [] = refl
among-all (n ∷ names) = ap (λ l. n ∷ l) (among-all names)

-- one more name that is a key, where keys stay
pub there-more : {Z : Type 0} (m n : BTreeMap (Vec ℕ Z) Found) (names : List Name) (e : Name)
    → ((other : List ℕ) → IsSome (entry_at m other) → IsSome (entry_at n other)) → AreThere m names → IsSome (entry_at n e.name)
    → AreThere n (names ++ e ∷ [])
there-more m n [] e stay there here = (here, tt)
there-more m n (x ∷ names) e stay there here = (stay x.name there.0, there-more m n names e stay there.1 here)

pub there-stays : {Z : Type 0} (m n : BTreeMap (Vec ℕ Z) Found) (names : List Name)
    → ((other : List ℕ) → IsSome (entry_at m other) → IsSome (entry_at n other)) → AreThere m names → AreThere n names
there-stays m n [] stay there = tt
there-stays m n (x ∷ names) stay there = (stay x.name there.0, there-stays m n names stay there.1)

-- a name of the list is a key
pub there-at : {Z : Type 0} (m : BTreeMap (Vec ℕ Z) Found) (which : Among) (names : List Name) (i : ℕ) (e : Name)
    → AreThere m (among which names) → i < length names → e ≡ get_or names i e → is_among which e ≡ true → IsSome (entry_at m e.name)
there-at m which [] i e there lt is counts = absurd (omega arith)
there-at m which (x ∷ names) zero e there lt is counts =
    let c : is_among which x ≡ true = subst (λ y. is_among which y ≡ true) is counts in
    let t : AreThere m (x ∷ among which names) = subst (AreThere m) (ap (λ b. cond b (x ∷ among which names) (among which names)) c) there in
    subst (λ y. IsSome (entry_at m y.name)) (sym is) t.0
there-at m which (x ∷ names) (suc i) e there lt is counts =
    there-at m which names i e (rest (is_among which x) there) (omega arith) is counts
  where
    rest : (b : Bool) → AreThere m (cond b (x ∷ among which names) (among which names)) → AreThere m (among which names)
    rest true t = t.1
    rest false t = t

any-step : (b : Bool) (r : Bool) (x : Name) (rest : List Name) → r ≡ list_any (λ y. true) rest → (b || r) ≡ list_any (λ y. true) (cond b (x ∷ rest) rest)
any-step true r x rest e = refl
any-step false r x rest e = e

any-filter : (name : List ℕ) (names : List Name) → list_any (has_name name) names ≡ list_any (λ y. true) (filter (has_name name) names)
any-filter name [] = refl
any-filter name (x ∷ names) = any-step (has_name name x) (list_any (has_name name) names) x (filter (has_name name) names) (any-filter name names)

-- the list decides where it has the name
pub decided : (names : List Name) (name : List ℕ) (other : Found)
    → cond (list_any (has_name name) names) (told_of names name) other ≡ or_else (told_of names name) other
decided names name other = ap (λ b. cond b (told_of names name) other) (any-filter name names) ∙ cases (filter (has_name name) names) where
  either : (b : Bool) (f : Name) → cond b (found.One f.addr f.size) found.Several ≡ or_else (cond b (found.One f.addr f.size) found.Several) other
  either true f = refl
  either false f = refl

  cases : (entries : List Name) → cond (list_any (λ x. true) entries) (told_by entries) other ≡ or_else (told_by entries) other
  cases [] = refl
  cases (e ∷ es) = either _ e

-- one more name of which the list decides
pub decided-more : (all : List Name) (before : List Name) (e : Name) (name : List ℕ) (told old : Found) → told ≡ told_of all e.name
    → cond (bytes_eq e.name name) told (cond (list_any (has_name name) before) (told_of all name) old)
    ≡ cond (list_any (has_name name) (before ++ e ∷ [])) (told_of all name) old
decided-more all before e name told old is =
    at (bytes_eq e.name name) refl
    ∙ ap (λ b. cond b (told_of all name) old) (sym (list_any-append (has_name name) before (e ∷ []) ∙ ap (λ b. list_any (has_name name) before || (b || false)) (nat_list_eq_equiv.symm name e.name)))
  where
    at : (b : Bool) → bytes_eq e.name name ≡ b → cond b told (cond (list_any (has_name name) before) (told_of all name) old)
        ≡ cond (list_any (has_name name) before || (b || false)) (told_of all name) old
    at true same = is ∙ ap (told_of all) ((bytes_decides e.name name).0 same) ∙ on (list_any (has_name name) before) where
      on : (b : Bool) → told_of all name ≡ cond (b || (true || false)) (told_of all name) old
      on true = refl
      on false = refl
    at false apart = off (list_any (has_name name) before) where
      off : (b : Bool) → cond b (told_of all name) old ≡ cond (b || (false || false)) (told_of all name) old
      off true = refl
      off false = refl

joined-cond : (b c : Bool) (x : Name) (e : Name) → (e.addr == x.addr) ≡ c
    → cond (b && (c && true)) (found.One x.addr x.size) found.Several ≡ joined (cond b (found.One x.addr x.size) found.Several) e
joined-cond true true x e is = sym (ap (λ d. cond d (found.One x.addr x.size) found.Several) is)
joined-cond true false x e is = sym (ap (λ d. cond d (found.One x.addr x.size) found.Several) is)
joined-cond false c x e is = refl

told_by-push : (xs : List Name) (e : Name) → told_by (xs ++ e ∷ []) ≡ joined (told_by xs) e
told_by-push [] e = refl
told_by-push (x ∷ xs) e =
    ap (λ b. cond b (found.One x.addr x.size) found.Several) (list_all-append (λ other. other.addr == x.addr) xs (e ∷ []))
    ∙ joined-cond (list_all (λ other. other.addr == x.addr) xs) (e.addr == x.addr) x e refl

pushed : (b : Bool) (xs : List Name) (e : Name) → told_by (xs ++ cond b (e ∷ []) []) ≡ cond b (joined (told_by xs) e) (told_by xs)
pushed true xs e = told_by-push xs e
pushed false xs e = ap told_by (append_nil xs)

-- what a list tells behind one more name
pub told_of-push : (names : List Name) (e : Name) (name : List ℕ)
    → told_of (names ++ e ∷ []) name ≡ cond (bytes_eq e.name name) (joined (told_of names name) e) (told_of names name)
told_of-push names e name =
    ap told_by (filter-append (has_name name) names (e ∷ []))
    ∙ pushed (bytes_eq name e.name) (filter (has_name name) names) e
    ∙ ap (λ b. cond b (joined (told_of names name) e) (told_of names name)) (nat_list_eq_equiv.symm name e.name)

-- one more name of which the joined entry is written
pub told-more : (before : List Name) (e : Name) (name : List ℕ) (here there : Found) → here ≡ told_of before e.name → there ≡ told_of before name
    → cond (bytes_eq e.name name) (joined here e) there ≡ told_of (before ++ e ∷ []) name
told-more before e name here there is_here is_there =
    at (bytes_eq e.name name) refl ∙ sym (told_of-push before e name)
  where
    at : (b : Bool) → bytes_eq e.name name ≡ b → cond b (joined here e) there ≡ cond (bytes_eq e.name name) (joined (told_of before name) e) (told_of before name)
    at true same = ap (λ f. joined f e) (is_here ∙ ap (told_of before) ((bytes_decides e.name name).0 same)) ∙ ap (λ b. cond b (joined (told_of before name) e) (told_of before name)) (sym same)
    at false apart = is_there ∙ ap (λ b. cond b (joined (told_of before name) e) (told_of before name)) (sym apart)
