-- Maps whose keys are bytes.
use Rattle.std.proofs.Common.{◌≡◌, ℕ, List, [], ◌∷◌, Bool, true, false, cond, refl, sym, ap, subst, ◌∙◌, rules, None, Some, Option, IsSome, map, unwrap_or}
use Rattle.std.specs.Ordering.{is_eq, nat_cmp}
use Rattle.std.specs.Cmp.{eq_by_cmp_equiv}
use Rattle.std.specs.Cmp.Lexicographic.{slice_cmp, bytes_decides, nat_list_cmp_total, nat_list_eq_equiv}
use Rattle.std.specs.Str.{bytes_eq}
use Rattle.std.specs.BTreeMap as tree
use Rattle.std.specs.BTreeMap.{BTreeMap, is_at}
use Rattle.std.specs.Map.{lookup, IsKeyTest, AreApart, KeepsOthers}
use Rattle.std.specs.declared.vec.Vec.{Vec}
use Rattle.std.proofs.lemmas.Bool.{cases_Bool, cond-true, cond-false}
use Rattle.std.proofs.lemmas.Map.Text.{is_eq-slice_cmp}
use mathlib.Core.Logic.{⊎_elim}
use Rattle.elf_syms.specs.declared.found.Found.{Found}
use Rattle.elf_syms.specs.declared.found.Found.TheVariants as found
use Rattle.elf_syms.specs.Names.{found_for}
use Rattle.elf_syms.specs.Maps.{entry_at, found_at, names_in}

apart_in_order : (bs cs ks : List ℕ) → bytes_eq bs cs ≡ false → is_eq (slice_cmp nat_cmp bs ks) ≡ true → is_eq (slice_cmp nat_cmp cs ks) ≡ false
apart_in_order bs cs ks n y =
    is_eq-slice_cmp cs ks ∙ nat_list_eq_equiv.symm cs ks ∙ sym (nat_list_eq_equiv.congr bs ks cs (sym (is_eq-slice_cmp bs ks) ∙ y)) ∙ n

other_entries : {K X : Type 0} (eq : K → K → Bool) (test : K → Bool) (old new : List (K × X)) → KeepsOthers eq test old new
    → (other : K → Bool) → IsKeyTest eq other → AreApart test other → lookup other new ≡ lookup other old
unfolding KeepsOthers
other_entries eq test old new h = h

-- f is w at bs, and g at other bytes
by_bytes : {W : Type 0} (f g : List ℕ → W) (bs : List ℕ) (w : W) → g bs ≡ w → ((cs : List ℕ) → bytes_eq bs cs ≡ false → g cs ≡ f cs)
    → (cs : List ℕ) → g cs ≡ cond (bytes_eq bs cs) w (f cs)
by_bytes f g bs w here other cs =
    ⊎_elim
    (λ y. subst (λ l. g l ≡ w) ((bytes_decides bs cs).0 y) here ∙ sym (cond-true (bytes_eq bs cs) w (f cs) y))
    (λ n. other cs n ∙ sym (cond-false (bytes_eq bs cs) w (f cs) n))
    (cases_Bool (bytes_eq bs cs))

-- what stands at any bytes after a change at the bytes bs
pub entry_at-updates : {Z : Type 0} (bs : List ℕ) (m n : BTreeMap (Vec ℕ Z) Found) (w : Option Found)
    → tree.UpdatesBy (λ x y. slice_cmp nat_cmp x.items y.items) (λ k. slice_cmp nat_cmp bs k.items) m n w
    → (cs : List ℕ) → entry_at n cs ≡ cond (bytes_eq bs cs) w (entry_at m cs)
entry_at-updates bs m n w h =
    by_bytes (entry_at m) (entry_at n) bs w h.1
    (λ cs e. other_entries _ _ _ _ h.3 _ (λ x y. (eq_by_cmp_equiv nat_list_cmp_total).congr cs x.items y.items) (λ k. apart_in_order bs cs k.items e))

-- the model finds what the map does
lookup-names : {Z : Type 0} (name : List ℕ) (entries : List (Vec ℕ Z × Found))
    → lookup (bytes_eq name) (map (λ e. (e.0.items, e.1)) entries) ≡ lookup (is_at (λ k. slice_cmp nat_cmp name k.items)) entries
lookup-names name [] = refl
lookup-names name (e ∷ es) = rw (is_eq-slice_cmp name e.0.items, lookup-names name es) refl

pub found_for-names_in : {Z : Type 0} (m : BTreeMap (Vec ℕ Z) Found) (name : List ℕ) → found_for (names_in m) name ≡ found_at m name
found_for-names_in m name = ap (λ o. unwrap_or o found.None) (lookup-names name m.entries)

-- what is found of any bytes after a change at the bytes bs
pub found_at-updates : {Z : Type 0} (bs : List ℕ) (m n : BTreeMap (Vec ℕ Z) Found) (told : Found)
    → tree.UpdatesBy (λ x y. slice_cmp nat_cmp x.items y.items) (λ k. slice_cmp nat_cmp bs k.items) m n (Some told)
    → (cs : List ℕ) → found_at n cs ≡ cond (bytes_eq bs cs) told (found_at m cs)
found_at-updates bs m n told h cs =
    ap (λ o. unwrap_or o found.None) (entry_at-updates bs m n (Some told) h cs) ∙ unwrapped (bytes_eq bs cs) (entry_at m cs)
  where
    unwrapped : (b : Bool) (o : Option Found) → unwrap_or (cond b (Some told) o) found.None ≡ cond b told (unwrap_or o found.None)
    unwrapped true o = refl
    unwrapped false o = refl

-- keys stay
pub stays-updates : {Z : Type 0} (bs : List ℕ) (m n : BTreeMap (Vec ℕ Z) Found) (told : Found)
    → tree.UpdatesBy (λ x y. slice_cmp nat_cmp x.items y.items) (λ k. slice_cmp nat_cmp bs k.items) m n (Some told)
    → (cs : List ℕ) → IsSome (entry_at m cs) → IsSome (entry_at n cs)
stays-updates bs m n told h cs there =
    subst IsSome (sym (entry_at-updates bs m n (Some told) h cs)) (either (bytes_eq bs cs) (entry_at m cs) there)
  where
    either : (b : Bool) (o : Option Found) → IsSome o → IsSome (cond b (Some told) o)
    either true o some = search rules
    either false o some = some

-- a new key of which nothing is found changes nothing that is found
pub found_at-reserved : {Z : Type 0} (bs : List ℕ) (m n : BTreeMap (Vec ℕ Z) Found)
    → tree.UpdatesBy (λ x y. slice_cmp nat_cmp x.items y.items) (λ k. slice_cmp nat_cmp bs k.items) m n (Some found.None)
    → entry_at m bs ≡ None → (cs : List ℕ) → found_at n cs ≡ found_at m cs
found_at-reserved bs m n h absent cs =
    found_at-updates bs m n found.None h cs ∙
    ⊎_elim
    (λ y. cond-true (bytes_eq bs cs) _ _ y ∙ sym (ap (λ o. unwrap_or o found.None) (subst (λ l. entry_at m l ≡ None) ((bytes_decides bs cs).0 y) absent)))
    (λ e. cond-false (bytes_eq bs cs) _ _ e)
    (cases_Bool (bytes_eq bs cs))
