-- What the kernel's own actor did of its work is taken back.
use Rattle.std.proofs.Common.{◌≡◌, ◌≢◌, ◌<◌, ◌≤◌, ◌+◌, ◌++◌, ℕ, zero, suc, List, [], ◌∷◌, Bool, true, false, Option, Some, length, get_or, drop, map, refl, sym, subst, ap, ◌∙◌, inl, inr, add-one, arith}
use Rattle.std.specs.Prelude.{nat_lt}
use Rattle.std.specs.List.{AllByRecursion, filter, range_with_len}
use Rattle.std.proofs.lemmas.Bool.{cases_lt}
use Rattle.std.proofs.lemmas.Bool.Decides.{nat_tests}
use Rattle.std.proofs.lemmas.List.{length-map}
use Rattle.std.proofs.Math.Seq.{drop-cons}
use Rattle.wf_outside.specs.Images.{DeltaValue}
use Rattle.wf_outside.specs.Lists.{IsRising}
use Rattle.wf_flat.specs.declared.event.Actor.TheVariants.{Kernel}
use Rattle.wf_flat.specs.declared.event.Event.{Event}
use Rattle.wf_flat.specs.declared.event.Event.TheVariants.{Map}
use Rattle.wf_flat.specs.State.{FlatState, GenState, PageState}
use Rattle.wf_flat.specs.Lists.{inserted_by, sorted_by}
use Rattle.wf_flat.specs.Ordered.{IsOrdered}
use Rattle.wf_flat.proofs.SortLemmas.{all_sorted}
use Rattle.wf_effects.specs.Effects.{delta_of, mapped, mapped_pages, reaching}
use Rattle.wf_verdict.specs.declared.work.Todo.{Todo}
use Rattle.wf_verdict.specs.declared.work.Todo.TheVariants.{Exactly}
use Rattle.wf_legal.specs.Events.{flat_after}
use Rattle.wf_sound.specs.Making.{CanBeMade}
use Rattle.wf_sound.proofs.AllLemmas.{all_filter, inserted_here, inserted_past, map_all, true_or_false}
use Rattle.wf_service.proofs.QuietLemmas.{IsFree, all_but, noted_alone}
use Rattle.wf_request.specs.Requesting.{AreMappingButLast, CanAllBeDone, CanBeUndone, HasMapped, IsMapping, all_done, event_of, reaching_only, unmapped_since}
use Rattle.wf_request.proofs.ReachLemmas.{all_reaches, reaching_again, reaching_own}

module _ {A : Type 0} (number : A → ℕ) (keeps : A → Bool) where
  -- what is kept, and lies below all else that is, comes first
  kept_first : (x : A) (ys : List A) → keeps x ≡ true → AllByRecursion (λ y. number x < number y) (filter keeps ys) → filter keeps (inserted_by number x ys) ≡ x ∷ filter keeps ys
  kept_first x [] k low = rw k refl
  kept_first x (y ∷ ys) k low = elim (cases_lt (number y) (number x)) [
    | inl lt ↦ (ap (filter keeps) (inserted_past number x y ys lt) ∙ (elim (true_or_false (keeps y)) [
      | inl t ↦ absurd (let all : AllByRecursion (λ y. number x < number y) (y ∷ filter keeps ys) = rw t at low in let up : number x < number y = all.0 in omega arith)
      | inr t ↦ (rw t (kept_first x ys k (rw t at low)))
    ]))
    | inr le ↦ (ap (filter keeps) (inserted_here number x y ys le) ∙ rw k refl)
  ]

  -- what is not kept leaves no trace
  dropped_in : (x : A) (ys : List A) → keeps x ≡ false → filter keeps (inserted_by number x ys) ≡ filter keeps ys
  dropped_in x [] k = rw k refl
  dropped_in x (y ∷ ys) k = elim (cases_lt (number y) (number x)) [
    | inl lt ↦ (ap (filter keeps) (inserted_past number x y ys lt) ∙ (elim (true_or_false (keeps y)) [
      | inl t ↦ (rw t (ap (λ (zs : List A). y ∷ zs) (dropped_in x ys k)))
      | inr t ↦ (rw t (dropped_in x ys k))
    ]))
    | inr le ↦ (ap (filter keeps) (inserted_here number x y ys le) ∙ rw k refl)
  ]

  none_kept : (ys : List A) → AllByRecursion (λ y. keeps y ≡ false) ys → filter keeps ys ≡ []
  none_kept [] none = refl
  none_kept (y ∷ ys) none = let k : keeps y ≡ false = none.0 in rw k (none_kept ys none.1)

  all_kept : (ys : List A) → AllByRecursion (λ y. keeps y ≡ true) ys → filter keeps ys ≡ ys
  all_kept [] all = refl
  all_kept (y ∷ ys) all = let k : keeps y ≡ true = all.0 in rw k (ap (λ (zs : List A). y ∷ zs) (all_kept ys all.1))

  -- of a rising list, into which what is not kept was sorted
  kept_sorted : (xs ys : List A) → IsRising (map number xs) → AllByRecursion (λ y. keeps y ≡ false) ys → filter keeps (sorted_by number (xs ++ ys)) ≡ filter keeps xs
  kept_sorted [] ys up none = none_kept (sorted_by number ys) (all_sorted (λ y. keeps y ≡ false) number ys none)
  kept_sorted (x ∷ xs) ys up none =
      let rest : filter keeps (sorted_by number (xs ++ ys)) ≡ filter keeps xs = kept_sorted xs ys up.1 none in
      let above : AllByRecursion (λ y. number x < number y) (filter keeps xs) = all_filter keeps (λ y. number x < number y) (λ y. number x < number y) (λ y k lt. lt) xs (map_all (λ y. number x < number y) (λ m. number x < m) number (λ y lt. lt) xs up.0) in
      elim (true_or_false (keeps x)) [
        | inl t ↦ (kept_first x (sorted_by number (xs ++ ys)) t (subst (AllByRecursion (λ y. number x < number y)) (sym rest) above) ∙ ap (λ (zs : List A). x ∷ zs) rest ∙ rw t refl)
        | inr t ↦ (dropped_in x (sorted_by number (xs ++ ys)) t ∙ rest ∙ rw t refl)
      ]

not_below : (a b : ℕ) → b ≤ a → nat_lt a b ≡ false
not_below a b h = grind (arith, nat_tests)

is_below : (a b : ℕ) → a < b → nat_lt a b ≡ true
is_below a b h = grind (arith, nat_tests)

-- pages that are mapped now have later births
born_later : (delta : Option DeltaValue) (write : Bool) (page birth n b : ℕ) → b ≤ birth → AllByRecursion (λ page. nat_lt page.birth b ≡ false) (mapped_pages delta write page birth n)
born_later delta write page birth zero b h = tt
born_later delta write page birth (suc n) b h = (not_below birth b h, born_later delta write (page + 1) (birth + 1) n b (omega arith))

born_earlier : (b : ℕ) (pages : List PageState) → AllByRecursion (λ page. page.birth < b) pages → AllByRecursion (λ page. nat_lt page.birth b ≡ true) pages
born_earlier b [] all = tt
born_earlier b (page ∷ pages) all = (is_below page.birth b all.0, born_earlier b pages all.1)

-- where no hart is in a try, a Map of the kernel's own actor only maps
pub maps_only : (deltas : List DeltaValue) (s : FlatState) (page n : ℕ) (write : Bool) (patch : Option ℕ) → AllByRecursion IsFree s.harts → flat_after deltas s Kernel (Map page n write patch) ≡ mapped s page n write (delta_of deltas patch)
maps_only deltas s page n write patch free =
    noted_alone (mapped s page n write (delta_of deltas patch)) (length s.harts) (range_with_len page n) (all_but IsFree (length s.harts) s.harts free)

-- nothing was mapped yet
none_mapped : (s : FlatState) → AllByRecursion (λ page. page.birth < s.births) s.pages → HasMapped s s
none_mapped s births =
    let keeps : PageState → Bool = λ page. nat_lt page.birth s.births in
    let pages : filter keeps s.pages ≡ s.pages = all_kept (λ (page : PageState). page.number) keeps s.pages (born_earlier s.births s.pages births) in
    record {
      more_births = omega arith;
      same_gens = refl;
      undone = ap (λ (ps : List PageState). (let t : FlatState = record s { pages = ps; gens = reaching_only (all_reaches s.gens) s.gens; births = s.births } in t)) pages
          ∙ ap (λ (gs : List GenState). (let t : FlatState = record s { gens = gs } in t)) (reaching_own s.gens);
    }

-- pages that were mapped more are taken back too
undone_more : (s : FlatState) (b : ℕ) (reaches : List (List ℕ)) (page n : ℕ) (write : Bool) (delta : Option DeltaValue) → IsOrdered s → b ≤ s.births → length s.gens ≤ length reaches → unmapped_since (mapped s page n write delta) b reaches ≡ unmapped_since s b reaches
undone_more s b reaches page n write delta up later enough =
    let keeps : PageState → Bool = λ page. nat_lt page.birth b in
    let pages : filter keeps (mapped s page n write delta).pages ≡ filter keeps s.pages = kept_sorted (λ (page : PageState). page.number) keeps s.pages (mapped_pages delta write page s.births n) up.pages (born_later delta write page s.births n b later) in
    let gens : reaching_only reaches (mapped s page n write delta).gens ≡ reaching_only reaches s.gens = reaching_again reaches (range_with_len page n) s.gens enough in
    ap (λ (ps : List PageState). (let t : FlatState = record s { pages = ps; gens = reaching_only reaches (mapped s page n write delta).gens; births = b } in t)) pages
    ∙ ap (λ (gs : List GenState). (let t : FlatState = record s { pages = filter keeps s.pages; gens = gs; births = b } in t)) gens

mapped_more : (old now : FlatState) (page n : ℕ) (write : Bool) (delta : Option DeltaValue) → IsOrdered now → HasMapped old now → HasMapped old (mapped now page n write delta)
mapped_more old now page n write delta up k =
    let births = k.more_births in
    let own = length-map old.gens (λ (gen : GenState). gen.reach) in
    let same = k.same_gens in
    let enough : length now.gens ≤ length (all_reaches old.gens) = omega arith in
    record {
      more_births = omega arith;
      same_gens = length-map now.gens (reaching (range_with_len page n)) ∙ k.same_gens;
      undone = undone_more now old.births (all_reaches old.gens) page n write delta up k.more_births enough ∙ k.undone;
    }

-- so after an event that maps pages of a patch
event_mapped : (deltas : List DeltaValue) (old now : FlatState) (next : Todo) → IsMapping next → AllByRecursion IsFree old.harts → CanBeMade deltas now Kernel (event_of next) → HasMapped old now → HasMapped old (flat_after deltas now Kernel (event_of next))
event_mapped deltas old now (Exactly (Map page n write (Some patch))) is free can k =
    let harts : now.harts ≡ old.harts = ap (λ (s : FlatState). s.harts) k.undone in
    let only = maps_only deltas now page n write (Some patch) (subst (AllByRecursion IsFree) (sym harts) free) in
    subst (HasMapped old) (sym only) (mapped_more old now page n write (delta_of deltas (Some patch)) can.ordered k)
event_mapped deltas old now next is free can k = absurd is

-- how far work that can be taken back has come: this is still to do, and where that is something,
-- pages alone were mapped
pub record IsUnderWay (deltas : List DeltaValue) (old : FlatState) (todo : List Todo) (now : FlatState) (rest : List Todo) : Type 0 where
  pub can : CanAllBeDone deltas now rest
  pub maps : AreMappingButLast rest
  pub whole : all_done deltas now rest ≡ all_done deltas old todo
  pub mapped : rest ≢ [] → HasMapped old now

pub way_first : (deltas : List DeltaValue) (s : FlatState) (todo : List Todo) → CanBeUndone deltas s todo → IsUnderWay deltas s todo s todo
way_first deltas s todo can = record { can = can.can; maps = can.maps; whole = refl; mapped = λ some. none_mapped s can.births }

pub way_next : (deltas : List DeltaValue) (old now : FlatState) (todo : List Todo) (next : Todo) (rest : List Todo) → AllByRecursion IsFree old.harts → IsUnderWay deltas old todo now (next ∷ rest) → IsUnderWay deltas old todo (flat_after deltas now Kernel (event_of next)) rest
way_next deltas old now todo next [] free way = record { can = tt; maps = tt; whole = way.whole; mapped = λ some. absurd (some refl) }
way_next deltas old now todo next (other ∷ rest) free way = record {
  can = way.can.1;
  maps = way.maps.1;
  whole = way.whole;
  mapped = λ some. event_mapped deltas old now next way.maps.0 free way.can.0 (way.mapped (λ e. absurd (cc)));
}

pub way_more : (deltas : List DeltaValue) (old now new : FlatState) (todo : List Todo) (i : ℕ) (d : Todo) (event : Event) → AllByRecursion IsFree old.harts → i < length todo → IsUnderWay deltas old todo now (drop i todo) → event ≡ event_of (get_or todo i d) → new ≡ flat_after deltas now Kernel event
    → IsUnderWay deltas old todo new (drop (i + 1) todo)
way_more deltas old now new todo i d event free lt way is changed =
    let front : drop i todo ≡ get_or todo i d ∷ drop (i + 1) todo = rw (drop-cons todo i d lt, add-one) refl in
    let next = way_next deltas old now todo (get_or todo i d) (drop (i + 1) todo) free (subst (IsUnderWay deltas old todo now) front way) in
    subst (λ (s : FlatState). IsUnderWay deltas old todo s (drop (i + 1) todo)) (sym (changed ∙ ap (flat_after deltas now Kernel) is)) next
