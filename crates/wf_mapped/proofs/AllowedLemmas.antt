-- A mapping that is refused for nothing may be done.
use Rattle.std.proofs.Common.{◌≡◌, ◌<◌, ◌≤◌, ◌+◌, ◌*◌, ◌==◌, ℕ, zero, suc, List, [], ◌∷◌, Bool, true, false, Option, Some, None, length, refl, sym, ap, subst, ◌∙◌, inl, inr, arith, is_some, ◌++◌}
use Rattle.std.specs.Prelude.{IsSomeAnd, nat_lt}
use Rattle.std.specs.List.{AllByRecursion, range_with_len}
use Rattle.std.proofs.lemmas.Bool.Decides.{nat_tests}
use Rattle.wf_outside.specs.declared.refusal.Refusal.{Refusal}
use Rattle.wf_outside.specs.declared.refusal.Refusal.TheVariants.{NoFrames}
use Rattle.wf_outside.specs.Lists.{IsRising, first_of}
use Rattle.wf_outside.specs.Pages.{page_of}
use Rattle.wf_flat.specs.Accesses.{is_ending, is_going}
use Rattle.wf_flat.specs.Counts.{used_of}
use Rattle.wf_flat.specs.Lists as flat
use Rattle.wf_flat.specs.Memory.{data_in, has_met, met_key}
use Rattle.wf_flat.specs.Ordered.{page_numbers}
use Rattle.wf_flat.specs.State.{FlatState, PageState}
use Rattle.wf_homes.specs.Homes.{free_frames}
use Rattle.wf_homes.specs.Laws.{AreCounted, IsTidy}
use Rattle.wf_homes.proofs.CountLemmas.{tenants_counted}
use Rattle.wf_homes.proofs.HomeLemmas.{free_counted}
use Rattle.wf_homes.proofs.ListLemmas.{all_both, all_more, map_all, true_or_false}
use Rattle.wf_flat.proofs.FoundLemmas.{key_of_found}
use Rattle.wf_space.proofs.MeetLemmas.{found_each, some_of}
use Rattle.wf_space.specs.Jobs.{leaving_in}
use Rattle.wf_verdict.specs.Verdict.{more_than_free}
use Rattle.wf_mapping.specs.declared.layout.Mapping.{Mapping}
use Rattle.wf_mapping.specs.Laws.{NoneGoing, mapped_by}
use Rattle.wf_mapping.specs.Layout.{free_in, need_of, numbers_of}
use Rattle.wf_mapping.specs.Refusals.{no_frames_in, overlap_in}
use Rattle.wf_mapping.proofs.AgreeLemmas.{all_absent, leaving_same, overlap_same}
use Rattle.wf_mapping.proofs.FreeLemmas.{free_agree}
use Rattle.wf_mapping.proofs.NeedLemmas.{need_counted, tidy_mapped}
use Rattle.wf_mapped.proofs.AnyLemmas.{all_and}
use Rattle.wf_mapped.proofs.PageLemmas.{found_first, number_of, sorted_all, sorted_found}
use Rattle.wf_mapped.proofs.ViewLemmas.{all_numbers}
use Rattle.wf_effects.specs.Effects.{mapped_page, mapped_pages}
use Rattle.wf_homes.proofs.FoundLemmas.{some_at}
use Rattle.wf_mapped.specs.Mapped.{MapsCanBeAskedAgain, HaveMetPages, MapsMayBeDone}

-- none of three applies where the first that does is none
pub record NoneOfThree (a b c : Option Refusal) : Type 0 where
  pub first : a ≡ None
  pub second : b ≡ None
  pub third : c ≡ None

none_first : (a b c : Option Refusal) → first_of (a ∷ b ∷ c ∷ []) ≡ None → NoneOfThree a b c
none_first (Some x) b c e = absurd cc
none_first None (Some y) c e = absurd cc
none_first None None (Some z) e = absurd cc
none_first None None None e = record { first = refl; second = refl; third = refl }

frames_suffice : (need free : ℕ) → more_than_free need free ≡ None → need ≤ free
frames_suffice need free e = elim (true_or_false (nat_lt free need)) [
  | inl t ↦ absurd (let k : Some (NoFrames need free) ≡ None = rw t at e in cc)
  | inr t ↦ (grind (arith, nat_tests))
]

-- each page of data is found by its number
data_found : (ps : List PageState) → IsRising (page_numbers ps) → AllByRecursion (λ p. data_in ps p.number ≡ Some p) ps
data_found [] up = tt
data_found (x ∷ xs) up =
    let t : (x.number == x.number) ≡ true = grind (arith, nat_tests) in
    (rw t refl, both xs (map_all (λ y. x.number < y.number) (λ m. x.number < m) (λ (y : PageState). y.number) (λ y lt. lt) xs up.0) (data_found xs up.1))
  where
    both : (ys : List PageState) → AllByRecursion (λ y. x.number < y.number) ys → AllByRecursion (λ y. data_in xs y.number ≡ Some y) ys → AllByRecursion (λ y. data_in (x ∷ xs) y.number ≡ Some y) ys
    both [] a b = tt
    both (y ∷ ys) a b =
        let lt : x.number < y.number = a.0 in
        let f : (x.number == y.number) ≡ false = grind (arith, nat_tests) in
        (rw f b.0, both ys a.1 b.1)

-- what was met is one of the pairs
met_one : (P : ℕ × ℕ → Type 0) (met : List (ℕ × ℕ)) (k : ℕ) → AllByRecursion P met → is_some (flat.found_by met_key met k) ≡ true → (pair : ℕ × ℕ) × P pair × (met_key pair ≡ k)
met_one P [] k all e = absurd cc
met_one P (x ∷ xs) k all e = elim (true_or_false (met_key x == k)) [
  | inl t ↦ (x, all.0, (let same : met_key x ≡ k = grind (arith, nat_tests) in same))
  | inr t ↦ met_one P xs k all.1 (rw t at e)
]

low_numbers : (P : ℕ → Type 0) (page n : ℕ) → ((k : ℕ) → k < page + n → P k) → AllByRecursion P (range_with_len page n)
low_numbers P page zero each = tt
low_numbers P page (suc n) each = (each page (omega arith), low_numbers P (page + 1) n (λ k lt. each k (omega arith)))

module _ (s : FlatState) (have : HaveMetPages s) where
  -- a page that was met is a page of data that is not Ending
  met_page : (g page : ℕ) → page < 0x4000000 → has_met s.met g page ≡ true → IsSomeAnd (data_in s.pages page) (λ p. is_ending p.stage ≡ false)
  met_page g page lt e =
      let x = met_one (λ (pair : ℕ × ℕ). IsSomeAnd (data_in s.pages pair.1) (λ p. is_ending p.stage ≡ false)) s.met (met_key (g, page)) have.met e in
      let y = some_of (data_in s.pages x.0.1) (λ (p : PageState). is_ending p.stage ≡ false) x.1 in
      let number : y.0.number ≡ x.0.1 = key_of_found (λ (p : PageState). p.number) s.pages x.0.1 y.0 y.1 in
      let low : y.0.number < 0x4000000 = found_each (λ (p : PageState). p.number < 0x4000000) s.pages x.0.1 y.0 have.low y.1 in
      let key : x.0.0 * 0x4000000 + x.0.1 ≡ g * 0x4000000 + page = x.2 in
      let same : x.0.1 ≡ page = one_page x.0.0 x.0.1 g page (omega arith) lt key in
      subst (λ (n : ℕ). IsSomeAnd (data_in s.pages n) (λ p. is_ending p.stage ≡ false)) same x.1
    where
      one_page : (a b c d : ℕ) → b < 0x4000000 → d < 0x4000000 → a * 0x4000000 + b ≡ c * 0x4000000 + d → b ≡ d
      one_page a b c d lb ld e = omega arith

  unmet_absent : (g page : ℕ) → page < 0x4000000 → data_in s.pages page ≡ None → has_met s.met g page ≡ false
  unmet_absent g page lt none = by_met (has_met s.met g page) refl
    where
      by_met : (b : Bool) → has_met s.met g page ≡ b → b ≡ false
      by_met false e = refl
      by_met true e =
          let x = some_of (data_in s.pages page) (λ (p : PageState). is_ending p.stage ≡ false) (met_page g page lt e) in
          absurd (let k : Some x.0 ≡ None = sym x.1 ∙ none in cc)

  unmet_ending : (g : ℕ) (p : PageState) → data_in s.pages p.number ≡ Some p → p.number < 0x4000000 → is_ending p.stage ≡ true → has_met s.met g p.number ≡ false
  unmet_ending g p there lt ends = by_met (has_met s.met g p.number) refl
    where
      by_met : (b : Bool) → has_met s.met g p.number ≡ b → b ≡ false
      by_met false e = refl
      by_met true e =
          let x = some_of (data_in s.pages p.number) (λ (y : PageState). is_ending y.stage ≡ false) (met_page g p.number lt e) in
          let one : Some x.0 ≡ Some p = sym x.1 ∙ there in
          let same : x.0 ≡ p = cc in
          absurd (let k : true ≡ false = sym ends ∙ ap (λ (y : PageState). is_ending y.stage) (sym same) ∙ x.2 in cc)

pub may_be_done : MapsMayBeDone
may_be_done words r homes s mapping st up takes can none =
    let tidy : IsTidy s = takes.tidy in
    let going : NoneGoing s = takes.none_going in
    let have : HaveMetPages s = takes.met in
    let three = none_first (overlap_in r (numbers_of mapping)) (leaving_in r (numbers_of mapping)) (no_frames_in r mapping) none in
    let absent : AllByRecursion (λ page. data_in s.pages page ≡ None) (numbers_of mapping) =
    all_absent words r homes s st tidy up mapping going (numbers_of mapping) (sym (overlap_same words r homes s st tidy up (numbers_of mapping)) ∙ three.first) (sym (leaving_same words r homes s st tidy up (numbers_of mapping)) ∙ three.second) in
    let low : AllByRecursion (λ page. page < 0x4000000) (numbers_of mapping) = low_numbers (λ page. page < 0x4000000) (page_of mapping.va) mapping.pages (λ k lt. (let le : page_of mapping.va + mapping.pages ≤ 0x4000000 = can in omega arith)) in
    let need : need_of r mapping ≤ length (free_in r) = frames_suffice (need_of r mapping) (length (free_in r)) three.third in
    let counted : AreCounted s = tenants_counted s tidy in
    let a : length (free_frames s.limits.frames homes) + used_of s + s.worn ≡ s.limits.frames = free_counted homes s st.housed counted in
    let b : used_of s + need_of r mapping ≡ used_of (mapped_by s mapping) = need_counted words r homes s mapping st tidy up absent in
    let c : length (free_in r) ≡ length (free_frames s.limits.frames homes) = ap length (free_agree words r homes s st) in
    record {
      absent = absent;
      unmet = all_more (λ page. (page < 0x4000000) × (data_in s.pages page ≡ None)) (λ page. (generation : ℕ) → has_met s.met generation page ≡ false) (λ page both g. unmet_absent s have g page both.0 both.1) (numbers_of mapping)
          (all_and (λ page. page < 0x4000000) (λ page. data_in s.pages page ≡ None) (numbers_of mapping) low absent);
      met_stay = all_more (λ p. (data_in s.pages p.number ≡ Some p) × (p.number < 0x4000000)) (λ p. is_ending p.stage ≡ true → (generation : ℕ) → has_met s.met generation p.number ≡ false) (λ p both ends g. unmet_ending s have g p both.0 both.1 ends) s.pages
          (all_and (λ p. data_in s.pages p.number ≡ Some p) (λ p. p.number < 0x4000000) s.pages (data_found s.pages tidy.ordered.pages) have.low);
      frames = omega arith;
      last_fits = takes.last_fits;
    }

-- maps can be asked for still
each_mapped : (P : PageState → Type 0) (write : Bool) (page birth n : ℕ) → ((number b : ℕ) → P (mapped_page None write number b)) → AllByRecursion P (mapped_pages None write page birth n)
each_mapped P write page birth zero each = tt
each_mapped P write page birth (suc n) each = (each page birth, each_mapped P write (page + 1) (birth + 1) n each)

module _ (s : FlatState) (mapping : Mapping) where
  abbrev more : List PageState
  more = mapped_pages None mapping.write (page_of mapping.va) s.births mapping.pages

  met_still : (n : ℕ) → IsSomeAnd (data_in s.pages n) (λ p. is_ending p.stage ≡ false) → IsSomeAnd (data_in (mapped_by s mapping).pages n) (λ p. is_ending p.stage ≡ false)
  met_still n h =
      let x = some_of (data_in s.pages n) (λ (p : PageState). is_ending p.stage ≡ false) h in
      some_at (data_in (mapped_by s mapping).pages n) (λ (p : PageState). is_ending p.stage ≡ false) x.0 (sorted_found number_of (s.pages ++ more) n ∙ found_first number_of s.pages more n x.0 x.1) x.2

pub asked_again : MapsCanBeAskedAgain
asked_again s mapping takes can may =
    record {
      tidy = tidy_mapped s mapping takes.tidy may.absent;
      none_going = sorted_all number_of (λ p. is_going p.stage ≡ false) (s.pages ++ more s mapping) (all_both (λ (p : PageState). is_going p.stage ≡ false) s.pages (more s mapping) takes.none_going
          (each_mapped (λ p. is_going p.stage ≡ false) mapping.write (page_of mapping.va) s.births mapping.pages (λ number b. refl)));
      met = record {
        met = all_more (λ (pair : ℕ × ℕ). IsSomeAnd (data_in s.pages pair.1) (λ p. is_ending p.stage ≡ false)) (λ (pair : ℕ × ℕ). IsSomeAnd (data_in (mapped_by s mapping).pages pair.1) (λ p. is_ending p.stage ≡ false)) (λ pair h. met_still s mapping pair.1 h) s.met takes.met.met;
        low = sorted_all number_of (λ p. p.number < 0x4000000) (s.pages ++ more s mapping) (all_both (λ (p : PageState). p.number < 0x4000000) s.pages (more s mapping) takes.met.low
            (all_numbers (λ n. n < 0x4000000) mapping.write (page_of mapping.va) s.births mapping.pages (low_numbers (λ n. n < 0x4000000) (page_of mapping.va) mapping.pages (λ k lt. (let le : page_of mapping.va + mapping.pages ≤ 0x4000000 = can in omega arith)))));
      };
      last_fits = takes.last_fits;
    }
