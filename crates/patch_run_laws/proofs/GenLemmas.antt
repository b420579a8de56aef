-- Each entry keeps the words of the jumps of each generation.
use Rattle.std.proofs.Common.{◌≡◌, ◌≤◌, ◌==◌, ◌+◌, ℕ, zero, suc, List, [], ◌∷◌, Option, Some, None, Bool, true, false, not, ◌||◌, refl, sym, subst, inl, inr, arith}
use Rattle.std.specs.Prelude.{IfSome, slice_get, unwrap_or}
use Rattle.std.specs.Option.{option_map}
use Rattle.std.specs.List.{AllByRecursion, filter, fold, range_with_len}
use Rattle.std.proofs.lemmas.Bool.Decides.{nat_tests}
use Rattle.wf_outside.specs.declared.image.Jump.{Jump}
use Rattle.wf_outside.specs.Images.{DeltaValue, text_numbers}
use Rattle.wf_outside.specs.Pages.{PageValue}
use Rattle.wf_flat.specs.declared.event.Actor.{Actor}
use Rattle.wf_flat.specs.declared.event.Event.{Event}
use Rattle.wf_flat.specs.declared.event.Event.TheVariants.{Map, Born, Dead}
use Rattle.wf_flat.specs.State.{FlatState, GenState}
use Rattle.wf_flat.specs.Accesses.{text_in}
use Rattle.wf_flat.specs.Lists.{changed_at}
use Rattle.wf_flat.proofs.ListLemmas.{all_append, changed_next, some_and}
use Rattle.wf_effects.specs.Effects.{born_jumps, born_text, dead, newborn, reaching}
use Rattle.wf_effects.specs.Texts.{is_jump_at, spliced, spliced_jumps, with_jump, with_pages}
use Rattle.wf_legal.specs.Legal.{Allows, Moment}
use Rattle.wf_laws.proofs.CarryLemmas.{Keeps}
use Rattle.wf_laws.proofs.GenLemmas.{gens_after, gens_are}
use Rattle.wf_sound.proofs.AllLemmas.{all_filter, all_get, all_map, all_more}
use Rattle.patch_build.specs.Areas.{AreaValue}
use Rattle.patch_build.specs.Fits.{FitBehind, FitsArea, area_with}
use Rattle.patch_build.specs.Jumps.{overlap}
use Rattle.patch_move_laws.specs.Moves.{HasItsWords}
use Rattle.patch_run_laws.specs.Built.{AreBuiltJumps, IsBuiltJump, IsClear, IsClearOf, all_jumps}
use Rattle.patch_run_laws.proofs.TextLemmas.{IsThere, IsWhole, there_more, there_paged, whole_paged, word_paged}
use Rattle.patch_run_laws.proofs.JumpLemmas.{HasPlace, other_words, overlap_flips, own_words, there_jumps, whole_jumps}
use Rattle.patch_run_laws.proofs.FitLemmas.{area_at, area_before, area_next, area_past, fits_at, have_places, jumps_at, none_meet}
use Rattle.patch_run_laws.proofs.CallLemmas.{CallBears, bears_after, has_parent}

-- what a text with its jumps keeps: its pages are whole, it has the text that the next patch is built
-- over, and each jump meets no other of the run in part and has its words
pub record IsKept (area : AreaValue) (deltas : List DeltaValue) (text : List PageValue) (jumps : List Jump) (patches : ℕ) : Type 0 where
  pub whole : AllByRecursion IsWhole text
  pub there : AllByRecursion (IsThere text) (area_at area deltas patches).text
  pub clear : AllByRecursion (IsClearOf (all_jumps deltas)) jumps
  pub words : AllByRecursion (HasItsWords text) jumps

abbrev pub IsKeptGen : AreaValue → List DeltaValue → GenState → Type 0
IsKeptGen area deltas gen = IsKept area deltas gen.text gen.jumps gen.patches

-- a jump of another address than a patch's jumps, and that meets none of them in part, shares no byte with one
not_there : (jumps : List Jump) (old : Jump) → not (is_jump_at jumps old.at) ≡ true → AllByRecursion (IsClear old.at) jumps → AllByRecursion (λ jump. overlap jump.at old.at ≡ false) jumps
not_there [] old e clear = tt
not_there (jump ∷ jumps) old e clear =
    let h = parts (jump.at == old.at) (is_jump_at jumps old.at) e in
    (by_clear clear.0 h.0, not_there jumps old h.1 clear.1)
  where
    parts : (a b : Bool) → not (a || b) ≡ true → (a ≡ false) × (not b ≡ true)
    parts true b e = absurd (cc)
    parts false true e = absurd (cc)
    parts false false e = (refl, refl)

    by_clear : IsClear old.at jump → (jump.at == old.at) ≡ false → overlap jump.at old.at ≡ false
    by_clear (inl same) e = absurd (let t : (jump.at == old.at) ≡ true = grind (arith, nat_tests) in cc)
    by_clear (inr apart) e = overlap_flips old.at jump.at apart

-- a text with more pages
paged_words : (text more : List PageValue) (jump : Jump) → HasItsWords text jump → HasItsWords (with_pages text more) jump
paged_words text more jump has = record {
  even = has.even;
  to = has.to;
  reach = has.reach;
  first = word_paged text more jump.at _ has.first;
  second = word_paged text more (jump.at + 4) _ has.second;
}

built_at : (deltas : List DeltaValue) (k : ℕ) (delta : DeltaValue) → AreBuiltJumps deltas → slice_get deltas k ≡ Some delta → AllByRecursion IsBuiltJump delta.jumps
built_at deltas k delta built e = all_get (λ (delta : DeltaValue). AllByRecursion IsBuiltJump delta.jumps) deltas k delta built e

-- a text spliced with a patch
spliced_kept : (area : AreaValue) (deltas : List DeltaValue) (text : List PageValue) (jumps : List Jump) (patches k : ℕ) (delta : DeltaValue) → FitBehind area deltas → AreBuiltJumps deltas → slice_get deltas k ≡ Some delta → k ≤ patches
    → IsKept area deltas text jumps patches → IsKept area deltas (spliced text delta) (spliced_jumps jumps delta.jumps) (suc k)
spliced_kept area deltas text jumps patches k delta fit built is le kept =
    let fits : FitsArea (area_at area deltas k) delta = fits_at area deltas k delta fit is in
    let old : AllByRecursion (IsThere text) (area_at area deltas k).text = area_before (IsThere text) area deltas k patches le kept.there in
    let private : AllByRecursion IsWhole delta.private = all_more _ IsWhole (λ page is. is.whole) delta.private fits.pages.private_whole in
    let more : List PageValue = with_pages text delta.private in
    let there : AllByRecursion (IsThere more) (area_at area deltas k).text = all_more (IsThere text) (IsThere more) (there_paged text delta.private) (area_at area deltas k).text old in
    let own : AllByRecursion IsBuiltJump delta.jumps = built_at deltas k delta built is in
    let places : AllByRecursion (HasPlace more) delta.jumps = have_places more (area_at area deltas k) delta.jumps there fits.stand in
    let new : List PageValue = fold with_jump more delta.jumps in
    let stays : (n : ℕ) → IsThere more n → IsThere new n = there_jumps more delta.jumps in
    let both : AllByRecursion (IsThere new) (area_with (area_at area deltas k) delta).text =
    all_append (IsThere new) (area_at area deltas k).text (text_numbers delta.private) (all_more (IsThere more) (IsThere new) stays (area_at area deltas k).text there)
    (all_more (IsThere more) (IsThere new) stays (text_numbers delta.private) (there_more text delta.private kept.whole private)) in
    let news : AllByRecursion (IsClearOf (all_jumps deltas)) delta.jumps = jumps_at (IsClearOf (all_jumps deltas)) deltas k delta (none_meet area deltas fit) is in
    let keeps : Jump → Bool = λ jump. not (is_jump_at delta.jumps jump.at) in
    record {
      whole = whole_jumps more delta.jumps (whole_paged text delta.private kept.whole private);
      there = subst (λ (area : AreaValue). AllByRecursion (IsThere new) area.text) (sym (area_next area deltas k delta is)) both;
      clear = all_append (IsClearOf (all_jumps deltas)) (filter keeps jumps) delta.jumps
          (all_filter keeps (IsClearOf (all_jumps deltas)) (IsClearOf (all_jumps deltas)) (λ jump e clear. clear) jumps kept.clear) news;
      words = all_append (HasItsWords new) (filter keeps jumps) delta.jumps
          (all_filter keeps (λ jump. IsClearOf (all_jumps deltas) jump × HasItsWords text jump) (HasItsWords new)
          (λ jump e has. other_words more delta.jumps jump own places (not_there delta.jumps jump e (jumps_at (IsClear jump.at) deltas k delta has.0 is)) (paged_words text delta.private jump has.1)) jumps (paired jumps kept.clear kept.words))
          (own_words more delta.jumps own places fits.apart);
    }
  where
    paired : (xs : List Jump) → AllByRecursion (IsClearOf (all_jumps deltas)) xs → AllByRecursion (HasItsWords text) xs → AllByRecursion (λ jump. IsClearOf (all_jumps deltas) jump × HasItsWords text jump) xs
    paired [] all other = tt
    paired (x ∷ xs) all other = ((all.0, other.0), paired xs all.1 other.1)

-- the generation that is born
born_kept : (area : AreaValue) (deltas : List DeltaValue) (gen : GenState) (patch : Option ℕ) (s : FlatState) (parent : ℕ) → FitBehind area deltas → AreBuiltJumps deltas → slice_get s.gens parent ≡ Some gen → IfSome patch (λ k. k ≤ gen.patches)
    → IsKeptGen area deltas gen → IsKeptGen area deltas (newborn deltas s parent patch)
born_kept area deltas gen None s parent fit built is few kept =
    subst (λ (o : Option GenState). IsKept area deltas (text_in o) (unwrap_or (option_map (λ gen. gen.jumps) o) []) (unwrap_or (option_map (λ gen. gen.patches) o) 0)) (sym is) kept
born_kept area deltas gen (Some k) s parent fit built is few kept = by_delta (slice_get deltas k) refl
  where
    next : suc k ≡ k + 1
    next = omega arith

    from_gen : (o : Option DeltaValue) → IsKept area deltas (born_text s parent o) (born_jumps s parent o) (suc k) → IsKept area deltas (born_text s parent o) (born_jumps s parent o) (k + 1)
    from_gen o all = subst (λ (n : ℕ). IsKept area deltas (born_text s parent o) (born_jumps s parent o) n) next all

    by_delta : (o : Option DeltaValue) → slice_get deltas k ≡ o → IsKept area deltas (born_text s parent (slice_get deltas k)) (born_jumps s parent (slice_get deltas k)) (k + 1)
    by_delta None e =
        subst (λ (o : Option DeltaValue). IsKept area deltas (born_text s parent o) (born_jumps s parent o) (k + 1)) (sym e)
        (from_gen None (subst (λ (o : Option GenState). IsKept area deltas (text_in o) (unwrap_or (option_map (λ gen. gen.jumps) o) []) (suc k)) (sym is)
        (record {
          whole = kept.whole;
          there = subst (λ (area : AreaValue). AllByRecursion (IsThere gen.text) area.text) (sym (area_past area deltas k e)) (area_before (IsThere gen.text) area deltas k gen.patches few kept.there);
          clear = kept.clear;
          words = kept.words;
        })))
    by_delta (Some delta) e =
        subst (λ (o : Option DeltaValue). IsKept area deltas (born_text s parent o) (born_jumps s parent o) (k + 1)) (sym e)
        (from_gen (Some delta) (subst (λ (o : Option GenState). IsKept area deltas (spliced (text_in o) delta) (spliced_jumps (unwrap_or (option_map (λ gen. gen.jumps) o) []) delta.jumps) (suc k)) (sym is)
        (spliced_kept area deltas gen.text gen.jumps gen.patches k delta fit built e few kept)))

-- each entry keeps it
all_changed : (P : GenState → Type 0) (f : GenState → GenState) → ((gen : GenState) → P gen → P (f gen)) → (gens : List GenState) (g : ℕ) → AllByRecursion P gens → AllByRecursion P (changed_at gens g f)
all_changed P f k [] g all = tt
all_changed P f k (gen ∷ gens) zero all = (k gen all.0, all.1)
all_changed P f k (gen ∷ gens) (suc g) all = rw (changed_next gen gens g f) (all.0, all_changed P f k gens g all.1)

pub record RunKept (area : AreaValue) (m : Moment) : Type 0 where
  pub fit : FitBehind area m.deltas
  pub built : AreBuiltJumps m.deltas
  pub call : CallBears m.flat m.call
  pub gens : AllByRecursion (IsKeptGen area m.deltas) m.flat.gens

gens_by : (area : AreaValue) (m : Moment) (actor : Actor) (e : Event) → RunKept area m → Allows m actor e → AllByRecursion (IsKeptGen area m.deltas) (gens_after m.deltas m.flat e)
gens_by area m actor (Map first n write patch) kept a =
    all_map (IsKeptGen area m.deltas) (IsKeptGen area m.deltas) (reaching (range_with_len first n)) (λ gen is. record { whole = is.whole; there = is.there; clear = is.clear; words = is.words }) m.flat.gens kept.gens
gens_by area m actor (Born generation parent patch) kept a =
    let w = some_and (slice_get m.flat.gens parent) _ (has_parent m actor generation parent patch kept.call a) in
    all_append (IsKeptGen area m.deltas) m.flat.gens (newborn m.deltas m.flat parent patch ∷ []) kept.gens
    (born_kept area m.deltas w.0 patch m.flat parent kept.fit kept.built w.1 w.2 (all_get (IsKeptGen area m.deltas) m.flat.gens parent w.0 kept.gens w.1), tt)
gens_by area m actor (Dead generation) kept a =
    all_changed (IsKeptGen area m.deltas) dead (λ gen is. record { whole = is.whole; there = is.there; clear = is.clear; words = is.words }) m.flat.gens generation kept.gens
gens_by area m actor e kept a = kept.gens

pub run_keeps : (area : AreaValue) → Keeps (λ (m : Moment). RunKept area m)
run_keeps area m actor e kept a = record {
  fit = kept.fit;
  built = kept.built;
  call = bears_after m actor e kept.call;
  gens = subst (AllByRecursion (IsKeptGen area m.deltas)) (sym (gens_are m.deltas m.flat actor e)) (gens_by area m actor e kept a);
}
