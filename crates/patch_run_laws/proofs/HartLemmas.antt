-- Harts are on their text from the start of a run on.
use Rattle.std.proofs.Common.{◌≡◌, ◌<◌, inl, inr, ℕ, zero, suc, List, [], ◌∷◌, Option, Some, None, false, refl, sym, subst, ap, arith}
use Rattle.std.specs.Prelude.{IfSome, slice_get}
use Rattle.std.specs.Option.{option_map}
use Rattle.std.specs.List.{AllByRecursion}
use Rattle.std.proofs.lemmas.Bool.Decides.{nat_tests}
use Rattle.std.proofs.lemmas.List.Elements.{All-contains}
use Rattle.wf_outside.specs.declared.sizes.TheConstants.{DATA_END_PAGE}
use Rattle.wf_outside.specs.Images.{DeltaValue, ImageValue, IsImage, text_numbers}
use Rattle.wf_outside.specs.Pages.{LimitsValue, page_of}
use Rattle.wf_flat.specs.declared.event.Actor.{Actor}
use Rattle.wf_flat.specs.declared.event.Actor.TheVariants.{Hart}
use Rattle.wf_flat.specs.Boot.{boot_hart, boot_harts, boot_of}
use Rattle.wf_flat.specs.State.{FlatState, HartState}
use Rattle.wf_flat.specs.Accesses.{generation_text}
use Rattle.wf_flat.specs.Memory.{word_at}
use Rattle.wf_flat.specs.Steps.{is_inside}
use Rattle.wf_flat.proofs.ListLemmas.{all_append}
use Rattle.wf_legal.specs.Legal.{Moment, at_rest, end_of}
use Rattle.wf_laws.proofs.BareLemmas.{bare}
use Rattle.wf_laws.proofs.CarryLemmas.{carried}
use Rattle.wf_sound.proofs.AllLemmas.{all_get}
use Rattle.wf_sound.proofs.StartLemmas.{start_sound}
use Rattle.patch_move_laws.specs.Moves.{AreOnText}
use Rattle.patch_move_laws.proofs.PlaceLemmas.{IsPlaced}
use Rattle.patch_move_laws.proofs.TextLemmas.{Holds, IsOn, IsWorking, keeps}
use Rattle.patch_run_laws.specs.Runs.{HartsStayOnText}

-- the first instruction of an image
entry_placed : (image : ImageValue) → IsImage image.text image.pages image.entry → IsPlaced image.entry
entry_placed image is =
    let below : page_of image.entry < DATA_END_PAGE = All-contains (λ n. n < DATA_END_PAGE) (text_numbers image.text) (page_of image.entry) is.text_low is.is_text in
    (is.aligned, omega (arith, below))

-- a hart at the start
record IsFirst (hart : HartState) : Type 0 where
  placed : IsPlaced hart.arch.pc
  fetched : hart.fetched ≡ None

all_first : (entry n : ℕ) → IsPlaced entry → AllByRecursion IsFirst (boot_harts entry n)
unfolding boot_harts
all_first entry zero placed = tt
all_first entry (suc n) placed = all_append IsFirst (boot_harts entry n) (boot_hart entry n ∷ []) (all_first entry n placed) (record { placed = placed; fetched = refl }, tt)

pub starts_on_text : (image : ImageValue) (harts : ℕ) (limits : LimitsValue) → IsImage image.text image.pages image.entry → AreOnText (boot_of image harts limits)
starts_on_text image harts limits is h hart there =
    let first = all_get IsFirst (boot_harts image.entry harts) h hart (all_first image.entry harts (entry_placed image is)) there in
    record { even = first.placed.0; low = first.placed.1; fetched = subst (λ (o : Option ℕ). IfSome o (λ word. word_at (generation_text (boot_of image harts limits) hart.generation) hart.arch.pc ≡ Some word)) (sym first.fetched) tt }

start_holds : (deltas : List DeltaValue) (s : FlatState) (h : ℕ) (o : Option HartState) → slice_get s.harts h ≡ o → AreOnText s → IfSome (option_map bare o) (IsOn (at_rest deltas s) h)
start_holds deltas s h None is on = tt
start_holds deltas s h (Some hart) is on = let it = on h hart is in record { placed = (it.even, it.low); text = inr it.fetched }

-- a hart that is not inside the kernel has no call in hand
outside_not : (m : Moment) (h : ℕ) → is_inside m.flat.inside (Hart h) ≡ false → IsWorking m h → ⊥
outside_not m h outside work = by_inside m.flat.inside work.inside outside
  where
    by_inside : (o : Option Actor) → o ≡ Some (Hart h) → is_inside o (Hart h) ≡ false → ⊥
    by_inside o is e = (let f : is_inside (Some (Hart h)) (Hart h) ≡ false = subst (λ (o : Option Actor). is_inside o (Hart h) ≡ false) is e in grind (arith, nat_tests))

pub stay_on_text : HartsStayOnText
stay_on_text deltas image harts limits entries h hart s l there outside =
    let boot : FlatState = boot_of image harts limits in
    let start : Moment = at_rest deltas boot in
    let end : Moment = end_of start entries in
    let first : Holds start h = record {
      sound = start_sound deltas image harts limits s;
      late = tt;
      on = start_holds deltas boot h (slice_get boot.harts h) refl (starts_on_text image harts limits s.is_image);
    } in
    let holds : Holds end h = carried (λ (m : Moment). Holds m h) (keeps h) start entries first l in
    let on : IsOn end h (bare hart) = subst (λ (o : Option HartState). IfSome o (IsOn end h)) (ap (option_map bare) there) holds.on in
    elim on.text [
      | inl work ↦ absurd (outside_not end h outside work)
      | inr fetched ↦ record { even = on.placed.0; low = on.placed.1; fetched = fetched }
    ]
