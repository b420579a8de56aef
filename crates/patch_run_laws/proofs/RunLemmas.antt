-- A run with built patches, from its start on.
use Rattle.std.proofs.Common.{◌≡◌, ℕ, List, [], Option, Some, None, refl}
use Rattle.std.specs.Prelude.{slice_get, unwrap_or}
use Rattle.std.specs.Option.{option_map}
use Rattle.std.specs.List.{AllByRecursion}
use Rattle.wf_outside.specs.declared.refusal.Refusal.TheVariants.{Inside}
use Rattle.wf_outside.specs.Images.{DeltaValue, ImageValue}
use Rattle.wf_outside.specs.Pages.{LimitsValue, PageValue}
use Rattle.wf_flat.specs.declared.event.Actor.TheVariants.{Hart}
use Rattle.wf_flat.specs.declared.event.Event.TheVariants.{Refused}
use Rattle.wf_flat.specs.Boot.{boot_of}
use Rattle.wf_flat.specs.State.{GenState, HartState}
use Rattle.wf_flat.specs.Accesses.{text_in}
use Rattle.wf_flat.proofs.ListLemmas.{and_some, some_and}
use Rattle.wf_flat.proofs.SortLemmas.{all_sorted}
use Rattle.wf_legal.specs.Legal.{Moment, at_rest, end_of}
use Rattle.wf_laws.proofs.CarryLemmas.{at, carried}
use Rattle.wf_sound.proofs.AllLemmas.{all_get, all_more}
use Rattle.wf_sound.proofs.StartLemmas.{start_sound}
use Rattle.patch_build.specs.Areas.{AreaValue}
use Rattle.patch_build.specs.Fits.{area_over}
use Rattle.patch_move_laws.specs.Moves.{HasItsWords, RequestsOwn}
use Rattle.patch_move_laws.proofs.MoveLemmas as moves
use Rattle.patch_run_laws.specs.Runs.{IsBuiltStart, JumpsKeepTheirWords, OwnMovesOfRunsAreNotInside}
use Rattle.patch_run_laws.proofs.TextLemmas.{IsWhole, there_sorted}
use Rattle.patch_run_laws.proofs.GenLemmas.{IsKeptGen, RunKept, run_keeps}
use Rattle.patch_run_laws.proofs.HartLemmas.{starts_on_text}

-- its start
start_kept : (deltas : List DeltaValue) (image : ImageValue) (harts : ℕ) (limits : LimitsValue) → IsBuiltStart deltas image harts limits → RunKept (area_over image) (at_rest deltas (boot_of image harts limits))
start_kept deltas image harts limits s =
    let whole : AllByRecursion IsWhole image.text = all_more _ IsWhole (λ page is. is.whole) image.text s.start.text in
    record {
      fit = s.fit;
      built = s.built;
      call = tt;
      gens = (record { whole = all_sorted IsWhole (λ (page : PageValue). page.number) image.text whole; there = there_sorted image.text whole; clear = tt; words = tt }, tt);
    }

-- each generation at the end
has_words : (area : AreaValue) (deltas : List DeltaValue) (gens : List GenState) (generation : ℕ) (o : Option GenState) → slice_get gens generation ≡ o → AllByRecursion (IsKeptGen area deltas) gens
    → AllByRecursion (HasItsWords (text_in o)) (unwrap_or (option_map (λ gen. gen.jumps) o) [])
has_words area deltas gens generation None is all = tt
has_words area deltas gens generation (Some gen) is all = (all_get (IsKeptGen area deltas) gens generation gen all is).words

pub keep_words : JumpsKeepTheirWords
keep_words deltas image harts limits entries generation s l =
    let area : AreaValue = area_over image in
    let start : Moment = at_rest deltas (boot_of image harts limits) in
    let end : Moment = end_of start entries in
    let kept : RunKept area end = carried (λ (m : Moment). RunKept area m) (run_keeps area) start entries (start_kept deltas image harts limits s) l in
    has_words area end.deltas end.flat.gens generation (slice_get end.flat.gens generation) refl kept.gens

-- so no own move is refused for being inside a jump
pub own_moves_of_runs : OwnMovesOfRunsAreNotInside
own_moves_of_runs deltas image harts limits front back h place s l =
    let start : Moment = at_rest deltas (boot_of image harts limits) in
    let before : Moment = end_of start front in
    let w = at start front (record { actor = Hart h; event = Refused (Inside place) }) back l in
    let not_inside = some_and (slice_get before.flat.harts h) _ (moves.own_moves deltas (boot_of image harts limits) front back h place (start_sound deltas image harts limits s.start) (starts_on_text image harts limits s.start.is_image) l) in
    let hart : HartState = not_inside.0 in
    and_some (slice_get before.flat.harts h) (λ hart. RequestsOwn before.flat hart → ⊥) hart not_inside.1
    (not_inside.2 (keep_words deltas image harts limits front hart.generation s w.legal))
