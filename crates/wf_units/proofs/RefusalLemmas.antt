-- A hart's Fetch and Enter change nothing of what its request is refused for, nor of its work.
use Rattle.std.proofs.Common.{◌≡◌, ◌==◌, ◌&&◌, ℕ, zero, suc, List, [], ◌∷◌, Bool, Option, Some, None, length, refl, ap, ◌∙◌}
use Rattle.std.specs.Prelude.{if◌then◌else◌, nat_lt, not, position, ◌+◌}
use Rattle.std.specs.List.{prefix_len}
use Rattle.wf_outside.specs.declared.refusal.Refusal.{Refusal}
use Rattle.wf_outside.specs.declared.refusal.Refusal.TheVariants.{NotEmpty}
use Rattle.wf_outside.specs.Images.{DeltaValue}
use Rattle.wf_outside.specs.Lists.{first_of}
use Rattle.wf_outside.specs.Pages.{page_of}
use Rattle.wf_flat.specs.Changes.{fetched_with}
use Rattle.wf_flat.specs.Lists.{changed_at}
use Rattle.wf_flat.specs.State.{FlatState, HartState}
use Rattle.wf_flat.proofs.ListLemmas.{changed_next, length_changed}
use Rattle.wf_effects.specs.Effects.{generation_born, mapped}
use Rattle.wf_effects.specs.Generations.{is_running, lowest_in}
use Rattle.std.specs.Option.{option_map}
use Rattle.wf_verdict.specs.declared.requests.Request.{Request}
use Rattle.wf_verdict.specs.declared.requests.Request.TheVariants.{Exits, PutsByte, Maps, Unmaps, TellsGeneration, Migrates, Quiesces, Deletes, Clones, Patches, NoCall}
use Rattle.wf_verdict.specs.Verdict.{bad_range, bad_right, leaving, no_frames, no_more_views, no_view, overlap, pages_from, refusal_of}
use Rattle.wf_service.proofs.BeginLemmas.{inside_with}

-- a change that keeps what is asked keeps the first of which it holds
prefix_same : (P : HartState → Bool) (f : HartState → HartState) → ((hart : HartState) → P (f hart) ≡ P hart) → (harts : List HartState) (h : ℕ) → prefix_len (λ hart. not (P hart)) (changed_at harts h f) ≡ prefix_len (λ hart. not (P hart)) harts
prefix_same P f keeps [] h = refl
prefix_same P f keeps (hart ∷ harts) zero = ap (λ (b : Bool). if not b then 1 + prefix_len (λ hart. not (P hart)) harts else 0) (keeps hart)
prefix_same P f keeps (hart ∷ harts) (suc h) =
    ap (λ (xs : List HartState). prefix_len (λ hart. not (P hart)) xs) (changed_next hart harts h f)
    ∙ ap (λ (n : ℕ). if not (P hart) then 1 + n else 0) (prefix_same P f keeps harts h)

position_same : (P : HartState → Bool) (f : HartState → HartState) → ((hart : HartState) → P (f hart) ≡ P hart) → (harts : List HartState) (h : ℕ) → position P (changed_at harts h f) ≡ position P harts
position_same P f keeps harts h =
    ap (λ (n : ℕ). if nat_lt n (length (changed_at harts h f)) then Some n else None) (prefix_same P f keeps harts h)
    ∙ ap (λ (k : ℕ). if nat_lt (prefix_len (λ hart. not (P hart)) harts) k then Some (prefix_len (λ hart. not (P hart)) harts) else None) (length_changed f harts h)

lowest_same : (s : FlatState) (h word generation : ℕ) → lowest_in (inside_with s h word) generation ≡ lowest_in s generation
lowest_same s h word generation = position_same (λ hart. is_running hart.life && (hart.generation == generation)) (fetched_with word) (λ hart. refl) s.harts h

mapped_frames : (s : FlatState) (h word page n : ℕ) (write : Bool) → no_frames (inside_with s h word) (mapped (inside_with s h word) page n write None) ≡ no_frames s (mapped s page n write None)
unfolding no_frames
mapped_frames s h word page n write = refl

born_frames : (s : FlatState) (h word parent : ℕ) → no_frames (inside_with s h word) (generation_born [] (inside_with s h word) parent None) ≡ no_frames s (generation_born [] s parent None)
unfolding no_frames
born_frames s h word parent = refl

abbrev SameRefusals : List DeltaValue → FlatState → ℕ → ℕ → ℕ → Request → Type 0
SameRefusals deltas s h word next request = refusal_of deltas (inside_with s h word) next request ≡ refusal_of deltas s next request

map_same : (deltas : List DeltaValue) (s : FlatState) (h word next va pages right : ℕ) → SameRefusals deltas s h word next (Maps va pages right)
map_same deltas s h word next va pages right =
    ap (λ (o : Option Refusal). first_of (bad_range va pages ∷ bad_right right ∷ overlap s (pages_from va pages) ∷ leaving s (pages_from va pages) ∷ o ∷ []))
    (mapped_frames s h word (page_of va) pages (right == 3))

delete_same : (deltas : List DeltaValue) (s : FlatState) (h word next generation : ℕ) → SameRefusals deltas s h word next (Deletes generation)
delete_same deltas s h word next generation =
    ap (λ (o : Option ℕ). first_of (no_view s generation ∷ option_map NotEmpty o ∷ [])) (lowest_same s h word generation)

clone_same : (deltas : List DeltaValue) (s : FlatState) (h word next parent : ℕ) → SameRefusals deltas s h word next (Clones parent)
clone_same deltas s h word next parent =
    ap (λ (o : Option Refusal). first_of (no_view s parent ∷ no_more_views s ∷ o ∷ [])) (born_frames s h word parent)

-- every request but that to patch, which no program makes
abbrev pub IsOfProgram : Request → Type 0
IsOfProgram (Patches patch) = ⊥
IsOfProgram (Exits code) = Unit {0}
IsOfProgram (PutsByte byte) = Unit {0}
IsOfProgram (Maps va pages right) = Unit {0}
IsOfProgram (Unmaps va pages) = Unit {0}
IsOfProgram TellsGeneration = Unit {0}
IsOfProgram (Migrates generation) = Unit {0}
IsOfProgram Quiesces = Unit {0}
IsOfProgram (Deletes generation) = Unit {0}
IsOfProgram (Clones generation) = Unit {0}
IsOfProgram (NoCall number) = Unit {0}

pub refusals_same : (deltas : List DeltaValue) (s : FlatState) (h word next : ℕ) (request : Request) → IsOfProgram request → SameRefusals deltas s h word next request
refusals_same deltas s h word next (Exits code) is = refl
refusals_same deltas s h word next (PutsByte byte) is = refl
refusals_same deltas s h word next (Maps va pages right) is = map_same deltas s h word next va pages right
refusals_same deltas s h word next (Unmaps va pages) is = refl
refusals_same deltas s h word next TellsGeneration is = refl
refusals_same deltas s h word next (Migrates generation) is = refl
refusals_same deltas s h word next Quiesces is = refl
refusals_same deltas s h word next (Deletes generation) is = delete_same deltas s h word next generation
refusals_same deltas s h word next (Clones generation) is = clone_same deltas s h word next generation
refusals_same deltas s h word next (Patches patch) is = absurd is
refusals_same deltas s h word next (NoCall number) is = refl
