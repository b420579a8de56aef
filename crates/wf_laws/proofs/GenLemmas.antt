-- What each entry keeps of generations.
use Rattle.std.proofs.Common.{◌≡◌, ◌<◌, ◌≤◌, ℕ, zero, suc, ◌+◌, List, [], ◌∷◌, ◌++◌, length, Option, Some, None, Bool, true, false, map, refl, sym, ap, ◌∙◌, arith}
use Rattle.std.specs.Prelude.{slice_get}
use Rattle.std.specs.Option.{option_map}
use Rattle.wf_outside.specs.Images.{DeltaValue}
use Rattle.wf_outside.specs.Pages.{PageValue}
use Rattle.wf_flat.specs.declared.event.Actor.{Actor}
use Rattle.wf_flat.specs.declared.event.Actor.TheVariants.{Hart, Kernel}
use Rattle.wf_flat.specs.declared.event.Event.{Event}
use Rattle.wf_flat.specs.declared.event.Event.TheVariants.{End, Map, Born, Dead}
use Rattle.wf_flat.specs.State.{FlatState, GenState}
use Rattle.wf_flat.specs.Lists.{changed_at}
use Rattle.wf_flat.specs.Steps.{generation_text, text_in}
use Rattle.wf_flat.proofs.ListLemmas.{changed_next, length_changed}
use Rattle.wf_effects.specs.Effects.{dead, newborn, reaching}
use Rattle.std.specs.List.{range_with_len}
use Rattle.wf_legal.specs.Events.{flat_after}
use Rattle.wf_legal.specs.Legal.{after}
use Rattle.wf_laws.specs.Texts.{TextsStay}
use Rattle.wf_laws.proofs.BareLemmas.{given}

-- the event bears a generation
abbrev pub is_born : Event → Bool
is_born (Born generation parent patch) = true
is_born event = false

-- the generations behind an entry
abbrev pub gens_after : List DeltaValue → FlatState → Event → List GenState
gens_after deltas s (Map first n write patch) = map (reaching (range_with_len first n)) s.gens
gens_after deltas s (Born generation parent patch) = s.gens ++ newborn deltas s parent patch ∷ []
gens_after deltas s (Dead generation) = changed_at s.gens generation dead
gens_after deltas s event = s.gens

pub gens_are : (deltas : List DeltaValue) (s : FlatState) (actor : Actor) (e : Event) → (flat_after deltas s actor e).gens ≡ gens_after deltas s e
gens_are deltas s (Hart h) (End pc) = (given s h).gens
gens_are deltas s (Hart h) (Map first n write patch) = refl
gens_are deltas s (Hart h) (Born generation parent patch) = refl
gens_are deltas s (Hart h) (Dead generation) = refl
gens_are deltas s (Hart h) e = refl
gens_are deltas s Kernel (Map first n write patch) = refl
gens_are deltas s Kernel (Born generation parent patch) = refl
gens_are deltas s Kernel (Dead generation) = refl
gens_are deltas s Kernel e = refl

-- a field that a change keeps
pub map_field : {A : Type 0} (field : GenState → A) (f : GenState → GenState) → ((gen : GenState) → field (f gen) ≡ field gen) → (gens : List GenState) (g : ℕ) → option_map field (slice_get (map f gens) g) ≡ option_map field (slice_get gens g)
map_field field f k [] g = refl
map_field field f k (gen ∷ gens) zero = ap Some (k gen)
map_field field f k (gen ∷ gens) (suc g) = map_field field f k gens g

pub changed_field : {A : Type 0} (field : GenState → A) (f : GenState → GenState) → ((gen : GenState) → field (f gen) ≡ field gen) → (gens : List GenState) (i g : ℕ) → option_map field (slice_get (changed_at gens i f) g) ≡ option_map field (slice_get gens g)
changed_field field f k [] i g = refl
changed_field field f k (gen ∷ gens) zero zero = ap Some (k gen)
changed_field field f k (gen ∷ gens) zero (suc g) = refl
changed_field field f k (gen ∷ gens) (suc i) zero = rw (changed_next gen gens i f) refl
changed_field field f k (gen ∷ gens) (suc i) (suc g) = rw (changed_next gen gens i f) (changed_field field f k gens i g)

-- one more behind the others
pub get_front : {A : Type 0} (xs more : List A) (i : ℕ) → i < length xs → slice_get (xs ++ more) i ≡ slice_get xs i
get_front [] more i below = absurd (omega arith)
get_front (x ∷ xs) more zero below = refl
get_front (x ∷ xs) more (suc i) below = get_front xs more i (omega arith)

pub get_last : {A : Type 0} (xs : List A) (x : A) → slice_get (xs ++ x ∷ []) (length xs) ≡ Some x
get_last [] x = refl
get_last (y ∷ xs) x = get_last xs x

length_map : (f : GenState → GenState) (gens : List GenState) → length (map f gens) ≡ length gens
length_map f [] = refl
length_map f (gen ∷ gens) = ap suc (length_map f gens)

length_more : (gens : List GenState) (gen : GenState) → length (gens ++ gen ∷ []) ≡ length gens + 1
length_more [] gen = refl
length_more (x ∷ gens) gen = (let rest = length_more gens gen in omega arith)

-- how many there are
abbrev pub count_after : Event → ℕ → ℕ
count_after (Born generation parent patch) n = n + 1
count_after event n = n

count_is : (deltas : List DeltaValue) (s : FlatState) (e : Event) → length (gens_after deltas s e) ≡ count_after e (length s.gens)
count_is deltas s (Map first n write patch) = length_map (reaching (range_with_len first n)) s.gens
count_is deltas s (Born generation parent patch) = length_more s.gens (newborn deltas s parent patch)
count_is deltas s (Dead generation) = length_changed dead s.gens generation
count_is deltas s e = refl

pub count_are : (deltas : List DeltaValue) (s : FlatState) (actor : Actor) (e : Event) → length (flat_after deltas s actor e).gens ≡ count_after e (length s.gens)
count_are deltas s actor e = ap length (gens_are deltas s actor e) ∙ count_is deltas s e

pub count_more : (e : Event) (n : ℕ) → n ≤ count_after e n
count_more (Born generation parent patch) n = omega arith
count_more e n = omega arith

-- the texts
abbrev text_or_none : Option (List PageValue) → List PageValue
text_or_none None = []
text_or_none (Some text) = text

text_is : (o : Option GenState) → text_in o ≡ text_or_none (option_map (λ (gen : GenState). gen.text) o)
text_is None = refl
text_is (Some gen) = refl

same_text : (one other : Option GenState) → option_map (λ (gen : GenState). gen.text) one ≡ option_map (λ (gen : GenState). gen.text) other → text_in one ≡ text_in other
same_text one other e = text_is one ∙ ap text_or_none e ∙ sym (text_is other)

texts_by : (deltas : List DeltaValue) (s : FlatState) (e : Event) (g : ℕ) → g < length s.gens → text_in (slice_get (gens_after deltas s e) g) ≡ text_in (slice_get s.gens g)
texts_by deltas s (Map first n write patch) g below = same_text (slice_get (map (reaching (range_with_len first n)) s.gens) g) (slice_get s.gens g) (map_field (λ (gen : GenState). gen.text) (reaching (range_with_len first n)) (λ gen. refl) s.gens g)
texts_by deltas s (Born generation parent patch) g below = ap text_in (get_front s.gens (newborn deltas s parent patch ∷ []) g below)
texts_by deltas s (Dead generation) g below = same_text (slice_get (changed_at s.gens generation dead) g) (slice_get s.gens g) (changed_field (λ (gen : GenState). gen.text) dead (λ gen. refl) s.gens generation g)
texts_by deltas s e g below = refl

text_after : (deltas : List DeltaValue) (s : FlatState) (actor : Actor) (e : Event) (g : ℕ) → g < length s.gens → generation_text (flat_after deltas s actor e) g ≡ generation_text s g
text_after deltas s actor e g below = ap (λ (gens : List GenState). text_in (slice_get gens g)) (gens_are deltas s actor e) ∙ texts_by deltas s e g below

pub texts_stay : TextsStay
texts_stay m [] g l below = refl
texts_stay m (entry ∷ entries) g l below =
    let more : g < length (after m entry.actor entry.event).flat.gens =
    (let count = count_are m.deltas m.flat entry.actor entry.event in let rise = count_more entry.event (length m.flat.gens) in omega arith) in
    texts_stay (after m entry.actor entry.event) entries g l.1 more ∙ text_after m.deltas m.flat entry.actor entry.event g below
