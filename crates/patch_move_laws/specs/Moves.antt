-- Why no move to one's own generation goes on inside a jump.
use Rattle.std.specs.Prelude.{ℕ, List, ◌∷◌, ◌++◌, Some, None, IfSome, ◌≡◌, ◌⊎◌, ◌+◌, ◌%◌, ◌^◌, ◌<◌, slice_get}
use Rattle.std.specs.List.{AllByRecursion}
use Rattle.rv_inst.specs.declared.inst.Inst.TheVariants.{Ecall}
use Rattle.rv_inst.specs.Decoding.{inst_of}
use Rattle.rv_inst.specs.Meanings.{next_pc}
use Rattle.rv_encode.specs.Jumps.{CanJump, distance, jump_words}
use Rattle.wf_outside.specs.declared.image.Jump.{Jump}
use Rattle.wf_outside.specs.declared.refusal.Refusal.TheVariants.{Inside}
use Rattle.wf_outside.specs.Images.{DeltaValue}
use Rattle.wf_outside.specs.Pages.{PageValue}
use Rattle.wf_flat.specs.declared.event.Actor.TheVariants.{Hart}
use Rattle.wf_flat.specs.declared.event.Event.TheVariants.{Refused}
use Rattle.wf_flat.specs.declared.event.Entry.{Entry}
use Rattle.wf_flat.specs.State.{FlatState, HartState}
use Rattle.wf_flat.specs.Accesses.{generation_text}
use Rattle.wf_flat.specs.Memory.{word_at}
use Rattle.wf_flat.specs.Steps.{OfHart}
use Rattle.wf_effects.specs.Generations.{jumps_in, newest}
use Rattle.wf_verdict.specs.declared.requests.Request.TheVariants.{Migrates, Quiesces}
use Rattle.wf_verdict.specs.Requests.{requested_by}
use Rattle.wf_verdict.specs.Verdict.{inside_jump}
use Rattle.wf_legal.specs.Legal.{Moment, IsLegal, at_rest, end_of}
use Rattle.wf_sound.specs.Sound.{IsSound}

-- a jump stands at a multiple of 4, and the text has there the two words of a jump to an address
-- that it can lead to
pub record HasItsWords (text : List PageValue) (jump : Jump) : Type 0 where
  pub even : jump.at % 4 ≡ 0
  pub to : ℕ
  pub reach : CanJump jump.at to
  pub first : word_at text jump.at ≡ Some (jump_words (distance jump.at to)).0
  pub second : word_at text (jump.at + 4) ≡ Some (jump_words (distance jump.at to)).1

-- each jump of a generation has its two words in the generation's text
abbrev pub HasItsJumps : FlatState → ℕ → Type 0
HasItsJumps s generation =
    AllByRecursion (HasItsWords (generation_text s generation)) (jumps_in s generation)

-- a hart's pc is a multiple of 4, and an ecall stands there in the text of its generation
pub record IsAtItsCall (s : FlatState) (hart : HartState) : Type 0 where
  pub even : hart.arch.pc % 4 ≡ 0
  pub low : hart.arch.pc < 2 ^ 64
  pub word : ℕ
  pub is_text : word_at (generation_text s hart.generation) hart.arch.pc ≡ Some word
  pub is_call : inst_of word ≡ Some Ecall

-- Where the jumps of its generation have their words, a hart at an ecall of its own text goes on
-- inside none of them.
abbrev pub CallsGoOnOutside : Type 0
CallsGoOnOutside =
    (s : FlatState) (hart : HartState) → HasItsJumps s hart.generation → IsAtItsCall s hart
    → inside_jump s hart.generation (next_pc hart.arch.pc) ≡ None

-- A hart's pc is a multiple of 4, and in a try it has fetched the four bytes there of the text of
-- its generation.
pub record IsOnText (s : FlatState) (hart : HartState) : Type 0 where
  pub even : hart.arch.pc % 4 ≡ 0
  pub low : hart.arch.pc < 2 ^ 64
  pub fetched : IfSome hart.fetched
      (λ word. word_at (generation_text s hart.generation) hart.arch.pc ≡ Some word)

-- each hart is so
abbrev pub AreOnText : FlatState → Type 0
AreOnText s =
    (h : ℕ) (hart : HartState) → slice_get s.harts h ≡ Some hart → IsOnText s hart

-- a hart requests to move to its own generation: it names it, or it quiesces in the newest
abbrev pub RequestsOwn : FlatState → HartState → Type 0
RequestsOwn s hart =
    (requested_by hart ≡ Migrates hart.generation)
    ⊎ ((requested_by hart ≡ Quiesces) × (newest s ≡ hart.generation))

-- Where the jumps of a hart's generation have their words, its move to that generation is not
-- refused for being inside one.
abbrev pub OwnMovesAreNotInside : Type 0
OwnMovesAreNotInside =
    (deltas : List DeltaValue) (s : FlatState) (front back : List Entry) (h at : ℕ) →
    let start : Moment = at_rest deltas s in
    let before : Moment = end_of start front in
    IsSound start → AreOnText s
    → IsLegal start (front ++ record { actor = Hart h; event = Refused (Inside at) } ∷ back)
    → OfHart before.flat h
    (λ hart. HasItsJumps before.flat hart.generation → RequestsOwn before.flat hart → ⊥)
