-- How a hart and a state stand behind a call.
use Rattle.std.proofs.Common.{◌≡◌, ◌==◌, ℕ, zero, suc, List, [], ◌∷◌, Option, Some, None, Bool, true, false, refl, sym, subst, ap, ◌∙◌, arith}
use Rattle.std.specs.Prelude.{if◌then◌else◌, slice_get, slice_index, slice_set}
use Rattle.std.proofs.lemmas.Bool.Decides.{nat_tests}
use Rattle.std.specs.Option.{option_and_then}
use Rattle.rv_inst.specs.declared.inst.Inst.{Inst}
use Rattle.rv_inst.specs.declared.want.Want.TheVariants as want
use Rattle.rv_inst.specs.Arch.{ArchState}
use Rattle.rv_inst.specs.Decoding.{inst_of}
use Rattle.rv_inst.specs.Meanings.{called}
use Rattle.wf_flat.specs.declared.event.Actor.{Actor}
use Rattle.wf_flat.specs.declared.event.Actor.TheVariants.{Hart}
use Rattle.wf_flat.specs.State.{FlatState, HartState}
use Rattle.wf_flat.specs.Changes.{answered, change_hart, ended, fetched_with, leave_hart, try_ended, without}
use Rattle.wf_flat.specs.Lists.{changed_at}
use Rattle.wf_flat.specs.Steps.{OfHart, arch_after, arch_by, call_answer, is_inside, want_in}
use Rattle.wf_flat.proofs.HartLemmas.{changed_get}
use Rattle.wf_flat.proofs.ListLemmas.{and_some, changed_next}
use Rattle.wf_effects.specs.Effects.{moved_to, page_gone}
use Rattle.wf_verdict.specs.declared.requests.Request.{Request}
use Rattle.wf_verdict.specs.declared.requests.Request.TheVariants.{Exits, PutsByte, Maps, Unmaps, TellsGeneration, Migrates, Quiesces, Deletes, Clones, NoCall}
use Rattle.wf_verdict.specs.Requests.{request_of, requested_by}
use Rattle.wf_legal.proofs.JournalLemmas.{self_inside}
use Rattle.wf_service.specs.Calling.{IsInCall}
use Rattle.wf_service.proofs.BeginLemmas.{inside_with}
use Rattle.wf_service.proofs.FirstLemmas.{wants_call}
use Rattle.wf_service.proofs.QuietLemmas.{call_end}
use Rattle.wf_units.specs.Ends.{each_gone, hart_answered, hart_sent, hart_told, try_passed}
use Rattle.wf_units.proofs.CallLemmas.{inside_changed}
use Rattle.wf_units.proofs.RefusalLemmas.{IsOfProgram}

-- one element changes twice
pub changed_twice : {A : Type 0} (xs : List A) (i : ℕ) (f g : A → A) → changed_at (changed_at xs i f) i g ≡ changed_at xs i (λ x. g (f x))
changed_twice {A = A} [] i f g = refl
changed_twice {A = A} (x ∷ xs) zero f g = refl
changed_twice {A = A} (x ∷ xs) (suc i) f g =
    ap (λ (ys : List A). changed_at ys (suc i) g) (changed_next x xs i f) ∙ changed_next x (changed_at xs i f) i g
    ∙ ap (λ (ys : List A). x ∷ ys) (changed_twice xs i f g) ∙ sym (changed_next x xs i (λ x. g (f x)))

-- two changes that are the same for the element that changes
pub changed_alike : {A : Type 0} (xs : List A) (i : ℕ) (f g : A → A) (x : A) → slice_get xs i ≡ Some x → f x ≡ g x → changed_at xs i f ≡ changed_at xs i g
changed_alike {A = A} xs i f g x there same = rw there (ap (λ (y : A). slice_set xs i y) same)

-- who was inside leaves
left : (h : ℕ) → without (Some (Hart h)) (Hart h) ≡ None
left h = let k : is_inside (Some (Hart h)) (Hart h) ≡ true = self_inside h in rw k refl

pub leave_first : (w : FlatState) (h word : ℕ) (k : HartState → HartState) → w.inside ≡ None → leave_hart (inside_with w h word) h k ≡ change_hart w h (λ hart. k (fetched_with word hart))
leave_first w h word k inside =
    ap (λ (o : Option Actor). (let f : FlatState = record w { inside = o; harts = changed_at (changed_at w.harts h (fetched_with word)) h k } in f)) (left h ∙ sym inside)
    ∙ ap (λ (harts : List HartState). (let f : FlatState = record w { harts = harts } in f)) (changed_twice w.harts h (fetched_with word) k)

leave_next : (w : FlatState) (h word : ℕ) (f k : HartState → HartState) → w.inside ≡ None → leave_hart (inside_changed w h word f) h k ≡ change_hart w h (λ hart. k (f (fetched_with word hart)))
leave_next w h word f k inside =
    ap (λ (o : Option Actor). (let g : FlatState = record w { inside = o; harts = changed_at (changed_at (changed_at w.harts h (fetched_with word)) h f) h k } in g)) (left h ∙ sym inside)
    ∙ ap (λ (harts : List HartState). (let g : FlatState = record w { harts = harts } in g)) (changed_twice (changed_at w.harts h (fetched_with word)) h f k ∙ changed_twice w.harts h (fetched_with word) (λ hart. k (f hart)))

pub alike : (w : FlatState) (h : ℕ) (hart : HartState) (f g : HartState → HartState) → slice_get w.harts h ≡ Some hart → f hart ≡ g hart → change_hart w h f ≡ change_hart w h g
alike w h hart f g there same = ap (λ (harts : List HartState). (let k : FlatState = record w { harts = harts } in k)) (changed_alike w.harts h f g hart there same)

-- the End of a call
pub ended_first : (w : FlatState) (h word : ℕ) (hart : HartState) (g : HartState → HartState) → w.inside ≡ None → slice_get w.harts h ≡ Some hart → IsInCall word (fetched_with word hart) → ended (fetched_with word hart) ≡ g hart → try_ended (inside_with w h word) h ≡ change_hart w h g
ended_first w h word hart g inside there calls is =
    let u : FlatState = inside_with w h word in
    let now : slice_get u.harts h ≡ Some (fetched_with word hart) = changed_get w.harts h (fetched_with word) hart there in
    let wants : OfHart u h (λ hart. want_in hart ≡ Some want.Call) = and_some (slice_get u.harts h) (λ hart. want_in hart ≡ Some want.Call) (fetched_with word hart) now (wants_call word (fetched_with word hart) calls) in
    call_end u h wants ∙ leave_first w h word ended inside ∙ alike w h hart (λ hart. ended (fetched_with word hart)) g there is

pub ended_next : (w : FlatState) (h word : ℕ) (hart : HartState) (f g : HartState → HartState) → w.inside ≡ None → slice_get w.harts h ≡ Some hart → IsInCall word (f (fetched_with word hart)) → ended (f (fetched_with word hart)) ≡ g hart
    → try_ended (inside_changed w h word f) h ≡ change_hart w h g
ended_next w h word hart f g inside there calls is =
    let u : FlatState = inside_changed w h word f in
    let now : slice_get u.harts h ≡ Some (f (fetched_with word hart)) = changed_get (inside_with w h word).harts h f (fetched_with word hart) (changed_get w.harts h (fetched_with word) hart there) in
    let wants : OfHart u h (λ hart. want_in hart ≡ Some want.Call) = and_some (slice_get u.harts h) (λ hart. want_in hart ≡ Some want.Call) (f (fetched_with word hart)) now (wants_call word (f (fetched_with word hart)) calls) in
    call_end u h wants ∙ leave_next w h word f ended inside ∙ alike w h hart (λ hart. ended (f (fetched_with word hart))) g there is

-- what is left in its registers
called_after : (word : ℕ) (hart : HartState) → IsInCall word hart → arch_after hart ≡ called hart.arch (call_answer hart)
called_after word hart is = ap (λ (o : Option Inst). arch_by o hart) (ap (option_and_then inst_of) is.fetched ∙ is.ecall)

pub answered_end : (word answer : ℕ) (hart : HartState) → IsInCall word (answered answer (fetched_with word hart)) → (slice_index hart.arch.x 17 == 4) ≡ false → ended (answered answer (fetched_with word hart)) ≡ hart_answered answer hart
answered_end word answer hart is other =
    let x : HartState = answered answer (fetched_with word hart) in
    let answers : call_answer x ≡ answer = rw other refl in
    ap (λ (a : ArchState). (let k : HartState = record (try_passed hart) { looked = Some answer; arch = a } in k)) (called_after word x is ∙ ap (called hart.arch) answers)

pub sent_end : (word generation : ℕ) (hart : HartState) → IsInCall word (moved_to generation (fetched_with word hart)) → (slice_index hart.arch.x 17 == 4) ≡ false → ended (moved_to generation (fetched_with word hart)) ≡ hart_sent generation hart
sent_end word generation hart is other =
    let x : HartState = moved_to generation (fetched_with word hart) in
    let answers : call_answer x ≡ generation = rw other refl in
    ap (λ (a : ArchState). (let k : HartState = record (try_passed hart) { looked = Some generation; arch = a; generation = generation } in k)) (called_after word x is ∙ ap (called hart.arch) answers)

pub told_end : (word : ℕ) (hart : HartState) → IsInCall word (fetched_with word hart) → (slice_index hart.arch.x 17 == 4) ≡ true → ended (fetched_with word hart) ≡ hart_told hart
told_end word hart is own =
    let x : HartState = fetched_with word hart in
    let answers : call_answer x ≡ hart.generation = rw own refl in
    ap (λ (a : ArchState). (let k : HartState = record (try_passed hart) { arch = a } in k)) (called_after word x is ∙ ap (called hart.arch) answers)

-- what a request says of the number of its call
abbrev pub IsNoTelling : Request → Type 0
IsNoTelling TellsGeneration = ⊥
IsNoTelling request = Unit {0}

four_tells : (own number a0 a1 a2 : ℕ) → (number == 4) ≡ true → request_of own number a0 a1 a2 ≡ TellsGeneration
four_tells own number a0 a1 a2 is =
    let four : number ≡ 4 = same number 4 is in
    ap (λ (n : ℕ). request_of own n a0 a1 a2) four
  where
    same : (a b : ℕ) → (a == b) ≡ true → a ≡ b
    same a b e = grind (arith, nat_tests)

pub no_four : (hart : HartState) (request : Request) → requested_by hart ≡ request → IsNoTelling request → (slice_index hart.arch.x 17 == 4) ≡ false
no_four hart request is none = by_test (slice_index hart.arch.x 17 == 4) refl
  where
    by_test : (b : Bool) → (slice_index hart.arch.x 17 == 4) ≡ b → b ≡ false
    by_test false e = refl
    by_test true e =
        absurd (subst IsNoTelling (sym is ∙ four_tells hart.generation (slice_index hart.arch.x 17) (slice_index hart.arch.x 10) (slice_index hart.arch.x 11) (slice_index hart.arch.x 12) e) none)

-- the tests of the table of calls, one by one
abbrev table : ℕ → ℕ → ℕ → ℕ → ℕ → ℕ → Bool → Bool → Bool → Bool → Bool → Bool → Bool → Bool → Bool → Request
table own number a0 a1 a2 byte b0 b1 b2 b3 b4 b5 b6 b7 b8 =
    if b0 then Exits a0 else if b1 then PutsByte byte else if b2 then Maps a0 a1 a2 else if b3 then Unmaps a0 a1 else if b4 then TellsGeneration else if b5 then Migrates a0 else if b6 then Quiesces else if b7 then Deletes a0 else if b8 then Clones own else NoCall number

tells_four : (own number a0 a1 a2 byte : ℕ) (b0 b1 b2 b3 b4 b5 b6 b7 b8 : Bool) → table own number a0 a1 a2 byte b0 b1 b2 b3 b4 b5 b6 b7 b8 ≡ TellsGeneration → b4 ≡ true
tells_four own number a0 a1 a2 byte true b1 b2 b3 b4 b5 b6 b7 b8 e = absurd (cc)
tells_four own number a0 a1 a2 byte false true b2 b3 b4 b5 b6 b7 b8 e = absurd (cc)
tells_four own number a0 a1 a2 byte false false true b3 b4 b5 b6 b7 b8 e = absurd (cc)
tells_four own number a0 a1 a2 byte false false false true b4 b5 b6 b7 b8 e = absurd (cc)
tells_four own number a0 a1 a2 byte false false false false true b5 b6 b7 b8 e = refl
tells_four own number a0 a1 a2 byte false false false false false true b6 b7 b8 e = absurd (cc)
tells_four own number a0 a1 a2 byte false false false false false false true b7 b8 e = absurd (cc)
tells_four own number a0 a1 a2 byte false false false false false false false true b8 e = absurd (cc)
tells_four own number a0 a1 a2 byte false false false false false false false false true e = absurd (cc)
tells_four own number a0 a1 a2 byte false false false false false false false false false e = absurd (cc)

of_table : (own number a0 a1 a2 byte : ℕ) (b0 b1 b2 b3 b4 b5 b6 b7 b8 : Bool) → IsOfProgram (table own number a0 a1 a2 byte b0 b1 b2 b3 b4 b5 b6 b7 b8)
of_table own number a0 a1 a2 byte true b1 b2 b3 b4 b5 b6 b7 b8 = tt
of_table own number a0 a1 a2 byte false true b2 b3 b4 b5 b6 b7 b8 = tt
of_table own number a0 a1 a2 byte false false true b3 b4 b5 b6 b7 b8 = tt
of_table own number a0 a1 a2 byte false false false true b4 b5 b6 b7 b8 = tt
of_table own number a0 a1 a2 byte false false false false true b5 b6 b7 b8 = tt
of_table own number a0 a1 a2 byte false false false false false true b6 b7 b8 = tt
of_table own number a0 a1 a2 byte false false false false false false true b7 b8 = tt
of_table own number a0 a1 a2 byte false false false false false false false true b8 = tt
of_table own number a0 a1 a2 byte false false false false false false false false true = tt
of_table own number a0 a1 a2 byte false false false false false false false false false = tt

pub of_program : (hart : HartState) → IsOfProgram (requested_by hart)
of_program hart =
    let n : ℕ = slice_index hart.arch.x 17 in
    of_table hart.generation n (slice_index hart.arch.x 10) (slice_index hart.arch.x 11) (slice_index hart.arch.x 12) _ (n == 0) (n == 1) (n == 2) (n == 3) (n == 4) (n == 5) (n == 6) (n == 7) (n == 8)

pub is_four : (hart : HartState) → requested_by hart ≡ TellsGeneration → (slice_index hart.arch.x 17 == 4) ≡ true
is_four hart is =
    let n : ℕ = slice_index hart.arch.x 17 in
    tells_four hart.generation n (slice_index hart.arch.x 10) (slice_index hart.arch.x 11) (slice_index hart.arch.x 12) _ (n == 0) (n == 1) (n == 2) (n == 3) (n == 4) (n == 5) (n == 6) (n == 7) (n == 8) is

-- nobody comes in and no hart changes where pages are gone
pub gone_inside : (gone : List (ℕ × Bool)) (w : FlatState) → (each_gone w gone).inside ≡ w.inside
gone_inside [] w = refl
gone_inside (page ∷ gone) w = gone_inside gone (page_gone w page.0 page.1)

pub gone_harts : (gone : List (ℕ × Bool)) (w : FlatState) → (each_gone w gone).harts ≡ w.harts
gone_harts [] w = refl
gone_harts (page ∷ gone) w = gone_harts gone (page_gone w page.0 page.1)
