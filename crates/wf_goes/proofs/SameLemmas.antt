-- Where two events are the same.
use Rattle.std.proofs.Common.{◌≡◌, ℕ, Bool, true, Option, Some, None, refl, sym, ap, ◌∙◌, arith, eqb, subst, ◌↔◌, IsTrue}
use Rattle.std.specs.Option.{option_eq}
use Rattle.std.proofs.lemmas.Bool.{false≢true}
use Rattle.std.proofs.lemmas.Bool.Decides.{nat_tests}
use Rattle.wf_outside.specs.declared.refusal.Refusal.{Refusal}
use Rattle.wf_outside.specs.declared.refusal.Refusal.TheVariants.{Argument, Overlap, Absent, Leaving, NoFrames, NoView, NotEmpty, Inside, Views, Number, Lacks}
use Rattle.wf_outside.specs.contracts.refusal.RefusalPartialEq.TheImpl as refusal
use Rattle.wf_flat.specs.declared.event.Actor.{Actor}
use Rattle.wf_flat.specs.declared.event.Actor.TheVariants.{Hart, Kernel}
use Rattle.wf_flat.specs.declared.event.WaitFor.{WaitFor}
use Rattle.wf_flat.specs.declared.event.WaitFor.TheVariants as waits
use Rattle.wf_flat.specs.declared.event.Event.{Event}
use Rattle.wf_flat.specs.declared.event.Event.TheVariants.{Fetch, Look, Take, Put, Swap, Miss, End, Again, Wait, Enter, Sync, Trap, Exit, Out, Idle, Map, Going, Ending, Gone, Born, Move, Dead, Refused}
use Rattle.wf_flat.specs.contracts.event.ActorPartialEq.TheImpl as actor
use Rattle.wf_flat.specs.contracts.event.WaitForPartialEq.TheImpl as wait
use Rattle.wf_flat.specs.contracts.event.EventPartialEq.TheImpl as event

same_option : (o p : Option ℕ) → option_eq eqb o p ≡ true → o ≡ p
same_option None None h = refl
same_option (Some a) (Some b) h = ap Some (grind (arith, nat_tests))
same_option o p h = absurd (false≢true h)

same_actor : (a b : Actor) → (actor.ghosts).eq a b ≡ true → a ≡ b
same_actor (Hart h) (Hart g) e = grind (arith, nat_tests)
same_actor Kernel Kernel e = refl
same_actor a b e = absurd (false≢true e)

same_wait : (a b : WaitFor) → (wait.ghosts).eq a b ≡ true → a ≡ b
same_wait (waits.Page p) (waits.Page q) h = grind (arith, nat_tests)
same_wait (waits.Kernel a) (waits.Kernel b) h = grind (arith, same_actor)
same_wait a b h = absurd (false≢true h)

same_refusal : (a b : Refusal) → (refusal.ghosts).eq a b ≡ true → a ≡ b
same_refusal Argument Argument h = refl
same_refusal (Overlap p) (Overlap q) h = grind (arith, nat_tests)
same_refusal (Absent p) (Absent q) h = grind (arith, nat_tests)
same_refusal (Leaving p) (Leaving q) h = grind (arith, nat_tests)
same_refusal (NoFrames n f) (NoFrames m g) h = grind (arith, nat_tests)
same_refusal (NoView g) (NoView k) h = grind (arith, nat_tests)
same_refusal (NotEmpty g) (NotEmpty k) h = grind (arith, nat_tests)
same_refusal (Inside g) (Inside k) h = grind (arith, nat_tests)
same_refusal Views Views h = refl
same_refusal (Number n) (Number m) h = grind (arith, nat_tests)
same_refusal (Lacks n) (Lacks m) h = grind (arith, nat_tests)
same_refusal a b h = absurd (false≢true h)

same : (e n : Event) → (event.ghosts).eq e n ≡ true → e ≡ n
same (Fetch a b) (Fetch x y) h = grind (arith, nat_tests)
same (Look a b c) (Look x y z) h = grind (arith, nat_tests)
same (Take a) (Take x) h = grind (arith, nat_tests)
same (Put a b c) (Put x y z) h = grind (arith, nat_tests)
same (Swap a b c d) (Swap x y z w) h = grind (arith, nat_tests)
same (Miss a) (Miss x) h = grind (arith, nat_tests)
same (End a) (End x) h = grind (arith, nat_tests)
same (Again a) (Again x) h = grind (arith, nat_tests)
same (Wait a) (Wait x) h = grind (arith, same_wait)
same Enter Enter h = refl
same (Sync a b) (Sync x y) h = grind (arith, nat_tests)
same (Trap a b) (Trap x y) h = grind (arith, nat_tests)
same (Exit a) (Exit x) h = grind (arith, nat_tests)
same (Out a) (Out x) h = grind (arith, nat_tests)
same Idle Idle h = refl
same (Map a b c d) (Map x y z w) h = grind (arith, nat_tests, same_option)
same (Going a b) (Going x y) h = grind (arith, nat_tests)
same (Ending a) (Ending x) h = grind (arith, nat_tests)
same (Gone a b) (Gone x y) h = grind (arith, nat_tests)
same (Born a b c) (Born x y z) h = grind (arith, nat_tests, same_option)
same (Move a) (Move x) h = grind (arith, nat_tests)
same (Dead a) (Dead x) h = grind (arith, nat_tests)
same (Refused a) (Refused x) h = grind (arith, same_refusal)
same e n h = absurd (false≢true h)

itself_option : (o : Option ℕ) → option_eq eqb o o ≡ true
itself_option None = refl
itself_option (Some a) = grind (arith, nat_tests)

itself_actor : (a : Actor) → (actor.ghosts).eq a a ≡ true
itself_actor (Hart h) = grind (arith, nat_tests)
itself_actor Kernel = refl

itself_wait : (a : WaitFor) → (wait.ghosts).eq a a ≡ true
itself_wait (waits.Page p) = grind (arith, nat_tests)
itself_wait (waits.Kernel a) = grind (arith, itself_actor)

itself_refusal : (a : Refusal) → (refusal.ghosts).eq a a ≡ true
itself_refusal Argument = refl
itself_refusal (Overlap a) = grind (arith, nat_tests)
itself_refusal (Absent a) = grind (arith, nat_tests)
itself_refusal (Leaving a) = grind (arith, nat_tests)
itself_refusal (NoFrames a b) = grind (arith, nat_tests)
itself_refusal (NoView a) = grind (arith, nat_tests)
itself_refusal (NotEmpty a) = grind (arith, nat_tests)
itself_refusal (Inside a) = grind (arith, nat_tests)
itself_refusal Views = refl
itself_refusal (Number a) = grind (arith, nat_tests)
itself_refusal (Lacks a) = grind (arith, nat_tests)

itself : (e : Event) → (event.ghosts).eq e e ≡ true
itself (Fetch a b) = grind (arith, nat_tests)
itself (Look a b c) = grind (arith, nat_tests)
itself (Take a) = grind (arith, nat_tests)
itself (Put a b c) = grind (arith, nat_tests)
itself (Swap a b c d) = grind (arith, nat_tests)
itself (Miss a) = grind (arith, nat_tests)
itself (End a) = grind (arith, nat_tests)
itself (Again a) = grind (arith, nat_tests)
itself (Wait a) = grind (arith, itself_wait)
itself Enter = refl
itself (Sync a b) = grind (arith, nat_tests)
itself (Trap a b) = grind (arith, nat_tests)
itself (Exit a) = grind (arith, nat_tests)
itself (Out a) = grind (arith, nat_tests)
itself Idle = refl
itself (Map a b c d) = grind (arith, nat_tests, itself_option)
itself (Going a b) = grind (arith, nat_tests)
itself (Ending a) = grind (arith, nat_tests)
itself (Gone a b) = grind (arith, nat_tests)
itself (Born a b c) = grind (arith, nat_tests, itself_option)
itself (Move a) = grind (arith, nat_tests)
itself (Dead a) = grind (arith, nat_tests)
itself (Refused a) = grind (arith, itself_refusal)

pub events_decide : (e n : Event) (r : Bool) → r ≡ (event.ghosts).eq e n → IsTrue r ↔ (e ≡ n)
events_decide e n r is = (λ t. same e n (sym is ∙ t), λ p. is ∙ subst (λ (m : Event). (event.ghosts).eq e m ≡ true) p (itself e))
