-- Where an entry is allowed.
use Rattle.std.proofs.Common.{◌≡◌, ◌↔◌, Bool, true, false, Result, Ok, Err, IfOk, IsTrue, subst, sym}
use Rattle.std.specs.Prelude.{MatchBool}
use Rattle.std.proofs.lemmas.Bool.{false≢true}
use Rattle.wf_flat.specs.declared.event.Actor.{Actor}
use Rattle.wf_flat.specs.declared.event.Actor.TheVariants.{Kernel}
use Rattle.wf_flat.specs.declared.event.Event.{Event}
use Rattle.wf_flat.specs.declared.event.Event.TheVariants.{Idle}
use Rattle.wf_flat.specs.Steps.{MayAct, is_inside}
use Rattle.wf_legal.specs.Calls.{GoesOn}
use Rattle.wf_legal.specs.Legal.{Allows, Moment}
use Rattle.wf_goes.specs.InHand.{is_idle_kernel}

-- of the actor inside, where its call goes on with it
pub inside_decides : (m : Moment) (actor : Actor) (event : Event) (b : Bool) → is_idle_kernel actor event ≡ false → is_inside m.flat.inside actor ≡ true → IsTrue b ↔ GoesOn m.deltas m.flat actor m.call event → IsTrue b ↔ Allows m actor event
inside_decides m Kernel Idle b idle inside d = absurd (false≢true (sym idle))
inside_decides m actor event b idle inside d = subst (λ (t : Bool). IsTrue b ↔ MatchBool t (GoesOn m.deltas m.flat actor m.call event) (MayAct m.flat actor event)) (sym inside) d

-- a result that is there, by another fact
pub ok_by : {A E : Type 0} (r : Result A E) (P Q : A → Type 0) → ((x : A) → P x → Q x) → IfOk r P → IfOk r Q
ok_by (Ok x) P Q f h = f x h
ok_by (Err e) P Q f h = tt
