-- The block of a command that is built is a way.
use Rattle.std.proofs.Common.{◌≡◌, ℕ, List, Option, Some, None, true, false, sym, subst, ap, ◌∙◌}
use Rattle.wf_flat.specs.declared.event.Actor.{Actor}
use Rattle.wf_flat.specs.declared.event.Entry.{Entry}
use Rattle.wf_verdict.specs.declared.requests.Request.{Request}
use Rattle.wf_verdict.specs.declared.requests.Request.TheVariants.{Clones, Deletes, Patches}
use Rattle.wf_legal.specs.Legal.{IsLegal, end_of}
use Rattle.wf_next.specs.Determined.{HartsAreDetermined}
use Rattle.wf_script.specs.declared.command.Command.{Command}
use Rattle.wf_script.specs.declared.command.Command.TheVariants.{Create, Delete, Mem, Patch, Regs, Run, Step, Tables}
use Rattle.wf_follow.specs.Places.{Place, behind}
use Rattle.wf_follow.specs.Units.{IsTurn, IsUnitOf}
use Rattle.wf_follow.specs.Requests.{IsWholeCall}
use Rattle.wf_follow.specs.Follows.{IsBlock, IsCallOf, IsCallOrWait, IsCallUnless}
use Rattle.wf_follow.specs.Unbuilt.{is_built_command}
use Rattle.wf_follow.proofs.BirthLemmas.{IsFew}
use Rattle.wf_follow.proofs.EntryLemmas.{AtRest}
use Rattle.wf_follow.proofs.AlongLemmas.{AreWhole}
use Rattle.wf_follow.proofs.KernelLemmas.{call_ends, call_same, call_whole}
use Rattle.wf_follow.proofs.WayLemmas.{IsWay, stays_way, times_way, turn_way, unit_way}

-- nobody is inside between two units, so that the kernel's own actor makes a whole call
called : (request : Request) (p : Place) (es : List Entry) → AtRest p.moment → IsCallUnless request None p es → IsWholeCall request p.moment es
called request p es rest u = subst (λ (o : Option Actor). IsCallOrWait request o p es) rest.0.inside u

call_rests : (request : Request) (begun : Option ℕ) (p : Place) (es : List Entry) → IsCallUnless request begun p es → AtRest p.moment → IsLegal p.moment es → AtRest (end_of p.moment es)
call_rests request (Some patch) p es u rest legal = subst (λ (xs : List Entry). AtRest (end_of p.moment xs)) (sym u) rest
call_rests request None p es u rest legal = call_ends request p.moment es (called request p es rest u) rest legal

calls_whole : (request : Request) (begun : Option ℕ) (p : Place) (es : List Entry) → IsCallUnless request begun p es → AtRest p.moment → IsLegal p.moment es → AreWhole es
calls_whole request (Some patch) p es u rest legal = subst AreWhole (sym u) ((λ gives. gives), tt)
calls_whole request None p es u rest legal = call_whole request p.moment es (called request p es rest u) rest legal

calls_same : (request : Request) (begun : Option ℕ) (p : Place) (es fs : List Entry) → IsCallUnless request begun p es → IsCallUnless request begun p fs → AtRest p.moment → IsLegal p.moment es → IsLegal p.moment fs → IsFew (end_of p.moment es).flat
    → es ≡ fs
calls_same request (Some patch) p es fs u v rest legal others few = u ∙ sym v
calls_same request None p es fs u v rest legal others few = call_same request p.moment es fs (called request p es rest u) (called request p fs rest v) rest legal others few

call_way : (request : Request) → IsWay (IsCallOf request)
call_way request = record {
  moments = λ p es q u. ap (λ (x : Place). x.moment) u.1;
  rests = λ p es q u rest legal. subst (λ (x : Place). AtRest x.moment) (sym u.1) (call_rests request p.begun p es u.0 rest legal);
  whole = λ p es q u rest legal. calls_whole request p.begun p es u.0 rest legal;
  same = λ p es fs q r u v rest legal others few. (
      let one : es ≡ fs = calls_same request p.begun p es fs u.0 v.0 rest legal others few in
      (one, u.1 ∙ ap (behind p) one ∙ sym v.1));
}

pub block_way : HartsAreDetermined → (command : Command) → is_built_command command ≡ true → IsWay (IsBlock command)
block_way law (Step h n) built = times_way (IsUnitOf h) (unit_way law h) n
block_way law (Run n) built = times_way IsTurn (turn_way law) n
block_way law (Patch index false) built = call_way (Patches index)
block_way law (Patch index true) built = absurd (cc)
block_way law (Create generation) built = call_way (Clones generation)
block_way law (Delete generation) built = call_way (Deletes generation)
block_way law (Regs hart) built = stays_way
block_way law (Mem va n) built = stays_way
block_way law (Tables generation) built = stays_way
block_way law command built = absurd (cc)
