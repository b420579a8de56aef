use Rattle.std.proofs.Common.{◌↔◌, ◌∙◌, Bool, IsTrue, refl, sym}
use Rattle.std.proofs.lemmas.Bool.{false≢true}
use Rattle.wf_flat.specs.declared.event.Event.TheVariants.{Refused}
use Rattle.wf_legal.specs.Calls.{BeginsRequest}
use Rattle.wf_goes.specs.Refusing.{RefusesClone}
use Rattle.wf_goes.proofs.RefusingLemmas.{begins_delete, begins_patch, clone_decides, ok_by}
use Rattle.wf_goes.proofs.refusing.is_refusal.Goals as goal

pub returns-then-branch : goal.returns-then-branch
returns-then-branch c =
    (λ t. begins_delete c.args.deltas.now c.args.flat.now c.args.reason (c.in_ok-refuses_delete.ensures.0 c.if-branch.true), λ begins. refl)

pub returns-then-branch-2 : goal.returns-then-branch-2
returns-then-branch-2 c =
    (λ t. begins_patch c.args.deltas.now c.args.flat.now c.args.reason (c.in_ok-refuses_patch.ensures.0 c.if-branch-2.true), λ begins. refl)

pub returns : goal.returns
returns c =
    let deltas = c.args.deltas.now in
    let s = c.args.flat.now in
    let reason = c.args.reason in
    ok_by c.refuses_clone.result (λ (b : Bool). IsTrue b ↔ RefusesClone deltas s reason) (λ (b : Bool). IsTrue b ↔ BeginsRequest deltas s (Refused reason))
    (λ b d. clone_decides deltas s reason b c.requires.within.generations
    (λ r. false≢true (sym c.if-branch.false ∙ c.in_ok-refuses_delete.ensures.1 r))
    (λ r. false≢true (sym c.if-branch-2.false ∙ c.in_ok-refuses_patch.ensures.1 r)) d)
    c.refuses_clone.ensures
