use Rattle.std.proofs.Common.{◌∙◌, Bool, List, Ok, ap, subst, sym, get_or, arith}
use Rattle.std.proofs.lemmas.Bool.{false≢true}
use Rattle.std.proofs.lemmas.List.{take_all}
use Rattle.wf_flat.specs.declared.event.Actor.TheVariants.{Hart}
use Rattle.wf_flat.specs.declared.event.Entry.{Entry}
use Rattle.wf_flat.specs.declared.event.Event.TheVariants.{Fetch}
use Rattle.wf_legal.specs.Legal.{IsLegal, Moment, after, at_rest}
use Rattle.wf_replay.proofs.IllegalLemmas.{allowed_there, bad_told, end_more, first_here, legal_first, legal_more}
use Rattle.wf_replay.proofs.replaying.replay.Goals as goal

-- what an index past the end gives
abbrev none : Entry
none = record { actor = Hart 0; event = Fetch 0 0 }

pub returns-then-not-branch-clause-legal : goal.returns-then-not-branch-clause-legal
returns-then-not-branch-clause-legal c = λ memory.
    let m = at_rest c.args.deltas.now c.args.start in
    let first = first_here m c.args.journal.now c.loop-i.i none c.loop-i-test.true c.loop-i.invariant.0
    (λ allowed. false≢true (sym c.if-not-branch.true ∙ c.in_ok-step.ensures.allowed.1 (allowed_there _ _ _ (sym c.loop-i.invariant.1) allowed))) in
    (λ e. absurd (false≢true e), λ legal. absurd (legal_first m c.args.journal.now c.loop-i.i _ legal first))

pub returns-then-not-branch-clause-bad : goal.returns-then-not-branch-clause-bad
returns-then-not-branch-clause-bad c = λ memory index rule.
    let m = at_rest c.args.deltas.now c.args.start in
    let first = first_here m c.args.journal.now c.loop-i.i none c.loop-i-test.true c.loop-i.invariant.0
    (λ allowed. false≢true (sym c.if-not-branch.true ∙ c.in_ok-step.ensures.allowed.1 (allowed_there _ _ _ (sym c.loop-i.invariant.1) allowed))) in
    bad_told m c.args.journal.now c.loop-i.i index _ rule first

pub loop-i-preserved : goal.loop-i-preserved
loop-i-preserved c =
    let m = at_rest c.args.deltas.now c.args.start in
    let journal = c.args.journal.now in
    let entry : Entry = get_or journal c.loop-i.i none in (
      legal_more m journal c.loop-i.i none c.loop-i-test.true c.loop-i.invariant.0 (allowed_there _ _ _ c.loop-i.invariant.1 (c.in_ok-step.ensures.allowed.0 c.if-not-branch.false)),
      c.in_ok-step.ensures.after (ap (λ (b : Bool). Ok b) c.if-not-branch.false) ∙ ap (λ (n : Moment). after n entry.actor entry.event) c.loop-i.invariant.1 ∙ end_more m journal c.loop-i.i none c.loop-i-test.true,
    )

pub returns-clause-bad : goal.returns-clause-bad
returns-clause-bad c = λ memory index rule.
    let m = at_rest c.args.deltas.now c.args.start in
    let journal = c.args.journal.now in
    let legal : IsLegal m journal = subst (λ (es : List Entry). IsLegal m es) (take_all c.loop-i.i journal (omega arith)) c.loop-i.invariant.0 in
    (λ e. absurd (cc), λ first. absurd (legal_first m journal index rule legal first))
