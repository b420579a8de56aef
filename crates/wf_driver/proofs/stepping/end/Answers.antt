use Rattle.std.proofs.Common.{◌∙◌, ap, ◌++◌, ◌∷◌, []}
use Rattle.rv_inst.specs.Arch.{ArchState}
use Rattle.wf_flat.specs.declared.event.Event.TheVariants.{End}
use Rattle.wf_driver.proofs.StepLemmas.{entry, end_made, end_harts, end_rests, done_held, done_next}
use Rattle.wf_driver.proofs.stepping.end.Goals as goal

pub end-requires-clause-held : goal.end-requires-clause-held
end-requires-clause-held c = done_held c.args.flat.now c.args.hart c.args.held c.args.next c.requires.done

pub end-requires-clause-next : goal.end-requires-clause-next
end-requires-clause-next c = done_next c.args.flat.now c.args.hart c.args.held c.args.next c.requires.done

pub returns : goal.returns
returns c =
    record {
      made = λ s before b. end_made s c.args.flat.now c.end.new.self before c.args.journal.now.items c.append.new.journal.items c.args.hart c.args.held c.args.next b c.requires.acts.no_one c.requires.done c.end.ensures.state
          (c.append.ensures.items ∙ ap (λ (a : ArchState). c.args.journal.now.items ++ entry c.args.hart (End a.pc) ∷ []) c.next.view_is);
      rests = end_rests c.args.flat.now c.end.new.self c.args.hart c.args.next.pc c.args.held c.args.next c.requires.acts c.requires.done c.end.ensures.state c.end.ensures.ordered;
      harts = end_harts c.args.flat.now c.end.new.self c.args.hart c.args.next.pc c.args.held c.args.next c.requires.acts c.requires.done c.end.ensures.state;
    }
