use Rattle.std.proofs.Common.{◌≡◌, ◌<◌, ◌∙◌, ℕ, length, sym, subst, ap, arith}
use Rattle.rv_inst.specs.Arch.{ArchState}
use Rattle.wf_outside.specs.Pages.{page_of}
use Rattle.wf_views.specs.Lists.{pushed}
use Rattle.wf_flat.specs.declared.event.Actor.TheVariants.{Hart}
use Rattle.wf_flat.specs.declared.event.Event.TheVariants.{End, Put, Take}
use Rattle.wf_flat.specs.Changes.{written_by}
use Rattle.wf_flat.specs.Steps.{OfHart, arch_after, is_conditional, want_in}
use Rattle.wf_legal.specs.Legal.{Moment, end_of}
use Rattle.wf_sound.proofs.SoundLemmas.{journal_keeps}
use Rattle.wf_process.specs.Bodies.{BodyValue, with_left_kept}
use Rattle.wf_process.specs.Harts.{kept_written}
use Rattle.wf_process.specs.Processes.{start_of}
use Rattle.wf_process.proofs.EntriesLemmas.{three_come, three_kept}
use Rattle.wf_process.proofs.ProcessLemmas.{moment_is}
use Rattle.wf_process.proofs.WritingLemmas.{has_data, lies_so, page_low, puts, store_takes, taker_there}
use Rattle.wf_process.proofs.process.Process.store.Goals as goal

pub overflow_cast-page : goal.overflow_cast-page
overflow_cast-page c =
    let start : Moment = start_of c.self.inside.deltas.items c.self.inside.image c.self.inside.count c.self.inside.limits in
    let h : ℕ = c.args.hart in
    let takes = store_takes start c.self.inside.entries c.args.self.now c.self.inside.body h c.args.write c.args.next.pc c.self.view_is c.self.invariant c.requires.may in
    let low : page_of c.args.write.va < 0x4000000 = page_low start c.self.inside.entries.items c.self.inside.body h c.args.write.va c.self.invariant takes in
    omega (arith, low)

pub write-requires-clause-there : goal.write-requires-clause-there
write-requires-clause-there c =
    let start : Moment = start_of c.self.inside.deltas.items c.self.inside.image c.self.inside.count c.self.inside.limits in
    let h : ℕ = c.args.hart in
    let takes = store_takes start c.self.inside.entries c.args.self.now c.self.inside.body h c.args.write c.args.next.pc c.self.view_is c.self.invariant c.requires.may in
    has_data start c.self.inside.entries.items c.self.inside.body h c.args.write.va c.self.invariant takes c.hart.result.now c.hart.ensures

pub end_write-requires : goal.end_write-requires
end_write-requires c =
    let start : Moment = start_of c.self.inside.deltas.items c.self.inside.image c.self.inside.count c.self.inside.limits in
    let h : ℕ = c.args.hart in
    let takes = store_takes start c.self.inside.entries c.args.self.now c.self.inside.body h c.args.write c.args.next.pc c.self.view_is c.self.invariant c.requires.may in
    subst (λ (b : BodyValue). h < length b.harts) (sym c.write.ensures.is) (taker_there start c.self.inside.entries.items c.self.inside.body h c.args.write.va c.self.invariant takes)

pub invariant_of-self : goal.invariant_of-self
invariant_of-self c =
    let start : Moment = start_of c.self.inside.deltas.items c.self.inside.image c.self.inside.count c.self.inside.limits in
    let m : Moment = end_of start c.self.inside.entries.items in
    let h : ℕ = c.args.hart in
    let same : m ≡ c.args.self.now.moment = moment_is start c.self.inside.entries c.args.self.now c.self.view_is in
    let takes = store_takes start c.self.inside.entries c.args.self.now c.self.inside.body h c.args.write c.args.next.pc c.self.view_is c.self.invariant c.requires.may in
    let lies = lies_so start c.self.inside.entries.items c.self.inside.body h c.args.write.va c.self.invariant takes c.hart.result.now c.hart.ensures c.write.ensures.frame c.write.ensures.lies in
    let third = subst (λ (pc : ℕ). c.note-3.new.entries ≡ pushed (record { actor = Hart h; event = End pc }) c.note-2.new.entries) (ap (λ (a : ArchState). a.pc) c.next.view_is) c.note-3.ensures in
    three_kept start c.self.inside.entries c.note.new.entries c.note-2.new.entries c.note-3.new.entries (Hart h) (Take (page_of c.args.write.va)) (Put c.args.write.va c.args.write.width c.args.write.value) (End c.args.next.pc) c.args.self.now c.self.view_is c.note.ensures c.note-2.ensures third
    c.self.inside.body c.end_write.new.self _ c.self.invariant c.requires.may
    (c.end_write.ensures ∙ ap (λ (b : BodyValue). with_left_kept b h (kept_written 0 c.args.conditional c.args.next)) c.write.ensures.is)
    (puts _ m.flat c.self.inside.body c.self.invariant.stands (journal_keeps start c.self.inside.entries.items c.self.invariant.sound c.self.invariant.legal).state h c.args.write c.write.ensures.frame takes lies c.args.conditional c.args.next
    (subst (λ (n : Moment). OfHart n.flat h (λ hart. is_conditional (want_in hart) ≡ c.args.conditional)) (sym same) c.requires.which)
    (subst (λ (n : Moment). OfHart n.flat h (λ hart. c.args.next ≡ arch_after (written_by hart))) (sym same) c.requires.next))

pub returns : goal.returns
returns c =
    let start : Moment = start_of c.self.inside.deltas.items c.self.inside.image c.self.inside.count c.self.inside.limits in
    let h : ℕ = c.args.hart in
    let third = subst (λ (pc : ℕ). c.note-3.new.entries ≡ pushed (record { actor = Hart h; event = End pc }) c.note-2.new.entries) (ap (λ (a : ArchState). a.pc) c.next.view_is) c.note-3.ensures in
    three_come start c.self.inside.entries c.note.new.entries c.note-2.new.entries c.note-3.new.entries (Hart h) (Take (page_of c.args.write.va)) (Put c.args.write.va c.args.write.width c.args.write.value) (End c.args.next.pc) c.args.self.now c.self.view_is c.note.ensures c.note-2.ensures third
