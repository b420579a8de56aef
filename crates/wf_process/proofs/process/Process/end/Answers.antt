use Rattle.std.proofs.Common.{◌≡◌, ℕ, None, sym, subst, ap}
use Rattle.rv_inst.specs.Arch.{ArchState}
use Rattle.wf_views.specs.Lists.{pushed}
use Rattle.wf_flat.specs.declared.event.Actor.TheVariants.{Hart}
use Rattle.wf_flat.specs.declared.event.Event.TheVariants.{End}
use Rattle.wf_flat.proofs.ChangeLemmas.{hart_there}
use Rattle.wf_flat.specs.Serving.{held_by}
use Rattle.wf_flat.specs.Steps.{OfHart, access_in, arch_after}
use Rattle.wf_legal.specs.Legal.{Moment, end_of}
use Rattle.wf_process.specs.Processes.{start_of}
use Rattle.wf_process.proofs.EventLemmas.{ends}
use Rattle.wf_process.proofs.ProcessLemmas.{entry_comes, entry_kept, is_there, moment_is}
use Rattle.wf_process.proofs.process.Process.end.Goals as goal

pub end-requires : goal.end-requires
end-requires c =
    let start : Moment = start_of c.self.inside.deltas.items c.self.inside.image c.self.inside.count c.self.inside.limits in
    let m : Moment = end_of start c.self.inside.entries.items in
    is_there start c.self.inside.entries c.args.self.now c.self.inside.body c.args.hart (End c.args.next.pc) c.self.view_is c.self.invariant (λ may. hart_there m.flat c.args.hart _ may) c.requires.may

pub invariant_of-self : goal.invariant_of-self
invariant_of-self c =
    let start : Moment = start_of c.self.inside.deltas.items c.self.inside.image c.self.inside.count c.self.inside.limits in
    let m : Moment = end_of start c.self.inside.entries.items in
    let same : m ≡ c.args.self.now.moment = moment_is start c.self.inside.entries c.args.self.now c.self.view_is in
    entry_kept start c.self.inside.entries c.note.new.entries (Hart c.args.hart) (End c.args.next.pc) c.args.self.now c.self.view_is
    (subst (λ (pc : ℕ). c.note.new.entries ≡ pushed (record { actor = Hart c.args.hart; event = End pc }) c.self.inside.entries) (ap (λ (a : ArchState). a.pc) c.next.view_is) c.note.ensures) c.self.inside.body c.end.new.self _ c.self.invariant c.requires.may
    c.end.ensures (ends m c.self.inside.body c.self.invariant.stands c.args.hart c.args.next.pc c.args.next
    (subst (λ (n : Moment). OfHart n.flat c.args.hart (λ hart. c.args.next ≡ arch_after hart)) (sym same) c.requires.next)
    (subst (λ (n : Moment). OfHart n.flat c.args.hart (λ hart. held_by n.flat c.args.hart (access_in hart) ≡ None)) (sym same) c.requires.free))

pub returns : goal.returns
returns c =
    let start : Moment = start_of c.self.inside.deltas.items c.self.inside.image c.self.inside.count c.self.inside.limits in
    entry_comes start c.self.inside.entries c.note.new.entries (Hart c.args.hart) (End c.args.next.pc) c.args.self.now c.self.view_is
    (subst (λ (pc : ℕ). c.note.new.entries ≡ pushed (record { actor = Hart c.args.hart; event = End pc }) c.self.inside.entries) (ap (λ (a : ArchState). a.pc) c.next.view_is) c.note.ensures)
