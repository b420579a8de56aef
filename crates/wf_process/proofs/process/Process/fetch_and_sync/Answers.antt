use Rattle.std.proofs.Common.{◌≡◌, ℕ, ap, ◌∙◌, refl, sym, subst}
use Rattle.wf_flat.specs.declared.event.Actor.TheVariants.{Hart}
use Rattle.wf_flat.specs.declared.event.Event.TheVariants.{Enter, Fetch, Sync}
use Rattle.wf_legal.specs.Legal.{Allows, Moment, after, end_of}
use Rattle.wf_space.specs.Carried.{MaySync}
use Rattle.wf_process.specs.Bodies.{BodyValue, with_entered, with_kept}
use Rattle.wf_process.specs.Harts.{kept_fetched}
use Rattle.wf_process.specs.Processes.{ProcessValue, start_of, with_entry}
use Rattle.wf_process.proofs.EventLemmas.{enters, fetches}
use Rattle.wf_process.proofs.MeetingLemmas.{meets, still_may}
use Rattle.wf_process.proofs.ProcessLemmas.{entry_comes, entry_kept, entry_moment, moment_is}
use Rattle.wf_process.proofs.process.Process.fetch_and_sync.Goals as goal

pub invariant_of-self-2 : goal.invariant_of-self-2
invariant_of-self-2 c =
    let start : Moment = start_of c.self.inside.deltas.items c.self.inside.image c.self.inside.count c.self.inside.limits in
    let h : ℕ = c.args.hart in
    let p0 : ProcessValue = c.args.self.now in
    let p1 : ProcessValue = with_entry (Hart h) (Fetch c.args.pc c.args.word) p0 in
    let p2 : ProcessValue = with_entry (Hart h) Enter p1 in
    let is1 = entry_comes start c.self.inside.entries c.note.new.entries (Hart h) (Fetch c.args.pc c.args.word) p0 c.self.view_is c.note.ensures in
    let is2 = entry_comes start c.note.new.entries c.note-2.new.entries (Hart h) Enter p1 is1 c.note-2.ensures in
    let b0 : BodyValue = c.self.inside.body in
    let b1 : BodyValue = with_kept b0 h (kept_fetched c.args.word) in
    let b2 : BodyValue = with_entered b1 h in
    let m1 = entry_moment (Hart h) (Fetch c.args.pc c.args.word) p0 in
    let m2 : p2.moment ≡ after (after p0.moment (Hart h) (Fetch c.args.pc c.args.word)) (Hart h) Enter = entry_moment (Hart h) Enter p1 ∙ ap (λ (n : Moment). after n (Hart h) Enter) m1 in
    let k1 = entry_kept start c.self.inside.entries c.note.new.entries (Hart h) (Fetch c.args.pc c.args.word) p0 c.self.view_is c.note.ensures b0 b1 b1 c.self.invariant c.requires.may.0 refl
    (fetches (end_of start c.self.inside.entries.items) b0 c.self.invariant.stands h c.args.pc c.args.word) in
    let k2 = entry_kept start c.note.new.entries c.note-2.new.entries (Hart h) Enter p1 is1 c.note-2.ensures b1 b2 b2 k1 (subst (λ (n : Moment). Allows n (Hart h) Enter) (sym m1) c.requires.may.1.0) refl
    (enters (end_of start c.note.new.entries.items) b1 k1.stands (Hart h)) in
    let may : MaySync (end_of start c.note-2.new.entries.items).flat c.args.generation c.args.page =
    subst (λ (n : Moment). MaySync n.flat c.args.generation c.args.page) (sym (moment_is start c.note-2.new.entries p2 is2 ∙ m2)) (still_may p0.moment h c.args.pc c.args.word c.args.generation c.args.page c.requires.page) in
    entry_kept start c.note-2.new.entries c.note-3.new.entries (Hart h) (Sync c.args.generation c.args.page) p2 is2 c.note-3.ensures b2 c.fetch_and_meet.new.self c.fetch_and_meet.new.self k2
    (subst (λ (n : Moment). Allows n (Hart h) (Sync c.args.generation c.args.page)) (sym m2) c.requires.may.1.1.0) refl
    (meets (end_of start c.note-2.new.entries.items) b2 c.fetch_and_meet.new.self k2.stands h c.args.generation c.args.page may c.in_ok-fetch_and_meet.ensures.met)

pub returns-clause-ok : goal.returns-clause-ok
returns-clause-ok c =
    let start : Moment = start_of c.self.inside.deltas.items c.self.inside.image c.self.inside.count c.self.inside.limits in
    let h : ℕ = c.args.hart in
    let p0 : ProcessValue = c.args.self.now in
    let p1 : ProcessValue = with_entry (Hart h) (Fetch c.args.pc c.args.word) p0 in
    let p2 : ProcessValue = with_entry (Hart h) Enter p1 in
    let is1 = entry_comes start c.self.inside.entries c.note.new.entries (Hart h) (Fetch c.args.pc c.args.word) p0 c.self.view_is c.note.ensures in
    let is2 = entry_comes start c.note.new.entries c.note-2.new.entries (Hart h) Enter p1 is1 c.note-2.ensures in
    entry_comes start c.note-2.new.entries c.note-3.new.entries (Hart h) (Sync c.args.generation c.args.page) p2 is2 c.note-3.ensures
