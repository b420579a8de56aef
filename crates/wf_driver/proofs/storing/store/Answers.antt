use Rattle.std.proofs.Common.{refl, sym, ◌∙◌}
use Rattle.std.specs.Option.{option_map}
use Rattle.wf_outside.specs.Pages.{page_of}
use Rattle.wf_driver.specs.Stepping.{store_at}
use Rattle.wf_driver.proofs.StepLemmas.{acts_free}
use Rattle.wf_driver.proofs.MakingLemmas.{ends_behind, still_in}
use Rattle.wf_flat.proofs.ChangeLemmas.{hart_there}
use Rattle.wf_driver.proofs.ServingLemmas.{store_access, store_kept, reaches, textless, textful, is_none, is_below, missing, in_text, denied, meets, near, lost_misses, idle_misses, found_same}
use Rattle.wf_driver.proofs.storing.store.Goals as goal

pub miss-requires-clause-may : goal.miss-requires-clause-may
miss-requires-clause-may c =
    lost_misses c.args.flat.now c.args.access.now.hart c.args.access.now.arch c.args.access.now.operand c.args.write c.is_lost.result (acts_free c.args.flat.now c.args.access.now.hart c.requires.acts) c.requires.store c.requires.ready c.is_lost.ensures c.if-is_lost.true

pub text_value-requires-clause-there : goal.text_value-requires-clause-there
text_value-requires-clause-there c = hart_there c.args.flat.now c.args.access.now.hart _ c.requires.ready

pub trap-requires-clause-ready : goal.trap-requires-clause-ready
trap-requires-clause-ready c =
    in_text c.args.flat.now c.args.access.now.hart c.args.access.now.arch c.args.access.now.operand.inst (store_at c.args.access.now.operand) (acts_free c.args.flat.now c.args.access.now.hart c.requires.acts) c.requires.ready
    (store_kept c.args.flat.now c.args.access.now.hart c.args.access.now.arch c.args.access.now.operand c.args.write c.requires.store c.requires.ready (reaches c.args.flat.now c.args.access.now.hart c.args.access.now.operand c.args.write c.is_lost.result c.is_lost.ensures c.if-is_lost.false))
    (store_access c.args.access.now.arch c.args.access.now.operand c.args.write c.requires.store)
    (textful c.args.flat.now c.args.access.now.hart c.args.access.now.operand.va c.args.access.now.operand.width c.text_value.result c.text_value.ensures (sym c.is_some.ensures ∙ c.if-is_some.true)) refl

pub found_at-requires-clause-there : goal.found_at-requires-clause-there
found_at-requires-clause-there c = hart_there c.args.flat.now c.args.access.now.hart _ c.requires.ready

pub trap-requires-in_default-clause-ready : goal.trap-requires-in_default-clause-ready
trap-requires-in_default-clause-ready c =
    missing c.args.flat.now c.args.access.now.hart c.args.access.now.arch c.args.access.now.operand.inst (store_at c.args.access.now.operand) (acts_free c.args.flat.now c.args.access.now.hart c.requires.acts) c.requires.ready
    (store_kept c.args.flat.now c.args.access.now.hart c.args.access.now.arch c.args.access.now.operand c.args.write c.requires.store c.requires.ready (reaches c.args.flat.now c.args.access.now.hart c.args.access.now.operand c.args.write c.is_lost.result c.is_lost.ensures c.if-is_lost.false))
    (store_access c.args.access.now.arch c.args.access.now.operand c.args.write c.requires.store)
    (textless c.args.flat.now c.args.access.now.hart c.args.access.now.operand.va c.args.access.now.operand.width c.text_value.result c.text_value.ensures (is_none c.text_value.result (sym c.if-is_some.false ∙ c.is_some.ensures))) c.in_default.ensures

pub trap-requires-then-not-found-clause-ready : goal.trap-requires-then-not-found-clause-ready
trap-requires-then-not-found-clause-ready c =
    denied c.args.flat.now c.args.access.now.hart c.args.access.now.arch c.args.access.now.operand.inst (store_at c.args.access.now.operand) c.in-Some.found (acts_free c.args.flat.now c.args.access.now.hart c.requires.acts) c.requires.ready
    (store_kept c.args.flat.now c.args.access.now.hart c.args.access.now.arch c.args.access.now.operand c.args.write c.requires.store c.requires.ready (reaches c.args.flat.now c.args.access.now.hart c.args.access.now.operand c.args.write c.is_lost.result c.is_lost.ensures c.if-is_lost.false))
    (store_access c.args.access.now.arch c.args.access.now.operand c.args.write c.requires.store)
    (textless c.args.flat.now c.args.access.now.hart c.args.access.now.operand.va c.args.access.now.operand.width c.text_value.result c.text_value.ensures (is_none c.text_value.result (sym c.if-is_some.false ∙ c.is_some.ensures))) c.in-Some.ensures.0 refl c.if-not-found.true

pub meet-requires-clause-there : goal.meet-requires-clause-there
meet-requires-clause-there c = hart_there c.args.flat.now c.args.access.now.hart _ c.requires.ready

pub meet-requires-clause-met : goal.meet-requires-clause-met
meet-requires-clause-met c =
    let reached = reaches c.args.flat.now c.args.access.now.hart c.args.access.now.operand c.args.write c.is_lost.result c.is_lost.ensures c.if-is_lost.false in
    meets c.args.flat.now c.args.access.now.hart c.args.access.now.arch c.args.access.now.operand.inst (store_at c.args.access.now.operand) c.in-Some.found (option_map (λ v. v.items) c.args.met) (acts_free c.args.flat.now c.args.access.now.hart c.requires.acts) c.requires.ready
    (store_kept c.args.flat.now c.args.access.now.hart c.args.access.now.arch c.args.access.now.operand c.args.write c.requires.store c.requires.ready reached) (store_access c.args.access.now.arch c.args.access.now.operand c.args.write c.requires.store)
    (textless c.args.flat.now c.args.access.now.hart c.args.access.now.operand.va c.args.access.now.operand.width c.text_value.result c.text_value.ensures (is_none c.text_value.result (sym c.if-is_some.false ∙ c.is_some.ensures))) c.in-Some.ensures.0
    (λ page e. e ∙ is_below c.in-Some.found.write (sym c.if-not-found.false)) (c.requires.met reached)

pub will_write-requires-clause-there : goal.will_write-requires-clause-there
will_write-requires-clause-there c = hart_there c.meet.new.flat c.args.access.now.hart _ (still_in c.args.flat.now c.meet.new.flat c.args.access.now.hart c.args.access.now.arch c.args.access.now.operand.inst c.meet.ensures.same.harts c.requires.ready)

pub miss-requires-else-will_write-clause-may : goal.miss-requires-else-will_write-clause-may
miss-requires-else-will_write-clause-may c =
    idle_misses c.meet.new.flat c.args.access.now.hart c.args.access.now.arch c.args.access.now.operand c.args.write c.in-Some.found (acts_free c.meet.new.flat c.args.access.now.hart c.meet.ensures.acts) c.requires.store
    (still_in c.args.flat.now c.meet.new.flat c.args.access.now.hart c.args.access.now.arch c.args.access.now.operand.inst c.meet.ensures.same.harts c.requires.ready)
    (found_same c.args.flat.now c.meet.new.flat (page_of c.args.access.now.operand.va) c.in-Some.found c.meet.ensures.same.pages c.meet.ensures.same.limits c.in-Some.ensures.0)
    (near c.args.flat.now c.meet.new.flat c.args.access.now.hart c.args.access.now.operand.va c.in-Some.found.page
    (textless c.args.flat.now c.args.access.now.hart c.args.access.now.operand.va c.args.access.now.operand.width c.text_value.result c.text_value.ensures (is_none c.text_value.result (sym c.if-is_some.false ∙ c.is_some.ensures)))
    c.meet.ensures.same.gens c.meet.ensures.same.harts c.meet.ensures.met)
    (is_below c.in-Some.found.write (sym c.if-not-found.false)) c.if-will_write.ensures

pub returns-then-will_write : goal.returns-then-will_write
returns-then-will_write c = ends_behind c.args.flat.now c.meet.new.flat c.write_page.new.flat c.args.access.now.hart c.args.journal.now.items c.meet.new.journal.items c.write_page.new.journal.items c.meet.ensures.made c.meet.ensures.same.harts c.write_page.ensures

pub returns-else-will_write : goal.returns-else-will_write
returns-else-will_write c = ends_behind c.args.flat.now c.meet.new.flat c.miss-else-will_write.new.flat c.args.access.now.hart c.args.journal.now.items c.meet.new.journal.items c.miss-else-will_write.new.journal.items c.meet.ensures.made c.meet.ensures.same.harts c.miss-else-will_write.ensures
