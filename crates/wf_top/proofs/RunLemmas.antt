-- Two runs of one script have one journal, where no frame is worn.
use Rattle.std.proofs.Common.{◌≡◌, ℕ, List, [], ◌∷◌, sym, subst, ap, ◌∙◌, arith}
use Rattle.wf_outside.specs.Pages.{LimitsValue}
use Rattle.wf_flat.specs.declared.event.Entry.{Entry}
use Rattle.wf_legal.specs.Legal.{IsLegal, Moment, end_of}
use Rattle.wf_next.specs.Determined.{HartsAreDetermined}
use Rattle.wf_script.specs.declared.command.Command.{Command}
use Rattle.wf_report.specs.Listings.{ListingValue}
use Rattle.wf_follow.specs.Places.{Place, place_at}
use Rattle.wf_follow.specs.Follows.{Follows, IsBlock}
use Rattle.wf_follow.specs.Unbuilt.{AreBuilt}
use Rattle.wf_follow.specs.Runs.{IsRun, WearsNone}
use Rattle.wf_follow.proofs.BirthLemmas.{IsFew, few_back, few_front, limits_along}
use Rattle.wf_follow.proofs.EntryLemmas.{AtRest}
use Rattle.wf_follow.proofs.StartLemmas.{start_rests}
use Rattle.wf_follow.proofs.WayLemmas.{back_legal, front_of, mid_rests, parts_same}
use Rattle.wf_follow.proofs.BlockLemmas.{block_way}
use Rattle.wf_usage.specs.declared.sizes.Sizes.{Sizes}
use Rattle.wf_run.specs.Stages.{RunFilesValue, limits_of}
use Rattle.wf_run.specs.Answers.{start_for}

entries_same : HartsAreDetermined → (commands : List Command) → AreBuilt commands → (p : Place) (es fs : List Entry) (ls ks : List ListingValue) (q r : Place) → Follows commands p es ls q → Follows commands p fs ks r → AtRest p.moment
    → IsLegal p.moment es → IsLegal p.moment fs → IsFew (end_of p.moment es).flat → es ≡ fs
entries_same law [] built p es fs ls ks q r u v rest legal others few = u.0.0 ∙ sym v.0.0
entries_same law (command ∷ commands) built p es fs ls ks q r u v rest legal others few =
    let way = block_way law command built.0 in
    let fronts = way.same p u.front v.front u.mid v.mid u.obeys.block v.obeys.block rest (front_of p.moment es u.front u.back u.joined legal) (front_of p.moment fs v.front v.back v.joined others)
    (few_front p.moment es u.front u.back u.joined few) in
    let more : Follows commands u.mid v.back v.others r = subst (λ (m : Place). Follows commands m v.back v.others r) (sym fronts.1) v.rest in
    let behind_it : IsLegal u.mid.moment v.back = subst (λ (m : Place). IsLegal m.moment v.back) (sym fronts.1) (back_legal (IsBlock command) way p v.mid fs v.front v.back v.joined v.obeys.block others) in
    let backs = entries_same law commands built.1 u.mid u.back v.back u.others v.others q r u.rest more (mid_rests (IsBlock command) way p u.mid es u.front u.back u.joined u.obeys.block rest legal)
    (back_legal (IsBlock command) way p u.mid es u.front u.back u.joined u.obeys.block legal) behind_it
    (few_back p.moment u.mid.moment es u.front u.back u.joined (way.moments p u.front u.mid u.obeys.block) few) in
    parts_same es fs u.front u.back v.front v.back u.joined v.joined fronts.0 backs

pub runs_same : HartsAreDetermined → (sizes : Sizes) (files : RunFilesValue) (one other : List ℕ) → AreBuilt files.script.commands → (run : IsRun (start_for sizes files.deltas files.image) files.script one) → WearsNone run
    → (again : IsRun (start_for sizes files.deltas files.image) files.script other) → run.entries ≡ again.entries
runs_same law sizes files one other built run wears again =
    let start : Moment = start_for sizes files.deltas files.image in
    let last = ap (λ (limits : LimitsValue). limits.last_birth) (limits_along start run.entries) in
    entries_same law files.script.commands built (place_at start) run.entries again.entries run.listings again.listings run.place again.place run.follows again.follows
    (start_rests files.deltas files.image sizes.harts (limits_of sizes)) run.legal again.legal (omega (arith, last))
