-- What holds of runs of scripts that are built.
use Rattle.std.proofs.Common.{◌≡◌, ◌<◌, ℕ, List, [], ◌∷◌, true, sym, subst, ap, ◌∙◌, arith}
use Rattle.wf_outside.specs.Pages.{LimitsValue}
use Rattle.wf_flat.specs.declared.event.Entry.{Entry}
use Rattle.wf_legal.specs.Legal.{IsLegal, Moment, end_of}
use Rattle.wf_next.specs.Determined.{HartsAreDetermined}
use Rattle.wf_report.specs.Listings.{ListingValue}
use Rattle.wf_report.specs.Reports.{report_bytes}
use Rattle.wf_script.specs.declared.command.Command.{Command}
use Rattle.wf_script.specs.declared.command.Command.TheVariants.{Create, Delete, Mem, Patch, Regs, Run, Step, Tables}
use Rattle.wf_follow.specs.Places.{Place, place_at}
use Rattle.wf_follow.specs.Follows.{Follows, HasListing, IsBlock, IsListing}
use Rattle.wf_follow.specs.Unbuilt.{AreBuilt, is_built_command}
use Rattle.wf_follow.specs.Runs.{start_of}
use Rattle.wf_follow.specs.Laws.{ReportsAreOne, UnitsAreWhole}
use Rattle.wf_follow.proofs.BirthLemmas.{IsFew, few_back, few_front, limits_along}
use Rattle.wf_follow.proofs.EntryLemmas.{AtRest}
use Rattle.wf_follow.proofs.AlongLemmas.{AreWhole}
use Rattle.wf_follow.proofs.StartLemmas.{start_rests}
use Rattle.wf_follow.proofs.WayLemmas.{back_legal, both_whole, front_of, mid_rests, parts_same}
use Rattle.wf_follow.proofs.BlockLemmas.{block_way}

-- one listing
listing_same : (p : Place) (one other : List ListingValue) (lines : List ℕ) → HasListing p one (λ (found : List ℕ). found ≡ lines) → HasListing p other (λ (found : List ℕ). found ≡ lines) → one ≡ other
listing_same p one other lines u v =
    u.is ∙ ap (λ (found : List ℕ). (let x : ListingValue = record { place = p.made; lines = found } in x) ∷ []) (u.are ∙ sym v.are) ∙ sym v.is

listings_same : (command : Command) (p : Place) (one other : List ListingValue) → is_built_command command ≡ true → IsListing command p one → IsListing command p other → one ≡ other
listings_same (Step h n) p one other built u v = u ∙ sym v
listings_same (Run n) p one other built u v = u ∙ sym v
listings_same (Patch index begin) p one other built u v = u ∙ sym v
listings_same (Create generation) p one other built u v = u ∙ sym v
listings_same (Delete generation) p one other built u v = u ∙ sym v
listings_same (Regs hart) p one other built u v = listing_same p one other _ u v
listings_same (Mem va n) p one other built u v = listing_same p one other _ u v
listings_same (Tables generation) p one other built u v = listing_same p one other _ u v
listings_same command p one other built u v = absurd (cc)

-- what follows a script is one
follows_same : HartsAreDetermined → (commands : List Command) → AreBuilt commands → (p : Place) (es fs : List Entry) (ls ks : List ListingValue) (q r : Place) → Follows commands p es ls q → Follows commands p fs ks r → AtRest p.moment
    → IsLegal p.moment es → IsLegal p.moment fs → IsFew (end_of p.moment es).flat → (es ≡ fs) × (ls ≡ ks)
follows_same law [] built p es fs ls ks q r u v rest legal others few = (u.0.0 ∙ sym v.0.0, u.1 ∙ sym v.1)
follows_same law (command ∷ commands) built p es fs ls ks q r u v rest legal others few =
    let way = block_way law command built.0 in
    let fronts = way.same p u.front v.front u.mid v.mid u.obeys.block v.obeys.block rest (front_of p.moment es u.front u.back u.joined legal) (front_of p.moment fs v.front v.back v.joined others)
    (few_front p.moment es u.front u.back u.joined few) in
    let lists : u.first ≡ v.first = listings_same command p u.first v.first built.0 u.obeys.listing v.obeys.listing in
    let more : Follows commands u.mid v.back v.others r = subst (λ (m : Place). Follows commands m v.back v.others r) (sym fronts.1) v.rest in
    let behind_it : IsLegal u.mid.moment v.back = subst (λ (m : Place). IsLegal m.moment v.back) (sym fronts.1) (back_legal (IsBlock command) way p v.mid fs v.front v.back v.joined v.obeys.block others) in
    let backs = follows_same law commands built.1 u.mid u.back v.back u.others v.others q r u.rest more (mid_rests (IsBlock command) way p u.mid es u.front u.back u.joined u.obeys.block rest legal)
    (back_legal (IsBlock command) way p u.mid es u.front u.back u.joined u.obeys.block legal) behind_it
    (few_back p.moment u.mid.moment es u.front u.back u.joined (way.moments p u.front u.mid u.obeys.block) few) in
    (parts_same es fs u.front u.back v.front v.back u.joined v.joined fronts.0 backs.0, parts_same ls ks u.first u.others v.first v.others u.listed v.listed lists backs.1)

-- it gives no try up
follows_whole : HartsAreDetermined → (commands : List Command) → AreBuilt commands → (p : Place) (es : List Entry) (ls : List ListingValue) (q : Place) → Follows commands p es ls q → AtRest p.moment → IsLegal p.moment es → AreWhole es
follows_whole law [] built p es ls q u rest legal = subst AreWhole (sym u.0.0) tt
follows_whole law (command ∷ commands) built p es ls q u rest legal =
    let way = block_way law command built.0 in
    both_whole es u.front u.back u.joined (way.whole p u.front u.mid u.obeys.block rest (front_of p.moment es u.front u.back u.joined legal))
    (follows_whole law commands built.1 u.mid u.back u.others q u.rest (mid_rests (IsBlock command) way p u.mid es u.front u.back u.joined u.obeys.block rest legal)
    (back_legal (IsBlock command) way p u.mid es u.front u.back u.joined u.obeys.block legal))

-- no frame is worn, where fewer pages were mapped than the last incarnation counts
few_worn : (start : Moment) (es : List Entry) → (end_of start es).flat.births < start.flat.limits.last_birth → IsFew (end_of start es).flat
few_worn start es wears =
    let last = ap (λ (limits : LimitsValue). limits.last_birth) (limits_along start es) in
    omega (arith, last)

-- the laws
pub reports_are_one : HartsAreDetermined → ReportsAreOne
reports_are_one law deltas image harts limits script one other built p wears q =
    let start : Moment = start_of deltas image harts limits in
    let same = follows_same law script.commands built (place_at start) p.entries q.entries p.listings q.listings p.place q.place p.follows q.follows (start_rests deltas image harts limits) p.legal q.legal (few_worn start p.entries wears) in
    p.text_is ∙ ap (λ (es : List Entry). report_bytes script.patches es p.listings (end_of start es).flat) same.0
    ∙ ap (λ (ls : List ListingValue). report_bytes script.patches q.entries ls (end_of start q.entries).flat) same.1 ∙ sym q.text_is

pub units_are_whole : HartsAreDetermined → UnitsAreWhole
units_are_whole law deltas image harts limits commands entries listings place built legal follows =
    follows_whole law commands built (place_at (start_of deltas image harts limits)) entries listings place follows (start_rests deltas image harts limits) legal
