use Rattle.std.proofs.Common.{rules, ◌≡◌, ◌≤◌, ◌+◌, length, ap, arith}
use Rattle.wf_flat.specs.Counts.{used_of}
use Rattle.wf_flat.specs.State.{FlatState}
use Rattle.wf_homes.specs.Homes.{tree_nodes}
use Rattle.wf_start.specs.Start.{nodes_first}
use Rattle.wf_begin.proofs.LaidLemmas.{laid_stand, used_first, view_few, view_rising, view_used}
use Rattle.wf_begin.proofs.booting.lay_out.Goals as goal

pub first_view-requires : goal.first_view-requires
first_view-requires c =
    let used : used_of c.args.flat.now ≡ nodes_first c.args.flat.now c.args.version.now + length (tree_nodes c.args.version.now.reach) = used_first c.args.flat.now c.args.version.now c.args.harts c.requires in
    let fits : used_of c.args.flat.now ≤ c.args.flat.now.limits.frames = c.requires.fits in
    let most : c.args.flat.now.limits.frames ≤ 65536 = search rules in
    omega arith

pub first_words-requires-clause-few : goal.first_words-requires-clause-few
first_words-requires-clause-few c =
    let limits : c.flat.inside.limits.frames ≡ c.args.flat.now.limits.frames = ap (λ (s : FlatState). s.limits.frames) c.flat.view_is in
    let text : c.deref.result.now ≡ c.args.version.now.text = search rules in
    let pages : c.deref-2.result.now ≡ c.args.flat.now.pages = search rules in
    let few : length c.args.version.now.text + length c.args.flat.now.pages + length c.in_ok-view.view.nodes.items ≤ c.args.flat.now.limits.frames = view_few c.args.flat.now c.args.version.now c.args.harts c.requires c.in_ok-view.view c.in_ok-view.ensures in
    rw (text, pages, limits) few

pub first_words-requires-clause-rising : goal.first_words-requires-clause-rising
first_words-requires-clause-rising c = view_rising c.args.flat.now c.args.version.now c.args.harts c.requires c.in_ok-view.view c.in_ok-view.ensures

pub first_records-requires-clause-first : goal.first_records-requires-clause-first
first_records-requires-clause-first c = c.in_ok-view.ensures.generation

pub first_records-requires-clause-nodes : goal.first_records-requires-clause-nodes
first_records-requires-clause-nodes c = view_used c.args.flat.now c.args.version.now c.args.harts c.requires c.in_ok-view.view c.in_ok-view.ensures

pub first_records-requires-clause-fits : goal.first_records-requires-clause-fits
first_records-requires-clause-fits c = c.requires.fits

pub first_records-requires-clause-small : goal.first_records-requires-clause-small
first_records-requires-clause-small c =
    let fits : used_of c.args.flat.now ≤ c.args.flat.now.limits.frames = c.requires.fits in
    let most : c.args.flat.now.limits.frames ≤ 65536 = search rules in
    omega arith

pub first_records-requires-clause-rising : goal.first_records-requires-clause-rising
first_records-requires-clause-rising c = c.requires.tidy.ordered.pages

pub returns : goal.returns
returns c =
    let frames : c.flat.inside.limits.frames ≡ c.args.flat.now.limits.frames = ap (λ (s : FlatState). s.limits.frames) c.flat.view_is in
    let text : c.deref.result.now ≡ c.args.version.now.text = search rules in
    let pages : c.deref-2.result.now ≡ c.args.flat.now.pages = search rules in
    let some : 1 ≤ c.args.flat.now.limits.last_birth = search rules in
    laid_stand c.args.flat.now c.args.version.now c.args.harts c.requires c.in_ok-view.view c.in_ok-view.ensures _ _ _ c.in_ok-words.words c.in_ok-records.records frames text pages c.in_ok-words.ensures c.in_ok-records.ensures some
