use Rattle.std.proofs.Common.{◌≡◌, ◌∙◌, ◌++◌, ℕ, List, Option, sym, ap}
use Rattle.std.proofs.lemmas.List.{append-nil}
use Rattle.wf_outside.specs.declared.sizes.TheConstants.{PAGE_WORDS}
use Rattle.wf_tables.specs.Parts.{uppers_listed, view_line}
use Rattle.wf_tables.specs.Tables.{node_lines, node_listed}
use Rattle.wf_tables.proofs.PartLemmas.{uppers_all, view_all}
use Rattle.wf_tables.proofs.listing.view_listing.Goals.{in-Some+in_ok-push_middles, in_default}
use Rattle.wf_tables.proofs.listing.view_listing.Goals as goal

pub returns : goal.returns
returns c = λ homes is.
    let g = c.args.generation in
    let lines = node_lines homes c.args.flat.now g 2 0 in
    let first : c.push_view.new.out.items ≡ view_line g c.args.home =
    c.in_ok-push_view.ensures ∙ ap (λ (ns : List ℕ). ns ++ view_line g c.args.home) c.new-out.ensures.items in
    elim c.match-home.branch [
      | in-Some+in_ok-push_middles w ↦ (rw w.out-is (
          w.in_ok-push_middles.ensures homes is
          ∙ ap (λ (ns : List ℕ). ns ++ uppers_listed homes c.args.flat.now g 1 0 w.in-Some.root PAGE_WORDS) first
          ∙ ap (λ (ns : List ℕ). view_line g c.args.home ++ ns) (uppers_all homes c.args.flat.now g 1 0 w.in-Some.root)
          ∙ ap (λ (o : Option ℕ). view_line g c.args.home ++ node_listed lines o) (sym w.in-Some.is)
          ∙ sym (view_all lines g c.args.home)))
      | in_default w ↦ (rw w.out-is (
          first
          ∙ sym (append-nil (view_line g c.args.home))
          ∙ ap (λ (o : Option ℕ). view_line g c.args.home ++ node_listed lines o) (sym w.in_default.is)
          ∙ sym (view_all lines g c.args.home)))
    ]
