use Rattle.std.proofs.Common.{◌∙◌, ◌==◌, ap, is_some, List}
use Rattle.std.specs.List.{list_any}
use Rattle.wf_views.specs.declared.view.TextAt.{TextAt}
use Rattle.wf_views.specs.Views.{ViewValue}
use Rattle.wf_homes.specs.Kept.{text_frame}
use Rattle.wf_mapping.proofs.MissLemmas.{has_text}
use Rattle.wf_mapping.proofs.refusing.is_text_of.Goals as goal

pub returns : goal.returns
returns c =
    c.has_page.ensures ∙ ap (λ (text : List TextAt). list_any (λ other. other.page == c.args.page) text) c.deref.ensures.value
    ∙ has_text c.view.inside.text.items c.args.page ∙ ap (λ (view : ViewValue). is_some (text_frame view c.args.page)) c.view.view_is
