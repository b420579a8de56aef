use Rattle.std.proofs.Common.{◌∙◌, sym}
use Rattle.wf_tables.proofs.RenewalLemmas.{gone_none, gone_whole, gone_worn}
use Rattle.wf_tables.proofs.renewal.give_up_page.Goals as goal

pub returns-in_ok-push : goal.returns-in_ok-push
returns-in_ok-push c = λ before homes noted.
    gone_worn c.args.index.now c.remove-home.new.self c.args.new.now.items c.push.new.self.items before c.args.page c.in-Some.frame homes c.args.worn noted
    c.remove-home.ensures.updates.0 (sym c.remove-home.ensures.value ∙ c.in-Some.is) c.if-worn.true c.in_ok-push.ensures.items

pub returns-else-worn : goal.returns-else-worn
returns-else-worn c = λ before homes noted.
    gone_whole c.args.index.now c.remove-home.new.self c.args.new.now.items before c.args.page homes c.args.worn noted c.remove-home.ensures.updates.0 c.if-worn.false

pub returns-in_default : goal.returns-in_default
returns-in_default c = λ before homes noted.
    gone_none c.args.index.now c.remove-home.new.self c.args.new.now.items before c.args.page homes c.args.worn noted c.remove-home.ensures.updates.0
    (sym c.remove-home.ensures.value ∙ c.in_default.is)
