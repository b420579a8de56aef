use Rattle.std.proofs.Common.{◌≡◌, None, subst, rules, IfSome, ◌<◌, ◌-◌, length}
use Rattle.elf_link.proofs.PairLemmas.{high_at-below, high_at-from, high_at-named}
use Rattle.elf_link.specs.Links.{LinkValue, relas_in}
use Rattle.elf_link.specs.Values.{high_at}
use Rattle.elf_link.specs.Kept.{high_from}
use Rattle.elf_read.specs.Relas.{symbol_number}
use Rattle.elf_link.proofs.linking.Linking.high_at.Goals as goal

pub returns-then-label-self-clause-value : goal.returns-then-label-self-clause-value
returns-then-label-self-clause-value c =
    let link : LinkValue = record { object = c.self.inside.object.now; places = c.self.inside.places.now; names = c.self.inside.names.now; section = c.self.inside.section } in
    subst (λ (l : LinkValue). None ≡ high_at l c.args.label) c.self.view_is (high_at-below link c.self.inside.place c.args.label c.self.invariant.placed c.if-label-self.true)

pub returns-clause-named : goal.returns-clause-named
returns-clause-named c =
    let link : LinkValue = record { object = c.self.inside.object.now; places = c.self.inside.places.now; names = c.self.inside.names.now; section = c.self.inside.section } in
    let found : c.copied.result ≡ high_from (relas_in link) (c.args.label - c.self.inside.place) = search rules in
    subst (λ (l : LinkValue). IfSome c.copied.result (λ high. symbol_number high < length l.object.symbols)) c.self.view_is
    (high_at-named link c.args.label c.copied.result c.self.invariant.named (high_at-from link c.self.inside.place c.args.label c.copied.result c.self.invariant.placed c.if-label-self.false found))
