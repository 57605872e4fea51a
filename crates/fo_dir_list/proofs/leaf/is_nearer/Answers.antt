use Rattle.std.proofs.Common.{◌≡◌, true, MatchOption, sym, ap, subst, ◌∙◌}
use Rattle.fo_image.specs.declared.record.Record.{Record}
use Rattle.fo_world.specs.Tree.{comes_before}
use Rattle.fo_dir_list.specs.Next.{StandsAt}
use Rattle.fo_dir_list.proofs.leaf.is_nearer.Goals as goal

pub returns-in-Some : goal.returns-in-Some
returns-in-Some c = subst (λ o. MatchOption o (c.comes_before.result ≡ true) (λ place. (r : Record) → StandsAt c.args.leaf.now place r → c.comes_before.result ≡ comes_before c.args.name.now r.name)) (sym c.in-Some.is)
    (λ r stands. c.comes_before.ensures ∙ ap (λ xs. comes_before c.args.name.now xs) (c.record_at.ensures r stands.more stands.spelled stands.here).1)
