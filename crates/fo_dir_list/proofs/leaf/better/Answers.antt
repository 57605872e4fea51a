use Rattle.std.proofs.Common.{sym, ap, subst, ◌∙◌}
use Rattle.fo_world.specs.Tree.{comes_before}
use Rattle.fo_dir_list.proofs.Walk.{kept_over, kept_best, best_here, IsNearer}
use Rattle.fo_dir_list.proofs.leaf.better.Goals as goal

pub returns-then-not-comes_before-clause-end : goal.returns-then-not-comes_before-clause-end
returns-then-not-comes_before-clause-end c = λ r more s here. (c.record_at-end.ensures r more s here).0

pub returns-then-not-comes_before-clause-best : goal.returns-then-not-comes_before-clause-best
returns-then-not-comes_before-clause-best c = λ front r more s here h.
    let name = (c.record_at-end.ensures r more s here).1 in
    kept_over c.args.leaf.now c.args.after.now front r c.args.best (ap (λ xs. comes_before c.args.after.now xs) (sym name) ∙ sym c.comes_before.ensures ∙ c.if-not-comes_before.true) h

pub returns-then-not-is_nearer-clause-end : goal.returns-then-not-is_nearer-clause-end
returns-then-not-is_nearer-clause-end c = λ r more s here. (c.record_at-end.ensures r more s here).0

pub returns-then-not-is_nearer-clause-best : goal.returns-then-not-is_nearer-clause-best
returns-then-not-is_nearer-clause-best c = λ front r more s here h.
    let name = (c.record_at-end.ensures r more s here).1 in
    kept_best c.args.leaf.now c.args.after.now front r c.args.best c.is_nearer.result (ap (λ xs. comes_before c.args.after.now xs) (sym name) ∙ sym c.comes_before.ensures ∙ c.if-not-comes_before.false) c.if-not-is_nearer.true
    (subst (λ xs. IsNearer c.args.leaf.now xs c.is_nearer.result c.args.best) name c.is_nearer.ensures) h

pub returns-clause-end : goal.returns-clause-end
returns-clause-end c = λ r more s here. (c.record_at-end.ensures r more s here).0

pub returns-clause-best : goal.returns-clause-best
returns-clause-best c = λ front r more s here h.
    let read = c.record_at-end.ensures r more s here in
    best_here c.args.leaf.now c.args.after.now front r c.args.best c.is_nearer.result c.args.at c.record_at-end.result.0 (ap (λ xs. comes_before c.args.after.now xs) (sym read.1) ∙ sym c.comes_before.ensures ∙ c.if-not-comes_before.false) c.if-not-is_nearer.false
    (subst (λ xs. IsNearer c.args.leaf.now xs c.is_nearer.result c.args.best) read.1 c.is_nearer.ensures) h (record { more = more; spelled = s; here = here; end = read.0 })
