use Rattle.std.proofs.Common.{sym, ◌∙◌}
use Rattle.fo_users.proofs.Lines.{no_line, bad_line, line_found, line_same}
use Rattle.fo_users.proofs.read.read_line.Goals as goal

pub returns-in_default-clause-only : goal.returns-in_default-clause-only
returns-in_default-clause-only c =
    λ u s. absurd (no_line c.args.bytes.now u (sym c.in_ok-user.ensures ∙ c.in_default.is) s)

pub returns-then-not-is_line-clause-only : goal.returns-then-not-is_line-clause-only
returns-then-not-is_line-clause-only c =
    λ u s. absurd (bad_line c.args.bytes.now c.in-Some.user u (sym c.in_ok-user.ensures ∙ c.in-Some.is) (sym c.is_line.ensures ∙ c.if-not-is_line.true) s)

pub returns-clause-found : goal.returns-clause-found
returns-clause-found c =
    line_found c.args.bytes.now c.in-Some.user (sym c.in_ok-user.ensures ∙ c.in-Some.is) (sym c.is_line.ensures ∙ c.if-not-is_line.false)

pub returns-clause-only : goal.returns-clause-only
returns-clause-only c =
    λ u s. line_same c.args.bytes.now c.in-Some.user u (sym c.in_ok-user.ensures ∙ c.in-Some.is) s
