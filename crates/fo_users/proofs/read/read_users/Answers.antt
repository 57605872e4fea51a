use Rattle.std.proofs.Common.{[], ◌∷◌, sym, ◌∙◌, ap}
use Rattle.std.proofs.lemmas.Bool.{both_ways}
use Rattle.std.proofs.lemmas.Bool.Decides.{Decides-eqb}
use Rattle.std.proofs.lemmas.Slice.Eq.{strip_suffix_is}
use Rattle.std.proofs.lemmas.Result.{err_from_is_err_and}
use Rattle.fo_users.specs.Table.{is_table}
use Rattle.fo_users.proofs.Lines.{table_spelled, table_read, table_ends}
use Rattle.fo_users.proofs.read.read_users.Goals as goal

pub returns-in_default-clause-only : goal.returns-in_default-clause-only
returns-in_default-clause-only c =
    let ends = strip_suffix_is Decides-eqb c.args.bytes.now (10 ∷ []) c.strip_suffix.result c.strip_suffix.ensures.cases in
    let none = rw c.in_default.is at ends in
    λ t s. absurd (table_ends c.args.bytes.now t s none)

pub returns-in_err-users-clause-only : goal.returns-in_err-users-clause-only
returns-in_err-users-clause-only c =
    let p = err_from_is_err_and c.from_residual.result c.from_residual.ensures.1 in
    let ends = strip_suffix_is Decides-eqb c.args.bytes.now (10 ∷ []) c.strip_suffix.result c.strip_suffix.ensures.cases in
    let cut = rw c.in-Some.is at ends in
    λ t s. rw (p.1) (p.2 ∙ c.in_err-users.ensures.only t (table_read c.args.bytes.now c.in-Some.lines.now t cut s))

pub returns-then-not-whole-clause-only : goal.returns-then-not-whole-clause-only
returns-then-not-whole-clause-only c =
    let ends = strip_suffix_is Decides-eqb c.args.bytes.now (10 ∷ []) c.strip_suffix.result c.strip_suffix.ensures.cases in
    let cut = rw c.in-Some.is at ends in
    λ t s.
    let same = c.in_ok-users.ensures.only t (table_read c.args.bytes.now c.in-Some.lines.now t cut s) in
    absurd (both_ways (is_table t) (ap is_table (sym (c.as_slice.ensures.value ∙ same)) ∙ sym c.in_ok-whole.ensures ∙ c.if-not-whole.true) s.whole)

pub returns-clause-found : goal.returns-clause-found
returns-clause-found c =
    let ends = strip_suffix_is Decides-eqb c.args.bytes.now (10 ∷ []) c.strip_suffix.result c.strip_suffix.ensures.cases in
    let cut = rw c.in-Some.is at ends in
    rw c.new.ensures (table_spelled c.args.bytes.now c.in-Some.lines.now c.in_ok-users.users.items cut c.in_ok-users.ensures.found (ap is_table (sym c.as_slice.ensures.value) ∙ sym c.in_ok-whole.ensures ∙ c.if-not-whole.false))

pub returns-clause-only : goal.returns-clause-only
returns-clause-only c =
    let ends = strip_suffix_is Decides-eqb c.args.bytes.now (10 ∷ []) c.strip_suffix.result c.strip_suffix.ensures.cases in
    let cut = rw c.in-Some.is at ends in
    λ t s. c.new.ensures ∙ c.in_ok-users.ensures.only t (table_read c.args.bytes.now c.in-Some.lines.now t cut s)
