use Rattle.std.proofs.Common.{◌≡◌, true, MatchOption, option_copied, sym, ap, ◌∙◌, subst}
use Rattle.fo_image.specs.declared.record.Record.{Record}
use Rattle.fo_world.specs.Tree.{comes_before}
use Rattle.fo_dir_plain.proofs.Listing.{comes_first}
use Rattle.fo_dir_plain.proofs.list.better.Goals as goal

pub returns : goal.returns
returns c = λ front a.
    let later : comes_before c.args.after.now c.args.found.now.name ≡ true = ap (comes_before c.args.after.now) (sym c.as_slice.ensures) ∙ sym c.comes_before.ensures ∙ c.if-not-comes_before.false in
    let lesser = subst (λ name. MatchOption (option_copied c.args.best) (c.is_lesser.result ≡ true) (λ (old : Record). c.is_lesser.result ≡ comes_before name old.name)) c.as_slice-2.ensures c.is_lesser.ensures in
    comes_first c.args.after.now front (option_copied c.args.best) c.args.found.now c.is_lesser.result later lesser c.if-not-is_lesser.false a
