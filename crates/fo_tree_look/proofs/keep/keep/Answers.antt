use Rattle.std.proofs.Common.{List, [], ◌∷◌, sym, ◌∙◌, subst}
use Rattle.fo_tree_look.specs.declared.ways.Kept.{Kept}
use Rattle.fo_tree_look.specs.Source.{IsKept, AllHeld, Extends}
use Rattle.fo_tree_look.proofs.Shown.{held_on, extends_none}
use Rattle.fo_tree_look.proofs.Held.{any_kept, kept_last, held_last}
use Rattle.fo_tree_look.proofs.keep.keep.Goals as goal

pub returns-then-is_kept-clause-ready : goal.returns-then-is_kept-clause-ready
returns-then-is_kept-clause-ready g c =
    subst (λ (xs : List Kept). IsKept xs c.args.score.now c.args.kind) c.deref.ensures.value
    (any_kept c.deref.result.now c.args.score.now c.args.kind (sym c.is_kept.ensures ∙ c.if-is_kept.true))

pub returns-then-is_kept-clause-more : goal.returns-then-is_kept-clause-more
returns-then-is_kept-clause-more g c = extends_none (g.met.B.Blocks.keeps_all c.args.on.now c.args.on.now (g.met.B.Blocks.keeps_at_once c.args.on.now)) c.args.kept.now.items c.requires.held

pub returns-in_err-fetch-clause-more : goal.returns-in_err-fetch-clause-more
returns-in_err-fetch-clause-more g c = extends_none (g.met.B.Blocks.keeps_all c.args.on.now c.fetch.new.self c.fetch.ensures.keeps) c.args.kept.now.items c.requires.held

pub returns-in_err-add-clause-more : goal.returns-in_err-add-clause-more
returns-in_err-add-clause-more g c =
    subst (λ (xs : List Kept). Extends (g.B.Blocks.state c.fetch.new.self) c.args.kept.now.items xs) (sym c.in_err-add.ensures.nothing)
    (extends_none (g.met.B.Blocks.keeps_all c.args.on.now c.fetch.new.self c.fetch.ensures.keeps) c.args.kept.now.items c.requires.held)

pub returns-clause-ready : goal.returns-clause-ready
returns-clause-ready g c =
    let x : Kept = record { score = c.args.score.now; kind = c.args.kind; bytes = c.fetch.new.into } in
    subst (λ (xs : List Kept). IsKept xs c.args.score.now c.args.kind) (sym c.in_ok-add.ensures.added) (kept_last c.args.kept.now.items x)

pub returns-clause-more : goal.returns-clause-more
returns-clause-more g c =
    let x : Kept = record { score = c.args.score.now; kind = c.args.kind; bytes = c.fetch.new.into } in
    let s = g.B.Blocks.state c.fetch.new.self in
    let kept = c.args.kept.now.items in
    let all = g.met.B.Blocks.keeps_all c.args.on.now c.fetch.new.self c.fetch.ensures.keeps in
    record {
      more = x ∷ [];
      is = c.in_ok-add.ensures.added;
      held = subst (λ (xs : List Kept). AllHeld s xs) (sym c.in_ok-add.ensures.added)
          (held_last s kept x (held_on all kept c.requires.held) (λ told. all.same_held c.args.score.now c.args.kind ∙ c.in_ok-fetch.ensures.bytes (all.still_tells.0 told)));
    }
