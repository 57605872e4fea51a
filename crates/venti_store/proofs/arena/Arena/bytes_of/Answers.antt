use Rattle.std.proofs.Common.{◌∙◌, ◌≤◌, ⊎_elim, List, ℕ, length, sym, ap, subst}
use Rattle.venti_store.specs.declared.recent.Recalled.{Recalled}
use Rattle.venti_store.proofs.Puts.{ok_weaker}
use Rattle.venti_store.proofs.Recents.{found_bytes, found_fits, not_found, none_is}
use Rattle.venti_store.proofs.arena.Arena.bytes_of.Goals as goal

pub returns-in-Some-clause-read : goal.returns-in-Some-clause-read
returns-in-Some-clause-read g c stored synced k =
    ok_weaker c.copy_of.result _ _ (λ v is.
    is
    ∙ c.deref.ensures.value
    ∙ ap (λ (r : Recalled). r.bytes.items) c.index.ensures
    ∙ found_bytes _ stored c.args.place c.args.self.now.shelf.recent.blocks.items c.in-Some.i c.index.result.now (sym c.find.ensures.found ∙ c.in-Some.is) k.recalls)
    c.copy_of.ensures.copied

pub returns-in-Some-clause-short : goal.returns-in-Some-clause-short
returns-in-Some-clause-short g c =
    ok_weaker c.copy_of.result _ _ (λ v is.
    subst (λ (bytes : List ℕ). length bytes ≤ 8192) (sym (is ∙ c.deref.ensures.value ∙ ap (λ (r : Recalled). r.bytes.items) c.index.ensures))
    (found_fits c.args.place c.args.self.now.shelf.recent.blocks.items c.in-Some.i c.index.result.now (sym c.find.ensures.found ∙ c.in-Some.is) c.args.self.now.shelf.recent.fit))
    c.copy_of.ensures.copied

pub returns-clause-at_hand : goal.returns-clause-at_hand
returns-clause-at_hand g c memory = ⊎_elim
    (λ waits. c.read_place.ensures.waits waits)
    (λ recent. absurd (not_found c.args.place c.args.self.now.shelf.recent.blocks.items (sym c.find.ensures.found ∙ none_is c.find.result c.in_default.not-Some) recent))
    memory
