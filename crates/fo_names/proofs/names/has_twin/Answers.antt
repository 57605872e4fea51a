use Rattle.std.proofs.Common.{◌≡◌, ℕ, ◌/◌, Bool, ◌&&◌, ◌||◌, nat_eq, nat_lt, List, [], ◌∷◌, map, refl, sym, ap, ◌∙◌, rules, tests}
use Rattle.std.specs.List.{list_any}
use Rattle.std.proofs.lemmas.Iterator.{YieldsList-from_slice}
use Rattle.std.proofs.lemmas.Iterator.Search.{any_from_yields_List}
use Rattle.fo_names.specs.Names.{taken}
use Rattle.fo_names.proofs.names.has_twin.Goals as goal

-- an element of the mapped list passes where the element that it comes from does
any_mapped : {A B : Type 0} (p : B → Bool) (h : A → B) (xs : List A) → list_any p (map h xs) ≡ list_any (λ x. p (h x)) xs
any_mapped p h [] = refl
any_mapped p h (x ∷ xs) = ap (λ b. p (h x) || b) (any_mapped p h xs)

pub returns : goal.returns
returns c =
    let list = c.args.list.now in
    let epoch = c.args.epoch in
    let minute = c.args.time / 60 in
    any_from_yields_List (λ (o : ℕ × ℕ). nat_eq (o.1 / 60) minute && nat_lt o.0 epoch) _ _ c.any.result c.any.ensures.ran (YieldsList-from_slice list c.iter.ensures.rest) (λ x b q k. search (rules, tests))
    ∙ sym (any_mapped (λ t. nat_eq (t.time / 60) minute && nat_lt t.epoch epoch) taken list)
