-- What the steps that set a length leave of all blocks.
use Rattle.std.proofs.Common.{◌≡◌, ◌*◌, ℕ, List, false, inl, inr, ⊎_elim, sym, ◌∙◌, ap, subst, arith}
use Rattle.fo_image.specs.declared.types.Label.{Label}
use Rattle.fo_crash.specs.declared.slot.Slot.TheVariants.{Entry as Head}
use Rattle.fo_ports.specs.State.{State}
use Rattle.fo_ports.specs.Sources.{Made}
use Rattle.fo_tree_read.specs.declared.tree.Tree.{Tree}
use Rattle.fo_tree_look.specs.declared.ways.Kept.{Kept}
use Rattle.fo_tree_look.specs.Source.{HasBlock}
use Rattle.fo_tree_set.specs.of_tree_down.Clear.{last_leaf}
use Rattle.fo_tree_set.specs.of_tree_link.Link.{entry_of}
use Rattle.fo_tree_set.proofs.of_tree_trim.Along.{Aside}
use Rattle.fo_tree_set.proofs.of_tree_append.Joining.{rises_changes}
use Rattle.fo_files_write.specs.of_tree_shorten.Shorten.{EntryAt, Links}
use Rattle.fo_tree_set.specs.Set.{CutsSettled, MayTrim, ShortensBy, LengthensBy, SetsBy}
use Rattle.fo_tree_set.proofs.Lengths.{shape_trims}
use Rattle.fo_files_write.specs.Alters.{Alters, any_kind}
use Rattle.fo_files_write.proofs.Steps.{keeps_two, alters_none, alters_joins, alters_readies, alters_rests, alters_cuts, alters_moves, alters_any}

none_made : (s u : State) → ((b : ℕ) → u.label b ≡ s.label b) → (b : ℕ) → Made s u b → ⊥
none_made s u same b made = made.0 (ap (λ (z : Label). z.state) (sym (same b)) ∙ made.1)

-- a link
pub alters_links : (s u : State) (t : Tree) (tag generation at j : ℕ) → Links s u t generation at j → Alters at j tag any_kind s u
alters_links s u t tag generation at j x =
    let same : (b : ℕ) → u.label b ≡ s.label b = λ b. x.frame.stays.labels b (λ n. n) in
    record {
      made = λ b made. absurd (none_made s u same b made);
      others = λ b no. let marks = x.frame.stays.marks b (λ n. n) in record { label = same b; is_pinned = marks.0; still_sealed = marks.1 };
      memory = λ b is no not. record { bytes = x.now.bytes b; slots = λ k. inl (x.now.others b k (inl (λ here. not (inl here))), λ h. x.order.goes_on b k (λ n. n) h) };
      beside = λ k ne. inl (x.now.others at k (inr ne), λ h. x.order.goes_on at k (λ n. n) h);
      bytes = x.now.bytes at;
      no_wait = x.no_wait;
      clearing = λ b k h. (none_made s u same b, (x.order.clearing b k h).1);
      usable = let spare = x.frame.uses.spare in let usable = x.frame.uses.usable in omega (arith, spare, usable);
      numbers = x.frame.numbers;
    }

-- a cut
cuts_settled : (v w : State) (t : Tree) (kept : List Kept) (generation at j : ℕ) → t.dir ≡ false → CutsSettled v w t kept generation at j → Alters at j t.tag any_kind v w
cuts_settled v w t kept generation at j plain x =
    let aside : Aside v w t kept (last_leaf t.size) (409 * t.depth) = record { cuts = x.cuts; all = x.all; deep = x.deep; ready = x.ready; current = x.current x.deep } in
    alters_any (alters_cuts v w t kept (last_leaf t.size) (409 * t.depth) generation at j plain aside x.entry)

-- what trims a source
pub alters_trims : (B : Type 0) (state : B → State) (old new : B) (t now : Tree) (kept : List Kept) (generation at j : ℕ) → t.dir ≡ false → EntryAt (state old) t generation at j → MayTrim B state old new t now kept generation at j → Alters at j t.tag any_kind (state old) (state new)
alters_trims B state old new t now kept generation at j plain entry x = ⊎_elim
    (λ none. subst (λ y. Alters at j t.tag any_kind (state old) (state y)) (sym none.0) (alters_none any_kind (state old) at j t.tag))
    (λ x.
    let r = x.rested in
    let both : Alters at j t.tag any_kind (state old) (state x.rest) = alters_joins r.kept
    (alters_any (alters_readies (state old) (state x.own) (state x.put) t generation at j x.top plain entry r.ready))
    (alters_rests any_kind (state x.put) (state x.rest) at j t.tag r.rests r.known r.blocks r.units.0 r.entry.is_pinned) in
    ⊎_elim
    (λ same. subst (λ y. Alters at j t.tag any_kind (state old) (state y)) (sym same) both)
    (λ c. alters_joins (keeps_two r.kept r.settled) both (subst (λ tag. Alters at j tag any_kind (state x.rest) (state new)) (ap (λ (y : Tree). y.tag) x.is) (cuts_settled (state x.rest) (state new) now kept generation at j (ap (λ (y : Tree). y.dir) x.is ∙ plain) c)))
    x.cut)
    x

shortens : (B : Type 0) (state : B → State) (old new : B) (t now : Tree) (kept : List Kept) (generation at j len : ℕ) → t.dir ≡ false → ShortensBy B state old new t now kept generation at j len → Alters at j t.tag any_kind (state old) (state new)
shortens B state old new t now kept generation at j len plain x =
    alters_joins x.all (alters_links (state old) (state x.put) _ t.tag generation at j x.links) (alters_trims B state x.put new _ now kept generation at j plain x.entry x.trims)

lengthens : (B : Type 0) (state : B → State) (old new : B) (t now : Tree) (kept : List Kept) (generation at j len : ℕ) → t.dir ≡ false → EntryAt (state old) t generation at j → LengthensBy B state old new t now kept generation at j len → Alters at j t.tag any_kind (state old) (state new)
lengthens B state old new t now kept generation at j len plain entry x =
    let first = alters_trims B state old x.middle t x.tree kept generation at j plain entry x.trims in
    ⊎_elim
    (λ none. subst (λ y. Alters at j t.tag any_kind (state old) (state y)) (sym none.0) first)
    (λ g.
    let m = state x.middle in
    let next : Alters at j x.tree.tag any_kind m (state new) = alters_moves any_kind at j m (state g.grown) (state new) x.tree generation (Head (entry_of now generation)) (HasBlock m x.tree) (HasBlock m x.tree) (λ b own. tt) x.entry (record {
      changes = rises_changes g.grows.rises;
      puts = g.links.now;
      here = _;
      put = _;
      removals = _;
      frame = g.links.frame;
      order = g.links.order;
      no_wait = g.links.no_wait;
    }) in
    alters_joins x.all first (subst (λ tag. Alters at j tag any_kind m (state new)) (shape_trims B state old x.middle t x.tree kept generation at j x.trims).tag next))
    x.grows

pub alters_sets : (B : Type 0) (state : B → State) (old new : B) (t now : Tree) (kept : List Kept) (generation at j len : ℕ) → t.dir ≡ false → EntryAt (state old) t generation at j → SetsBy B state old new t now kept generation at j len → Alters at j t.tag any_kind (state old) (state new)
alters_sets B state old new t now kept generation at j len plain entry x = ⊎_elim
    (λ none. subst (λ y. Alters at j t.tag any_kind (state old) (state y)) (sym none.0) (alters_none any_kind (state old) at j t.tag))
    (λ some. ⊎_elim
    (λ less. shortens B state old new t now kept generation at j len plain less)
    (λ more. lengthens B state old new t now kept generation at j len plain entry more)
    some)
    x
