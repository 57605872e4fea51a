-- A source's entry was put.
use Rattle.std.proofs.Common.{◌≡◌, ◌≢◌, ◌⊎◌, ◌+◌, ℕ, List, length, inl, inr, ⊎_elim, refl, sym, ◌∙◌, ap, subst}
use Rattle.std.proofs.lemmas.Bool.{cases_eq}
use Rattle.fo_image.specs.declared.types.Kind.TheVariants.{Dir}
use Rattle.fo_image.specs.declared.types.Pointer.TheVariants.{Local}
use Rattle.fo_crash.specs.declared.slot.Slot.TheVariants.{Entry as Head}
use Rattle.fo_crash.specs.declared.place.Place.{Place}
use Rattle.fo_crash.specs.Images.{Reaches, target, to_block}
use Rattle.fo_crash.specs.Steps.{PutsSlot}
use Rattle.fo_crash.specs.Places.{place}
use Rattle.fo_crash.proofs.Reach.{reach_aside, reaches_on, reaches_from, reaches_joins}
use Rattle.fo_ports.specs.State.{State, IsRooted, KeepsAll, Frame, Hangs}
use Rattle.fo_ports.specs.Sources.{StaysInPlace, StaysReady, Undisturbed, ComesFor}
use Rattle.fo_tree_read.specs.declared.tree.Tree.{Tree}
use Rattle.fo_tree_read.specs.Tree.{kind_at}
use Rattle.fo_tree_look.specs.declared.ways.Kept.{Kept}
use Rattle.fo_tree_look.specs.Source.{HasBlock, Over, leaves_of}
use Rattle.fo_tree_look.proofs.Still.{Says, over_stays}
use Rattle.fo_tree_down.proofs.of_tree_own.Link.{Laws}
use Rattle.fo_tree_down.proofs.Join.{local_cases}
use Rattle.fo_tree_open.proofs.Opened.{place_named, hangs_below}
use Rattle.fo_tree_open.specs.Open.{NamesRank}
use Rattle.fo_tree_link.specs.Link.{entry_of}
use Rattle.fo_tree_link.specs.Change.{HangsInTree}
use Rattle.fo_tree_link.proofs.Walks.{from_slot, walks_until, not_inner}
use Rattle.fo_tree_link.proofs.May.{Linking, there, top_never, old_never}

pub record WasPut (s u : State) (t : Tree) (kept : List Kept) (limit generation at i n : ℕ) : Type 0 where
  pub before : Linking s t kept limit generation at i
  pub says : s.tells → Says s
  pub puts : PutsSlot at i (Head (entry_of t generation)) s.now u.now
  pub frame : Frame (λ b. b ≡ at) (λ b. (b ≡ at) ⊎ (t.top ≡ Local b)) n s u
  pub hangs : Hangs at i (Head (entry_of t generation)) s u
  pub all : KeepsAll s u
  pub end : Laws u
  pub one_stays : u.covered 1 → ⊥

module _ {s u : State} {t : Tree} {kept : List Kept} {limit generation at i n : ℕ} (x : WasPut s u t kept limit generation at i n) where
  -- ---- what is to come in the place of another

  pub put_end : (b : ℕ) → t.top ≡ Local b → u.apart b → ⊥
  put_end b is = (x.hangs.put b is).0

  pub comes_end : ComesFor u t.top t.top
  comes_end = inl (refl, put_end)

  pub only_end : (y z : ℕ) → u.instead y z → s.instead y z × (t.top ≡ Local y → ⊥)
  only_end y z h = ⊎_elim
      (λ top. absurd ((x.hangs.put y top).1 z h))
      (λ other. (
        ⊎_elim
            (λ here. subst (λ b. s.instead b z) (sym here) (⊎_elim
            (λ old. old)
            (λ raised. absurd (not_inner (s.label at).kind i x.before.leaf raised.0.1))
            (x.hangs.raised z (subst (λ b. u.instead b z) here h))))
            (λ away. (x.frame.stays.instead y z (λ e. e) (λ g. ⊎_elim away other g)).0 h)
            (cases_eq y at),
        other,
      ))
      (local_cases t.top y)

  -- ---- blocks that are ready

  pub ready_end : (b : ℕ) → (b ≢ at) ⊎ ((s.label b).kind ≡ Dir 0) → s.pinned b → StaysReady s u b
  ready_end b which pinned = record {
    is_pinned = (x.frame.stays.marks b (λ e. e)).0 pinned;
    same_label = x.frame.stays.labels b (λ e. e);
    same_slots = ⊎_elim (λ ne. inr (λ j. x.puts.others b j (inl ne))) (λ leaf. inl leaf) which;
    same_length = ap length (x.puts.bytes b);
  }

  module _ (told : s.tells) where
    -- ---- what hangs from block 1

    pub in_tree_end : (b : ℕ) → (Reaches s.now ((s.now at).slot i) b → ⊥) → Reaches s.now (to_block 1) b → Reaches u.now (to_block 1) b
    in_tree_end b not r = ⊎_elim (λ on. on) (λ under. absurd (not under)) (walks_until s.now u.now at i x.puts.others r.path (to_block 1) b r.leads)

    pub at_end : Reaches u.now (to_block 1) at
    at_end = in_tree_end at (old_never x.before told) (x.before.told told).in_tree

    pub linked_end : (b : ℕ) → Reaches s.now (Head (entry_of t generation)) b → Reaches u.now (to_block 1) b
    linked_end b r =
        let f = from_slot s.now (Head (entry_of t generation)) b r in
        let on : Reaches u.now (to_block f.block) b = reach_aside s.now u.now (λ y. y ≡ at) f.block (λ y j ne. sym (x.puts.others y j (inl ne)))
        (λ y e far. top_never x.before told f.block f.is (subst (λ z. Reaches s.now (to_block f.block) z) e far)) b f.reaches in
        reaches_joins (reaches_on i at_end (ap target x.puts.here ∙ f.is)) on

    -- each block of the source does
    pub owned_end : (b : ℕ) → HasBlock u t b → Reaches u.now (to_block 1) b
    owned_end b own =
        let e = Head (entry_of t generation) in
        reaches_joins at_end (reaches_from i (subst (λ q. Reaches u.now q b) (sym x.puts.here) (hangs_below u t e refl own.down own.index b own.is)))

    -- ---- what stays in place

    free_end : (b : ℕ) → Reaches u.now (to_block 1) b → u.covered b → ⊥
    free_end b r = ⊎_elim
        (λ one h. x.one_stays (subst (λ y. u.covered y) one h))
        (λ ne. (x.end.live b (x.all.still_tells.1 told) ne r).2)
        (cases_eq b 1)

    top_end : (b : ℕ) → t.top ≡ Local b → u.stands b (place (kind_at t.dir t.depth) t.tag 0 (t.rank + t.depth))
    top_end b top =
        let p = there x.before told in
        subst (λ q. u.stands b q) (place_named p.0 i (entry_of t generation) t.rank ((x.before.told told).ranked p.0 p.1)) (x.hangs.place told b p.0 p.1 top)

    places_end : (b : ℕ) (p : Place) → (u.covered b → ⊥) → IsRooted u b → s.stands b p → u.stands b p
    places_end b p free r stands = ⊎_elim
        (λ here. subst (λ y. u.stands y p) (sym here) (x.hangs.at_place told p (λ h. free (subst (λ y. u.covered y) (sym here) h)) (subst (λ y. s.stands y p) here stands)))
        (λ away. ⊎_elim
        (λ top.
        let was = x.before.over.hangs.told told b top in
        let same : p ≡ place (kind_at t.dir t.depth) t.tag 0 (t.rank + t.depth) = x.before.laws.one.each b p (place (kind_at t.dir t.depth) t.tag 0 (t.rank + t.depth)) stands was.0 in
        subst (λ q. u.stands b q) (sym same) (top_end b top))
        (λ other. x.frame.stays.places told b p (λ e. e) (λ g. ⊎_elim away other g) free r stands)
        (local_cases t.top b))
        (cases_eq b at)

    pub in_place_end : (b : ℕ) → (b ≢ at) ⊎ ((s.label b).kind ≡ Dir 0) → Reaches u.now (to_block 1) b → StaysInPlace s u b
    in_place_end b which r = record {
      same_slots = ⊎_elim (λ ne. inr (λ j. x.puts.others b j (inl ne))) (λ leaf. inl leaf) which;
      same_length = ap length (x.puts.bytes b);
      same_label = x.frame.stays.labels b (λ e. e);
      same_places = λ was p stands. places_end b p (free_end b r) (1, inl x.end.active, r) stands;
      in_tree = λ was. r;
      hung = λ was. inl r;
      linked = λ was. inr r;
      uncovered = λ free. free_end b r;
      instead = λ y h. (only_end y b h).0;
    }

    ranked_end : (p : Place) → u.stands at p → NamesRank p.kind p.rank i t.dir t.rank
    ranked_end p stands =
        let q = there x.before told in
        let is : q.0 ≡ p = x.end.one.each at q.0 p (places_end at q.0 (free_end at at_end) (1, inl x.end.active, at_end) q.1) stands in
        subst (λ (r : Place). NamesRank r.kind r.rank i t.dir t.rank) is ((x.before.told told).ranked q.0 q.1)

    pub again_end : ((y z : ℕ) → s.instead y z → t.top ≡ Local y) → HangsInTree u t at i
    again_end alone = record {
      in_tree = at_end;
      ranked = ranked_end;
      owned = owned_end;
      none = λ y z h. let was = only_end y z h in was.1 (alone y z was.0);
    }

    undisturbed : Undisturbed (leaves_of s t kept limit) t.size s u
    undisturbed = record {
      each = λ b own.
          let r = hangs_below s t (Head (entry_of t generation)) refl own.down own.index b own.is in
          let f = from_slot s.now (Head (entry_of t generation)) b r in
          (in_place_end b (inl (λ e. top_never x.before told f.block f.is (subst (λ y. Reaches s.now (to_block f.block) y) e f.reaches))) (linked_end b r), inl (x.puts.bytes b));
    }

  pub over_end : Over u t kept limit
  over_end = over_stays s u t kept limit x.all x.before.over x.says (λ told. undisturbed told)
