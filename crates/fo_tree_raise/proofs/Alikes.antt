-- What the entry of a source would lead to, once a new top was raised.
use Rattle.std.proofs.Common.{◌≡◌, ◌≢◌, ◌⊎◌, ◌+◌, ℕ, suc, [], ◌∷◌, inl, inr, refl, sym, ◌∙◌, subst, arith}
use Rattle.fo_image.specs.declared.types.Entry.{Entry}
use Rattle.fo_image.specs.declared.types.Kind.TheVariants.{Dir, Root}
use Rattle.fo_image.specs.declared.types.Label.{Label}
use Rattle.fo_image.specs.declared.types.Pointer.TheVariants.{Local}
use Rattle.fo_crash.specs.declared.slot.Slot.TheVariants.{Entry as Head}
use Rattle.fo_crash.specs.declared.place.Place.{Place}
use Rattle.fo_crash.specs.Images.{Content, Image, Reaches, target, to_block}
use Rattle.fo_crash.specs.Steps.{AddsBlock}
use Rattle.fo_crash.specs.Places.{place, RanksFall}
use Rattle.fo_ports.specs.State.{State, IsRooted}
use Rattle.fo_tree_read.specs.declared.tree.Tree.{Tree}
use Rattle.fo_tree_read.specs.Tree.{kind_at}
use Rattle.fo_tree_down.specs.of_tree_own.Alike.{LeadsAlike}
use Rattle.fo_tree_down.specs.Alike.{IsFormed, HoldsEntry, EntryAlike, KeepsAlike}
use Rattle.fo_tree_down.proofs.of_tree_own.Alikes.{Aside, alike_nowhere, alike_aside, alike_raised, put_aside, raised_only, below_apart, entry_raised}
use Rattle.fo_tree_down.proofs.of_tree_own.Ways.{AllPlaced, found_stands}
use Rattle.fo_tree_down.proofs.Alikes.{holds_shaped}
use Rattle.fo_tree_raise.specs.Raise.{Raises, raised}
use Rattle.fo_tree_raise.proofs.Raising.{Lifted, raises}

-- What is known of images, and of what came.
pub record Imaged (t : Tree) (top : ℕ) (content : Content) (s m u : State) : Type 0 where
  pub first : AllPlaced s.stands s.may_leave
  pub then : AllPlaced u.stands u.may_leave
  pub falls : (image : Image) → u.may_leave image → RanksFall u.stands image
  pub told : (image : Image) → u.may_leave image → u.tells
  pub gives : AddsBlock s.tops top content s.may_leave m.may_leave
  pub none : (j b : ℕ) → target (content.slot j) ≢ Local b
  pub apart : (image : Image) → u.may_leave image → Reaches image (to_block 1) top → ⊥

module _ {t : Tree} {l : Label} {top n : ℕ} {beside : Image → Type 0} {content : Content} {s m u : State} (x : Lifted t l top n beside s m u) (w : Imaged t top content s m u) where
  step : Raises t top s u
  step = raises x

  module _ (told : s.tells) {at i : ℕ} (holds : HoldsEntry s t at i) where
    ne_top : at ≢ top
    ne_top e = (step.was.1 told).1 holds.there (subst (λ y. s.stands y holds.there) e holds.stands)

    reached : Reaches u.now (to_block 1) at
    reached = (step.reached told at).0 holds.in_tree

    free : u.covered at → ⊥
    free = step.only at holds.uncovered

    stays : u.stands at holds.there
    stays = step.places told at holds.there ne_top free (1, inl x.end.active, reached) holds.stands

    on : HoldsEntry u (raised t top) at i
    on = holds_shaped {t = t} (t.depth + 1) t.size (Local top) (record {
      there = holds.there;
      stands = stays;
      names = holds.names;
      below = holds.below;
      above = holds.above;
      in_tree = reached;
      uncovered = free;
    })

    -- the top that was stands below the new one
    top_stands : (c : ℕ) → t.top ≡ Local c → u.stands c (place (kind_at t.dir t.depth) t.tag 0 (t.rank + t.depth))
    top_stands c e =
        let under = (x.lifting.can.under c e).told told in
        let there : Place = place (kind_at t.dir t.depth) t.tag 0 (t.rank + t.depth) in
        let ne : c ≢ top = λ h. (step.was.1 told).1 there (subst (λ y. s.stands y there) h under.stands) in
        let bare : u.covered c → ⊥ = step.only c ((under.brings.each c (record { path = []; leads = refl })).2) in
        let rooted : IsRooted u c = (top, inr step.is.2, record { path = 0 ∷ []; leads = step.leads ∙ e }) in
        step.places told c there ne bare rooted under.stands

    each : EntryAlike s t at i → (f : Entry) → IsFormed (raised t top) f → f.top ≡ Local top → LeadsAlike u.may_leave u.now at i (Head f)
    each alike f formed to =
        let e : Entry = record f { depth = t.depth; top = t.top } in
        let aside : Aside top s.may_leave m.may_leave = record {
          before = λ image is. let d = x.lifting.came.before image is in (d.other, d.was, d.same);
          apart = λ image is r. x.lifting.came.unreached image is 1 x.lifting.laws.active r;
        } in
        let given : LeadsAlike m.may_leave m.now at i (Head e) = alike_nowhere {stands = s.stands} w.first
        (λ image is p stands. (step.was.1 told).1 p stands)
        (λ image was c h. (place (kind_at t.dir t.depth) t.tag 0 (t.rank + t.depth), ((x.lifting.can.under c h).told told).stands))
        aside ((x.lifting.came.others at ne_top).slots i) (alike e (formed.0, refl, formed.2) refl) in
        let led : LeadsAlike u.may_leave u.now at i (Head e) = alike_aside (put_aside w.apart x.images)
        (λ image is. below_apart (place (kind_at t.dir (suc t.depth)) t.tag 0 (t.rank + suc t.depth)) x.end.one (w.then.each image is) (w.falls image is) (step.own.told (w.told image is)).stands
        (λ c h. (place (kind_at t.dir t.depth) t.tag 0 (t.rank + t.depth), top_stands c h, omega arith)))
        (x.puts.others at i (inl ne_top)) given in
        let more : f.depth ≡ suc t.depth = let is = formed.1 in omega (arith, is) in
        alike_raised to (raised_only w.none w.gives x.images) (λ image p is found.
        let there = x.end.one.each at p.place holds.there (found_stands (w.then.super_at image is) (w.then.each image is) found) stays in
        entry_raised p i e f (subst (λ (q : Place). (q.kind ≡ Dir 0) ⊎ (q.kind ≡ Root)) (sym there) holds.names) refl more refl) led

  pub keeps_alike : KeepsAlike s u t (raised t top)
  keeps_alike = record { each = λ told at i holds alike. (on told holds, each told holds alike) }
