-- A source is seen with a size past its end.
use Rattle.std.proofs.Common.{◌≡◌, ◌⊎◌, ◌+◌, ◌*◌, ◌/◌, ◌^◌, ◌<◌, ◌≤◌, ℕ, List, inl, inr, ⊎_elim, refl, sym, ◌∙◌, ap, subst, arith}
use Rattle.std.proofs.lemmas.Bool.{cases_lt}
use Rattle.fo_image.specs.declared.types.Label.{Label}
use Rattle.fo_image.specs.declared.types.Pointer.{Pointer}
use Rattle.fo_image.specs.declared.types.Pointer.TheVariants.{Nil, Local}
use Rattle.fo_ports.specs.State.{State, KeepsAll}
use Rattle.fo_ports.specs.Sources.{Made, Grows, depth_for}
use Rattle.fo_tree_read.specs.declared.tree.Tree.{Tree}
use Rattle.fo_tree_look.specs.declared.ways.Kept.{Kept}
use Rattle.fo_tree_look.specs.Source.{HasBlock, Over, IsTold, IsTopCurrent, leaves_of}
use Rattle.fo_tree_clear.specs.of_tree_down.Way.{IsTopOf, with_top}
use Rattle.fo_tree_clear.specs.of_tree_down.Clear.{EndsClear}
use Rattle.fo_tree_clear.proofs.of_tree_down.Join.{local_cases}
use Rattle.fo_tree_lift.specs.of_tree_raise.Levels.{grown}
use Rattle.fo_tree_lift.proofs.of_tree_raise.Adding.{adds_nothing}
use Rattle.fo_tree_lift.specs.of_tree_grow.Grow.{shaped}
use Rattle.fo_tree_lift.proofs.of_tree_grow.Sizing.{room_for, has_sized, has_back}
use Rattle.fo_tree_lift.proofs.of_tree_grow.Empty.{least_for}
use Rattle.fo_tree_clear.specs.Put.{byte_here}
use Rattle.fo_tree_clear.specs.Steps.{IsStep}
use Rattle.fo_tree_clear.proofs.Stepping.{cases_made}
use Rattle.fo_tree_append.specs.Append.{ended}
use Rattle.fo_tree_append.specs.Grown.{Sees, RaisedTo, GrownTo}
use Rattle.fo_tree_append.specs.Rises.{Rises}
use Rattle.fo_tree_append.proofs.Leaves.{way_after}
use Rattle.fo_tree_append.proofs.Raising.{IsLifted, over_mid, prepared_mid, clear_mid, bytes_mid}
use Rattle.fo_tree_append.proofs.Shaping.{Reshaped, way_sized_back, reshaped_within, reshaped_empty}
use Rattle.fo_tree_append.proofs.Values.{values_same}

-- a longer source has as many levels, or more
pub depth_more : (a z : ℕ) → z ≤ 2 ^ 47 → a < z → depth_for a ≤ depth_for z
depth_more a z low lt = ⊎_elim
    (λ less.
    let beyond : 8192 * 409 ^ depth_for z < a = (least_for a (omega (arith, lt, low))).least (depth_for z) less in
    let room = room_for z low in
    absurd (omega (arith, beyond, room, lt)))
    (λ ge. ge)
    (cases_lt (depth_for z) (depth_for a))

-- ---- no level was put

pub raised_none : (s : State) (t : Tree) (kept : List Kept) (z limit : ℕ) → Over s t kept limit → z ≤ limit → t.size < z → (t.depth ≡ depth_for z) ⊎ (t.top ≡ Nil) → EndsClear s t kept → RaisedTo s s t (ended t z t.top) kept
raised_none s t kept z limit over within past which clear =
    let low = over.low in
    let least = over.least in
    let more = depth_more t.size z (omega (arith, within, low)) past in
    let seen : Reshaped s t (shaped t (depth_for z) z) kept z = ⊎_elim
    (λ levels. reshaped_within s t kept z past (omega (arith, within, low)) levels clear)
    (λ empty. reshaped_empty s t kept z past empty)
    which in
    record {
      sees = record {
        deeper = omega (arith, least, more);
        over = λ l inside was. seen.over l inside was;
        still = seen.still;
        clear = seen.clear;
        ways = λ j b few way on. inl (seen.ways j b few on);
        owns = λ told b. (λ has. inl (seen.back b has), λ made. absurd (made.0 made.1));
        stays = λ told b has now. seen.stays b has;
        comes = λ told from h. h;
        only = λ told y x h. ⊎_elim (λ e. inl e) (λ ne. inr (h, ne)) (local_cases t.top y);
      };
      bytes = λ told k. seen.bytes k;
      adds = adds_nothing s;
      stead = λ b x made h. absurd (made.0 made.1);
      spent = inl (omega arith, λ top. record { at = top.at; is = top.is; current = top.current });
    }

-- ---- levels were put

pub raised_more : {s m : State} {t : Tree} {kept : List Kept} {levels : ℕ} {p : Pointer} {z : ℕ} → IsLifted s m t kept levels p z → s.spare ≤ m.spare + (levels + 1) → (IsTopCurrent s t → s.spare ≤ m.spare + levels) → RaisedTo s m t (ended t z p) kept
raised_more {s = s} {m = m} {t = t} {kept = kept} {levels = levels} {p = p} {z = z} x most less =
    subst (λ d. RaisedTo s m t (record t { depth = d; size = z; top = p }) kept) x.depth (record {
      sees = record {
        deeper = omega arith;
        over = λ limit within was. over_mid x limit within was.low;
        still = prepared_mid x;
        clear = clear_mid x;
        ways = λ j b few way on. x.lifts.ways.ways j b few way (way_sized_back m (grown t levels p) z (t.depth + levels) j b on);
        owns = λ told b. (λ has. (x.lifts.owns told b).0 (has_back m (grown t levels p) z b has), λ made. has_sized m (grown t levels p) z b ((x.lifts.owns told b).1 made));
        stays = λ told b has now. has_sized m (grown t levels p) z b (x.lifts.stays told b has now);
        comes = x.lifts.comes;
        only = x.lifts.only;
      };
      bytes = bytes_mid x;
      adds = x.lifts.adds;
      stead = x.lifts.instead;
      spent = inr (
        record { at = x.lifts.new.at; is = x.lifts.new.is; current = (x.lifts.adds.made x.lifts.new.at x.lifts.new.made).labelled.0 ∙ sym x.all.same_high },
        omega (arith, most),
        λ top. let le = less top in omega (arith, le),
      );
    })

-- ---- the end had not to be zeroed

pub grown_none : {s m : State} {t new : Tree} {kept : List Kept} → RaisedTo s m t new kept → (s.tells → (k : ℕ) → t.size ≤ k → byte_here s t kept k ≡ 0) → Rises t.tag (HasBlock s t) (HasBlock s t) s m → GrownTo s m t new kept
grown_none {s = s} {m = m} {t = t} {new = new} {kept = kept} x none rises = record {
  sees = x.sees;
  bytes = λ told limit. values_same (λ k. byte_here s t kept k) (λ k. byte_here m new kept k) t.size (λ k lt. x.bytes told k);
  zeros = λ told k past. x.bytes told k ∙ none told k past;
  rises = rises;
  spent = ⊎_elim (λ h. inl h.0) (λ h. let le = h.1 in inr (h.0, omega (arith, le))) x.spent;
}

-- ---- it was zeroed

pub record Zeroed (s m : State) (t : Tree) (kept : List Kept) (top : ℕ) : Type 0 where
  pub all : KeepsAll s m
  pub step : IsStep s m t kept (t.size / 8192) top
  pub top_of : IsTopOf s m t top
  pub current : IsTopCurrent m (with_top t top)
  pub over : (limit : ℕ) → Over s t kept limit → Over m (with_top t top) kept limit
  pub clear : EndsClear m (with_top t top) kept
  pub grows : (limit : ℕ) → Grows s m (leaves_of s t kept limit) (leaves_of m (with_top t top) kept limit)
  pub bytes : s.tells → (limit : ℕ) → (leaves_of m (with_top t top) kept limit).bytes ≡ (leaves_of s t kept limit).bytes
  pub zeros : (k : ℕ) → t.size ≤ k → byte_here m (with_top t top) kept k ≡ 0
  pub spare : s.spare ≤ m.spare + (t.depth + 1)
  pub told : s.tells → (b : ℕ) → HasBlock s t b → IsTold s t.top b

module _ {s m u : State} {t new : Tree} {kept : List Kept} {top : ℕ} (x : Zeroed s m t kept top) (y : RaisedTo m u (with_top t top) new kept) (rises : Rises t.tag (HasBlock s t) (HasBlock s t) s u) where
  mid : s.tells → m.tells
  mid told = x.all.still_tells.1 told

  made_first : (b : ℕ) → Made s m b → Made s u b
  made_first b made = (made.0, ap (λ (l : Label). l.state) (y.adds.labels b (λ n. n.0 made.1)) ∙ made.1)

  made_second : (b : ℕ) → Made m u b → Made s u b
  made_second b made = (λ e. made.0 (ap (λ (l : Label). l.state) (x.step.steps.others b (λ n. n.0 e)).label ∙ e), made.1)

  made_either : (b : ℕ) → Made s u b → Made s m b ⊎ Made m u b
  made_either b made = ⊎_elim
      (λ later. inr later)
      (λ not. inl (made.0, ap (λ (l : Label). l.state) (sym (y.adds.labels b not)) ∙ made.1))
      (cases_made m u b)

  sees : Sees s u t new kept
  sees = record {
    deeper = y.sees.deeper;
    over = λ limit within was. y.sees.over limit within (x.over limit was);
    still = λ limit o n was. y.sees.still limit o n ((x.grows limit).still o n was);
    clear = y.sees.clear;
    ways = λ j b few way on. ⊎_elim
        (λ old. ⊎_elim (λ was. inl (old.0, was)) (λ made. inr (made_first b made)) (x.step.ways j b (way old.0) old.1))
        (λ made. inr (made_second b made))
        (y.sees.ways j b few (λ lt. way_after s m t (with_top t top) kept refl refl (λ limit o n was. (x.grows limit).still o n was) x.clear j lt (way lt)) on);
    owns = λ told b. (
      λ has. ⊎_elim
          (λ old. ⊎_elim (λ was. inl was) (λ made. inr (made_first b made)) (((x.grows 0).owns told b).0 old))
          (λ made. inr (made_second b made))
          ((y.sees.owns (mid told) b).0 has),
      λ made. ⊎_elim
          (λ old. y.sees.stays (mid told) b (((x.grows 0).owns told b).1 old) ((x.step.steps.made b old).labelled.0 ∙ sym x.all.same_high))
          (λ later. (y.sees.owns (mid told) b).1 later)
          (made_either b made),
    );
    stays = λ told b has now. y.sees.stays (mid told) b (x.step.stays told b has now)
        (ap (λ (l : Label). l.epoch) (x.step.steps.others b (λ made. made.0 (x.told told b has).live)).label ∙ now ∙ sym x.all.same_high);
    comes = λ told from h. y.sees.comes (mid told) from (x.top_of.comes told from h);
    only = λ told b z h. ⊎_elim
        (λ own. inl own)
        (λ old. ⊎_elim
        (λ e. absurd (old.1 (ap (λ w. Local w) (sym e))))
        (λ was. inr was)
        (x.top_of.only told b z old.0))
        (y.sees.only (mid told) b z h);
  }

  pub grown_more : GrownTo s u t new kept
  grown_more = record {
    sees = sees;
    bytes = λ told limit. values_same (λ k. byte_here m (with_top t top) kept k) (λ k. byte_here u new kept k) t.size (λ k lt. y.bytes (mid told) k) ∙ x.bytes told limit;
    zeros = λ told k past. y.bytes (mid told) k ∙ x.zeros k past;
    rises = rises;
    spent =
        let first = x.spare in
        let deeper = y.sees.deeper in
        ⊎_elim
        (λ h. let le = h.0 in inr (h.1 x.current, omega (arith, first, le, deeper)))
        (λ h. let le = h.2 x.current in inr (h.0, omega (arith, first, le)))
        y.spent;
  }
