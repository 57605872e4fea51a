-- The ways from a source down to its blocks.
use Rattle.std.proofs.Common.{◌≡◌, ◌≢◌, ◌∙◌, inl, inr, ⊎_elim, ℕ, suc, ◌-◌, ◌*◌, ◌/◌, ◌%◌, ◌<◌, Bool, true, false, cond, bytes_eq, List, [], take, drop, refl, sym, ap, subst, arith}
use Rattle.std.proofs.lemmas.Bool.{lt-ltb}
use Rattle.fo_image.specs.declared.types.Score.{Score}
use Rattle.fo_image.specs.declared.types.Kind.{Kind}
use Rattle.fo_image.specs.declared.types.Pointer.{Pointer}
use Rattle.fo_image.specs.declared.types.Pointer.TheVariants.{Nil, Score as ToScore}
use Rattle.fo_image.specs.Format.{kind_code}
use Rattle.fo_crash.specs.declared.slot.Slot.{Slot}
use Rattle.fo_crash.specs.declared.slot.Slot.TheVariants.{Pointer as To}
use Rattle.fo_crash.specs.Images.{Link, target, meant, way, kind_below}
use Rattle.fo_vacput.specs.declared.types.TheConstants.{EMPTY}
use Rattle.fo_vacput.specs.declared.types.VacEntry.{VacEntry}
use Rattle.fo_vacput.specs.Cut.{tail_of, grown}
use Rattle.venti_store.specs.Held.{IsNamed}
use Rattle.venti_store.specs.Arena.{IsDamaged}
use Rattle.fo_vac_open.specs.Held.{held, pointer_to, slot_in, block_held}
use Rattle.fo_vac_open.specs.Tree.{no_image}
use Rattle.fo_vac_walk.specs.declared.block.Spot.{Spot}
use Rattle.fo_vac_walk.specs.declared.block.Got.{Got}
use Rattle.fo_vac_walk.specs.declared.error.WalkError.{WalkError}
use Rattle.fo_vac_walk.specs.declared.error.WalkError.TheVariants.{Damaged, ArenaRead, Memory}
use Rattle.fo_vac_walk.specs.Walk.{Holding, blocks_of, follows, next, kind_at, top_of, IsSourceOf, StandsAt, IsPointers, IsForm, IsBad, Breaks, lost, bad, below, Leads, Found, Spoils, GotIs, GetSpoils}
use Rattle.fo_vac_walk.proofs.Ways.{one_down}

nil_score : (score : Score) → Nil ≡ ToScore score → ⊥
nil_score score e = cc

-- nothing is broken below a link that leads nowhere
pub none_breaks : (h : Holding) (holder at : ℕ) (w : Link) → target w.slot ≡ Nil → Breaks h holder w at → ⊥
none_breaks h _ _ _ nil (lost holder w score leads none) = nil_score score (sym nil ∙ leads)
none_breaks h _ _ _ nil (bad holder at w score leads stands is) = nil_score score (sym nil ∙ leads)
none_breaks h _ _ _ nil (below holder here i at w score leads stands b) = nil_score score (sym nil ∙ leads)

-- below a link that leads nowhere no slot stands
pub none_below : (h : Holding) (w : Link) (i : ℕ) → target w.slot ≡ Nil → (next h w i).slot ≡ To Nil
none_below h w i nil = ap (λ (p : Pointer). (meant (blocks_of h) no_image w.kind p).slot i) nil

pub nil_pointer : (score : List ℕ) → bytes_eq score EMPTY.0 ≡ true → pointer_to score ≡ Nil
nil_pointer score e = ap (λ b. cond b Nil (ToScore (record { 0 = score }))) e

pub some_pointer : (score : Score) → bytes_eq score.0 EMPTY.0 ≡ false → pointer_to score.0 ≡ ToScore score
some_pointer score e = ap (λ b. cond b Nil (ToScore score)) e

score_nil : (score : Score) (p : Pointer) → p ≡ ToScore score → p ≢ Nil
score_nil score p e nil = nil_score score (sym nil ∙ e)

-- ---- pointer blocks

slot_pointer : (dir : Bool) (level : ℕ) (block : List ℕ) (i : ℕ) → i < 409 → slot_in (kind_at dir (suc level)) block i ≡ To (pointer_to (take 20 (drop (20 * i) block)))
slot_pointer true level block i lt = ap (λ b. cond b (To (pointer_to (take 20 (drop (20 * i) block)))) (To Nil)) (lt-ltb i 409 lt)
slot_pointer false level block i lt = ap (λ b. cond b (To (pointer_to (take 20 (drop (20 * i) block)))) (To Nil)) (lt-ltb i 409 lt)

kind_down : (dir : Bool) (level : ℕ) (s : Slot) → kind_below (kind_at dir (suc level)) s ≡ kind_at dir level
kind_down true level s = refl
kind_down false level s = refl

form_pointers : (dir : Bool) (level : ℕ) (bytes : List ℕ) → IsForm (kind_at dir (suc level)) bytes → IsPointers bytes
form_pointers true level bytes form = form
form_pointers false level bytes form = form

-- ---- ways

-- the top of a source
pub here_found : (h : Holding) (w : Link) (holder : ℕ) (e : VacEntry) (k : ℕ) (spot : Spot) → IsSourceOf w e → pointer_to spot.score.0 ≡ top_of e → spot.holder ≡ holder → Found h w holder e 0 k spot
here_found h w holder e k spot is top held_by = record {
  leads = is.leads ∙ sym top;
  kind = λ some. let none : e.depth ≡ e.depth - 0 = omega arith in is.kind (λ nil. some (top ∙ nil)) ∙ ap (kind_at e.dir) none;
  chain = λ at b. subst (λ x. Breaks h x w at) held_by b;
}

-- no block is below one that is nowhere
pub nil_found : (h : Holding) (w : Link) (holder : ℕ) (e : VacEntry) (down k : ℕ) (spot : Spot) → Found h w holder e down (k / 409) spot → bytes_eq spot.score.0 EMPTY.0 ≡ true → Found h w holder e (suc down) k spot
nil_found h w holder e down k spot f nil =
    let no : pointer_to spot.score.0 ≡ Nil = nil_pointer spot.score.0 nil in
    let at_nil : target (follows h w (way (suc down) k [])).slot ≡ Nil = ap (λ (v : Link). target v.slot) (one_down h w down k) ∙ ap target (none_below h (follows h w (way down (k / 409) [])) (k % 409) (f.leads ∙ no)) in
    record {
      leads = at_nil ∙ sym no;
      kind = λ some. absurd (some no);
      chain = λ at b. absurd (none_breaks h spot.holder at (follows h w (way (suc down) k [])) at_nil b);
    }

-- a block at the end of a way
module _ (h : Holding) (w : Link) (holder : ℕ) (e : VacEntry) (down k : ℕ) (spot : Spot) (kind : ℕ) (f : Found h w holder e down k spot) (some : bytes_eq spot.score.0 EMPTY.0 ≡ false) (kind_is : kind ≡ kind_code (kind_at e.dir (e.depth - down))) where
  abbrev v : Link
  v = follows h w (way down k [])

  pub way_leads : target v.slot ≡ ToScore spot.score
  way_leads = f.leads ∙ some_pointer spot.score some

  pub way_kind : v.kind ≡ kind_at e.dir (e.depth - down)
  way_kind = f.kind (score_nil spot.score _ (some_pointer spot.score some))

  pub way_code : kind ≡ kind_code v.kind
  way_code = kind_is ∙ sym (ap kind_code way_kind)

  stands_there : (at : ℕ) → StandsAt h spot.holder spot.score.0 kind at → StandsAt h spot.holder spot.score.0 (kind_code v.kind) at
  stands_there at s = subst (λ c. StandsAt h spot.holder spot.score.0 c at) way_code s

  way_lost : (at : ℕ) → ¬ IsNamed h.lines spot.score.0 kind → at ≡ spot.holder → Breaks h holder w at
  way_lost at none is = subst (λ x. Breaks h holder w x) (sym is) (f.chain spot.holder (lost spot.holder v spot.score way_leads (subst (λ c. ¬ IsNamed h.lines spot.score.0 c) way_code none)))

  pub way_bad : (at : ℕ) → StandsAt h spot.holder spot.score.0 kind at → IsBad h v.kind spot.score.0 → Breaks h holder w at
  way_bad at s is = f.chain at (bad spot.holder at v spot.score way_leads (stands_there at s) is)

  pub way_below : (at i : ℕ) → StandsAt h spot.holder spot.score.0 kind at → Leads h holder w at (next h v i)
  way_below at i s x b = f.chain x (below spot.holder at i x v spot.score way_leads (stands_there at s) b)

  pub way_spoils : (x : WalkError) → GetSpoils h spot.holder spot.score.0 kind x → Spoils h w holder x
  way_spoils (Damaged at) is = ⊎_elim
      (λ l. way_lost at l.0 l.1)
      (λ d. way_bad at d.0 (inl (subst (λ c. IsDamaged h.lines h.stored spot.score.0 c) way_code d.1)))
      is
  way_spoils ArenaRead is = tt
  way_spoils Memory is = tt

-- one level down from a block of pointers
pub next_found : (h : Holding) (w : Link) (holder : ℕ) (e : VacEntry) (down level k : ℕ) (above spot : Spot) (kind : ℕ) (got : Got)
    → Found h w holder e down (k / 409) above → bytes_eq above.score.0 EMPTY.0 ≡ false → kind ≡ kind_code (kind_at e.dir (e.depth - down)) → e.depth - down ≡ suc level → GotIs h above.holder above.score.0 kind got
    → spot.holder ≡ got.at → spot.score.0 ≡ take 20 (drop (20 * (k % 409)) (grown (tail_of kind) 8192 got.bytes.items)) → Found h w holder e (suc down) k spot
next_found h w holder e down level k above spot kind got f some kind_is inner g at_is score_is =
    let v : Link = follows h w (way down (k / 409) []) in
    let i = k % 409 in
    let lt : i < 409 = omega arith in
    let kind_of : v.kind ≡ kind_at e.dir (suc level) = way_kind h w holder e down (k / 409) above kind f some kind_is ∙ ap (kind_at e.dir) inner in
    let code : kind ≡ kind_code (kind_at e.dir (suc level)) = kind_is ∙ ap (λ l. kind_code (kind_at e.dir l)) inner in
    let slot_of : (next h v i).slot ≡ To (pointer_to (take 20 (drop (20 * i) (block_held h.lines h.stored (kind_code (kind_at e.dir (suc level))) above.score)))) =
    ap (λ (p : Pointer). (meant (blocks_of h) no_image v.kind p).slot i) (way_leads h w holder e down (k / 409) above kind f some kind_is)
    ∙ ap (λ (c : Kind). slot_in c (block_held h.lines h.stored (kind_code c) above.score) i) kind_of
    ∙ slot_pointer e.dir level (block_held h.lines h.stored (kind_code (kind_at e.dir (suc level))) above.score) i lt in
    let block_is : block_held h.lines h.stored (kind_code (kind_at e.dir (suc level))) above.score ≡ grown (tail_of kind) 8192 got.bytes.items =
    sym (ap (λ c. block_held h.lines h.stored c above.score) code) ∙ sym (ap (grown (tail_of kind) 8192) g.bytes) in
    let there : follows h w (way (suc down) k []) ≡ next h v i = one_down h w down k in
    let less : e.depth - suc down ≡ level = omega (arith, inner) in
    record {
      leads = ap (λ (x : Link). target x.slot) there ∙ ap target slot_of ∙ ap (λ b. pointer_to (take 20 (drop (20 * i) b))) block_is ∙ ap pointer_to (sym score_is);
      kind = λ is. ap (λ (x : Link). x.kind) there ∙ ap (λ (c : Kind). kind_below c (next h v i).slot) kind_of ∙ kind_down e.dir level (next h v i).slot ∙ sym (ap (kind_at e.dir) less);
      chain = λ at b. way_below h w holder e down (k / 409) above kind f some kind_is got.at i g.at at (subst (λ x. Breaks h x (next h v i) at) at_is (subst (λ x. Breaks h spot.holder x at) there b));
    }

-- pointers that are not of their form
pub pointers_spoil : (h : Holding) (w : Link) (holder : ℕ) (e : VacEntry) (down level k : ℕ) (above : Spot) (kind : ℕ) (got : Got) (x : WalkError)
    → Found h w holder e down (k / 409) above → bytes_eq above.score.0 EMPTY.0 ≡ false → kind ≡ kind_code (kind_at e.dir (e.depth - down)) → e.depth - down ≡ suc level → GotIs h above.holder above.score.0 kind got
    → x ≡ Damaged got.at → ¬ IsPointers got.bytes.items → Spoils h w holder x
pointers_spoil h w holder e down level k above kind got x f some kind_is inner g is none =
    let v : Link = follows h w (way down (k / 409) []) in
    let kind_of : v.kind ≡ kind_at e.dir (suc level) = way_kind h w holder e down (k / 409) above kind f some kind_is ∙ ap (kind_at e.dir) inner in
    let code : kind ≡ kind_code v.kind = way_code h w holder e down (k / 409) above kind f some kind_is in
    let form : IsForm v.kind (held h.lines h.stored above.score.0 (kind_code v.kind)) → ⊥ = λ p. none (subst IsPointers (sym (g.bytes ∙ ap (held h.lines h.stored above.score.0) code)) (form_pointers e.dir level _ (subst (λ c. IsForm c (held h.lines h.stored above.score.0 (kind_code v.kind))) kind_of p))) in
    subst (Spoils h w holder) (sym is) (way_bad h w holder e down (k / 409) above kind f some kind_is got.at g.at (inr form))
