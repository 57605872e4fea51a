-- A write and a sync keep what ties the fields of a cache to its device.
use Rattle.std.proofs.Common.{◌≡◌, ◌≢◌, ◌⊎◌, ⊎_elim, ℕ, suc, ◌-◌, ◌<◌, ◌≤◌, Bool, true, false, cond, List, [], ◌∷◌, ◌++◌, length, drop, get_or, Option, Some, None, Ok, Err, refl, sym, ap, ◌∙◌, subst, arith, get_or-set_other}
use Rattle.std.specs.Option.{option_map, option_map_or}
use Rattle.std.specs.List.{Contains}
use Rattle.std.proofs.lemmas.Bool.{cases_eq}
use Rattle.std.proofs.lemmas.List.{get_or_push, length_push}
use Rattle.fo_disk.specs.Disk.{Adds, Appends, Block, Content, DiskState, IsSync, IsWrite, Versions, latest_of, newest, versions_of}
use Rattle.fo_disk.specs.Disk.{Settles as Leaves}
use Rattle.fo_disk.specs.declared.disk.Failed.{Failed}
use Rattle.fo_disk.proofs.Images.{adds-count, adds-here, adds-other, appends-adds, newest-one, sure as no_flag}
use Rattle.fo_buffers.specs.declared.block.Buffer.{Buffer}
use Rattle.fo_buffers.specs.Held.{Held, block_in, held_at, settled}
use Rattle.fo_order.specs.declared.marks.Flags.{Flags}
use Rattle.fo_order.specs.declared.marks.Tried.{Tried}
use Rattle.fo_order.specs.declared.marks.Tried.TheVariants.{Settled, Written, Failed as Lost}
use Rattle.fo_order.specs.Flags.{settled_tried}
use Rattle.fo_order.specs.Keeps.{Turns}
use Rattle.fo_order.specs.Turns.{flag_at}
use Rattle.fo_labels.specs.Region.{Region}
use Rattle.fo_facts.specs.Known.{fact_at}
use Rattle.fo_mind.specs.Parts.{Parts}
use Rattle.fo_mind.specs.Turning.{KeepsTurn, Landed, Missed, Synced, is_changed}
use Rattle.fo_mind.proofs.Landing.{was_held}
use Rattle.fo_mind.proofs.Turning.{Settles, landed_here, landed_other, missed_here, missed_other, settles_of}
use Rattle.fo_cache.specs.Fits.{Fits, FitsAt}

never : {A : Type 0} → false ≡ true → A
never e = cc

not_settled : {A : Type 0} → Written ≡ Settled → A
not_settled e = cc

lost_settled : {A : Type 0} → Lost ≡ Settled → A
lost_settled e = cc

lost_written : {A : Type 0} → Lost ≡ Written → A
lost_written e = cc

settled_written : {A : Type 0} → Settled ≡ Written → A
settled_written e = cc

same_some : (x y : Buffer) → Some x ≡ Some y → x ≡ y
same_some x y e = cc

pub latest_push : (versions : Versions) (b : Block) → latest_of (versions ++ b ∷ []) ≡ b
latest_push versions b = get_or_push versions b [] _ (omega (arith, length_push versions b))

pub newest_alone : (versions : Versions) → 0 < length versions → newest versions ≡ latest_of versions ∷ []
newest_alone [] some = absurd (omega arith)
newest_alone (v ∷ []) some = refl
newest_alone (v ∷ w ∷ versions) some = further v (newest_alone (w ∷ versions) (omega arith))
  where
    further : (v : Block) → newest (w ∷ versions) ≡ latest_of (w ∷ versions) ∷ [] → newest (v ∷ w ∷ versions) ≡ latest_of (v ∷ w ∷ versions) ∷ []
    further v h =
        let e : length (v ∷ w ∷ versions) - 1 ≡ suc (length (w ∷ versions) - 1) = omega arith in
        ap (λ n. drop n (v ∷ w ∷ versions)) e ∙ h ∙ ap (λ n. get_or (v ∷ w ∷ versions) n [] ∷ []) (sym e)

-- equal values
pub fits_same : {b : ℕ} {vs ws : Versions} {f g : Flags} {o n : Option Buffer} {c d : List (ℕ × List ℕ)} {u v : Bool} → ws ≡ vs → g ≡ f → n ≡ o → d ≡ c → v ≡ u → FitsAt b vs f o c u → FitsAt b ws g n d v
fits_same {b} {vs} {ws} {f} {g} {o} {n} {c} {d} {u} {v} e1 e2 e3 e4 e5 h =
    subst (λ (x : Versions). FitsAt b x g n d v) (sym e1)
    (subst (λ (x : Flags). FitsAt b vs x n d v) (sym e2)
    (subst (λ (x : Option Buffer). FitsAt b vs f x d v) (sym e3)
    (subst (λ (x : List (ℕ × List ℕ)). FitsAt b vs f o x v) (sym e4)
    (subst (λ (x : Bool). FitsAt b vs f o c x) (sym e5) h))))

-- ---- room is made

pub fits_kept : {p r : Parts} {disk : Content} {unsure : List Bool} → KeepsTurn p r → Fits (record p { disk = disk }) unsure → Fits (record r { disk = disk }) unsure
fits_kept {p} {r} {disk} {unsure} k fits = subst (λ (z : Parts). Fits (record z { disk = disk }) unsure) (sym k.rest) (record { each = fits.each })

-- ---- a write that answered Ok

module _ {at : ℕ} {bytes : List ℕ} {s t : DiskState} {p r : Parts} (within : at < length p.turns.flags) where
  pub fits_landed : {u : Unit} → IsWrite {E = Failed} at bytes (Ok u) s t → Landed at p r → Some bytes ≡ option_map block_in (held_at p.held at) → Fits (record p { disk = s.holds }) s.unsure → Fits (record r { disk = t.holds }) t.unsure
  fits_landed w l is fits = record {
    each = λ b le lt. ⊎_elim
        (λ e. subst (λ n. FitsAt n (versions_of t.holds n) (flag_at r.turns n) (held_at r.held n) r.held.clean (get_or t.unsure n false)) (sym e) (here (subst (λ n. n < length s.holds) e (inside b lt))))
        (λ ne. fits_same (adds-other adds b ne)
        (ap (λ (x : Turns). flag_at x b) l.turns ∙ landed_other p.turns at within b ne)
        (kept.others b ne)
        kept.clean
        (ap (λ (us : List Bool). get_or us b false) w.unsure ∙ get_or-set_other s.unsure at b false false ne)
        (fits.each b (subst (λ (x : Region). x.first ≤ b) (ap (λ (x : Parts). x.region) l.rest) le) (inside b lt)))
        (cases_eq b at);
  }
    where
      adds : Adds at bytes s.holds t.holds
      adds = w.holds

      kept : Settles at (fact_at p.facts at).linked p.held r.held
      kept = settles_of at (fact_at p.facts at).linked p.held r.held l.held

      inside : (b : ℕ) → b < length t.holds → b < length s.holds
      inside b lt = let n = adds-count adds in omega (arith, n, lt)

      tried : (flag_at r.turns at).tried ≡ Written
      tried = ap (λ (x : Turns). (flag_at x at).tried) l.turns ∙ ap (λ (f : Flags). f.tried) (landed_here p.turns at within)

      block : (x : Buffer) → held_at r.held at ≡ Some x → bytes ≡ x.block
      block x e =
          let w = was_held (fact_at p.facts at).linked (held_at p.held at) x (sym kept.here ∙ e) in
          same_bytes w.0 (is ∙ ap (option_map block_in) w.1) ∙ sym w.2
        where
          same_bytes : (y : Buffer) → Some bytes ≡ option_map block_in (Some y) → bytes ≡ y.block
          same_bytes y e = cc

      unheld : (l : Bool) (o : Option Buffer) → Some bytes ≡ option_map block_in o → cond l (option_map_or (λ (x : Buffer). Some (settled x)) o None) o ≡ None → ⊥
      unheld true (Some x) e n = some_none (settled x) n
        where
          some_none : (x : Buffer) → Some x ≡ None → ⊥
          some_none x e = cc
      unheld false (Some x) e n = some_none x n
        where
          some_none : (x : Buffer) → Some x ≡ None → ⊥
          some_none x e = cc
      unheld l None e n = nothing e
        where
          nothing : Some bytes ≡ option_map block_in None → ⊥
          nothing e = cc

      here : at < length s.holds → FitsAt at (versions_of t.holds at) (flag_at r.turns at) (held_at r.held at) r.held.clean (get_or t.unsure at false)
      here lt =
          let is_now = adds-here adds lt in
          record {
            some = subst (λ (vs : Versions). 0 < length vs) (sym is_now) (let n = length_push (drop adds.gone (versions_of s.holds at)) bytes in omega (arith, n));
            settled = λ e. not_settled (sym tried ∙ e);
            sure = λ e. no_flag s.unsure t.unsure at w.unsure;
            held = λ x e clean. ap latest_of is_now ∙ latest_push (drop adds.gone (versions_of s.holds at)) bytes ∙ block x e;
            listed = λ c none e. absurd (unheld (fact_at p.facts at).linked (held_at p.held at) is (sym kept.here ∙ none));
          }

  -- ---- a write that failed

  pub fits_missed : (e : Failed) → IsWrite at bytes (Err e) s t → Missed at p r → is_changed (held_at p.held at) ≡ true → Fits (record p { disk = s.holds }) s.unsure → Fits (record r { disk = t.holds }) t.unsure
  fits_missed e w m dirty fits = record {
    each = λ b le lt. ⊎_elim
        (λ e. subst (λ n. FitsAt n (versions_of t.holds n) (flag_at r.turns n) (held_at r.held n) r.held.clean (get_or t.unsure n false)) (sym e)
        (here (subst (λ n. n < length s.holds) e (inside b lt)) (fits.each at (subst (λ n. p.region.first ≤ n) e (begins b le)) (subst (λ n. n < length s.holds) e (inside b lt)))))
        (λ ne. fits_same (others b ne)
        (ap (λ (x : Turns). flag_at x b) m.turns ∙ missed_other p.turns at within b ne)
        (ap (λ (h : Held). held_at h b) same)
        (ap (λ (h : Held). h.clean) same)
        (ap (λ (us : List Bool). get_or us b false) w.unsure ∙ get_or-set_other s.unsure at b true false ne)
        (fits.each b (begins b le) (inside b lt)))
        (cases_eq b at);
  }
    where
      left : (t.holds ≡ s.holds) ⊎ Appends at bytes s.holds t.holds
      left = w.holds

      same : r.held ≡ p.held
      same = ap (λ (x : Parts). x.held) m.rest

      begins : (b : ℕ) → r.region.first ≤ b → p.region.first ≤ b
      begins b le = subst (λ (x : Region). x.first ≤ b) (ap (λ (x : Parts). x.region) m.rest) le

      as_long : length t.holds ≡ length s.holds
      as_long = ⊎_elim (λ e. ap length e) (λ a. adds-count (appends-adds a)) left

      inside : (b : ℕ) → b < length t.holds → b < length s.holds
      inside b lt = let n = as_long in omega (arith, n, lt)

      others : (b : ℕ) → b ≢ at → versions_of t.holds b ≡ versions_of s.holds b
      others b ne = ⊎_elim (λ e. ap (λ (c : Content). versions_of c b) e) (λ a. adds-other (appends-adds a) b ne) left

      tried : (flag_at r.turns at).tried ≡ Lost
      tried = ap (λ (x : Turns). (flag_at x at).tried) m.turns ∙ ap (λ (f : Flags). f.tried) (missed_here p.turns at within)

      changed : (o : Option Buffer) (x : Buffer) → is_changed o ≡ true → o ≡ Some x → x.dirty ≡ false → ⊥
      changed (Some y) x d e clean = never (sym clean ∙ sym (ap (λ (b : Buffer). b.dirty) (same_some y x e)) ∙ d)
      changed None x d e clean = never d

      nothing : (o : Option Buffer) → is_changed o ≡ true → o ≡ None → ⊥
      nothing o d e = never (sym (ap is_changed e) ∙ d)

      some_now : at < length s.holds → 0 < length (versions_of s.holds at) → 0 < length (versions_of t.holds at)
      some_now lt some = ⊎_elim
          (λ e. subst (λ (c : Content). 0 < length (versions_of c at)) (sym e) some)
          (λ a. subst (λ (vs : Versions). 0 < length vs) (sym (adds-here (appends-adds a) lt)) (let n = length_push (drop (appends-adds a).gone (versions_of s.holds at)) bytes in omega (arith, n)))
          left

      here : at < length s.holds → FitsAt at (versions_of s.holds at) (flag_at p.turns at) (held_at p.held at) p.held.clean (get_or s.unsure at false)
          → FitsAt at (versions_of t.holds at) (flag_at r.turns at) (held_at r.held at) r.held.clean (get_or t.unsure at false)
      here lt was = record {
        some = some_now lt was.some;
        settled = λ e. lost_settled (sym tried ∙ e);
        sure = λ e. lost_written (sym tried ∙ e);
        held = λ x e clean. absurd (changed (held_at p.held at) x dirty (sym (ap (λ (h : Held). held_at h at) same) ∙ e) clean);
        listed = λ c none e. absurd (nothing (held_at p.held at) dirty (sym (ap (λ (h : Held). held_at h at) same) ∙ none));
      }

-- ---- a sync that answered Ok

module _ {s t : DiskState} {p r : Parts} where
  pub fits_synced : {u : Unit} → IsSync {E = Failed} (Ok u) s t → Synced p r → Fits (record p { disk = s.holds }) s.unsure → Fits (record r { disk = t.holds }) t.unsure
  fits_synced y c fits = record {
    each = λ b le lt.
        let inside : b < length s.holds = let n = settles.count in omega (arith, n, lt) in
        one b inside (fits.each b (subst (λ (x : Region). x.first ≤ b) (ap (λ (x : Parts). x.region) c.rest) le) inside);
  }
    where
      settles : Leaves s.unsure s.holds t.holds
      settles = y.holds

      same : r.held ≡ p.held
      same = ap (λ (x : Parts). x.held) c.rest

      flags : (b : ℕ) → (flag_at r.turns b).tried ≡ settled_tried (flag_at p.turns b).tried
      flags b = ap (λ (f : Flags). f.tried) (c.turns.each b)

      latest : (b : ℕ) (u : Bool) → 0 < length (versions_of s.holds b) → latest_of (cond u (versions_of s.holds b) (newest (versions_of s.holds b))) ≡ latest_of (versions_of s.holds b)
      latest b true some = refl
      latest b false some = ap latest_of (newest_alone (versions_of s.holds b) some)

      still : (b : ℕ) (u : Bool) → 0 < length (versions_of s.holds b) → 0 < length (cond u (versions_of s.holds b) (newest (versions_of s.holds b)))
      still b true some = some
      still b false some = subst (λ (vs : Versions). 0 < length vs) (sym (newest_alone (versions_of s.holds b) some)) (omega arith)

      alone : (b : ℕ) (x : Tried) → FitsAt b (versions_of s.holds b) (flag_at p.turns b) (held_at p.held b) p.held.clean (get_or s.unsure b false) → (flag_at p.turns b).tried ≡ x → settled_tried x ≡ Settled
          → (u : Bool) → get_or s.unsure b false ≡ u → length (cond u (versions_of s.holds b) (newest (versions_of s.holds b))) ≡ 1
      alone b Settled was is e true flag = was.settled is
      alone b Settled was is e false flag = ap length (newest-one (versions_of s.holds b) (was.settled is)) ∙ was.settled is
      alone b Written was is e true flag = never (sym (was.sure is) ∙ flag)
      alone b Written was is e false flag = ap length (newest_alone (versions_of s.holds b) was.some)
      alone b Lost was is e u flag = lost_settled e

      unwritten : (x : Tried) → settled_tried x ≡ Written → ⊥
      unwritten Settled e = settled_written e
      unwritten Written e = settled_written e
      unwritten Lost e = lost_written e

      one : (b : ℕ) → b < length s.holds → FitsAt b (versions_of s.holds b) (flag_at p.turns b) (held_at p.held b) p.held.clean (get_or s.unsure b false)
          → FitsAt b (versions_of t.holds b) (flag_at r.turns b) (held_at r.held b) r.held.clean (get_or t.unsure b false)
      one b lt was =
          let now = settles.each b lt in
          record {
            some = subst (λ (vs : Versions). 0 < length vs) (sym now) (still b (get_or s.unsure b false) was.some);
            settled = λ e. ap length now ∙ alone b (flag_at p.turns b).tried was refl (sym (flags b) ∙ e) (get_or s.unsure b false) refl;
            sure = λ e. absurd (unwritten (flag_at p.turns b).tried (sym (flags b) ∙ e));
            held = λ x e clean. ap latest_of now ∙ latest b (get_or s.unsure b false) was.some ∙ was.held x (sym (ap (λ (h : Held). held_at h b) same) ∙ e) clean;
            listed = λ c none e. ap latest_of now ∙ latest b (get_or s.unsure b false) was.some ∙ was.listed c (sym (ap (λ (h : Held). held_at h b) same) ∙ none) (subst (λ (h : Held). Contains h.clean (b, c)) same e);
          }
