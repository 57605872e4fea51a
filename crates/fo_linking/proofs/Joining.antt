-- A block that was made is linked.
use Rattle.std.proofs.Common.{eqb-true, ◌≡◌, ◌≢◌, ◌⊎◌, inl, inr, ⊎_elim, ℕ, zero, suc, ◌+◌, ◌-◌, ◌<◌, ◌≤◌, ◌&&◌, Bool, true, false, not, cond, nat_eq, nat_lt, le-ltb, List, [], ◌∷◌, ◌++◌, length, set, slice_get, count_by, Option, Some, None, refl, sym, ap, ◌∙◌, subst, arith}
use Rattle.std.specs.Option.{option_map}
use Rattle.std.proofs.lemmas.Bool.{cases_eq, cases_lt}
use Rattle.std.proofs.lemmas.List.{length-set, get_or-set_same, get_or-set_other}
use Rattle.std.proofs.lemmas.List.Sums.{sum_by-set, get_or-le-sum_by}
use Rattle.std.proofs.lemmas.Option.{slice_get_within}
use Rattle.fo_image.specs.declared.types.Kind.{Kind}
use Rattle.fo_image.specs.declared.types.Pointer.{Pointer}
use Rattle.fo_image.specs.declared.types.Pointer.TheVariants.{Local, Nil}
use Rattle.fo_buffers.specs.declared.block.Buffer.{Buffer}
use Rattle.fo_buffers.specs.Held.{Held, block_in, held_at}
use Rattle.fo_order.specs.declared.marks.Flags.{Flags}
use Rattle.fo_order.specs.Flags.{flags_of, quiet}
use Rattle.fo_order.specs.Keeps.{Turns}
use Rattle.fo_order.specs.Turns.{changed, flag_at, is_ranked, noted}
use Rattle.fo_labels.specs.Region.{IsDataBlock, Region, label_of}
use Rattle.fo_buffers.specs.of_crash.declared.slot.Slot.{Slot}
use Rattle.fo_buffers.specs.of_crash.declared.slot.Slot.TheVariants.{Pointer as To}
use Rattle.fo_buffers.specs.of_crash.Images.{target}
use Rattle.fo_buffers.specs.of_ports.Blocks.{ReadsSlots, slot_count}
use Rattle.fo_buffers.specs.of_slots.Read.{read}
use Rattle.fo_facts.specs.declared.fact.Fact.{Fact}
use Rattle.fo_facts.specs.Counts.{owes, is_made}
use Rattle.fo_facts.specs.Known.{fact_at, linked_as, no_fact}
use Rattle.fo_linking.specs.Joined.{AreGood, IsLinked, IsReached, IsReady, Joins, LeadsToLinked, is_changed, slot_in}
use Rattle.fo_linking.specs.Joined.IsReached.{top, below}
use Rattle.fo_linking.specs.Steps.{Grows, IsAble, Looks, Reaches, taken_if}

fact_here : (facts : List Fact) (at : ℕ) (f : Fact) → at < length facts → fact_at (set facts at f) at ≡ f
fact_here facts at f lt = get_or-set_same facts at f no_fact lt

fact_other : (facts : List Fact) (at : ℕ) (f : Fact) (b : ℕ) → b ≢ at → fact_at (set facts at f) b ≡ fact_at facts b
fact_other facts at f b ne = get_or-set_other facts at b f no_fact ne

pub change_other : (t : Turns) (at rank b : ℕ) → b ≢ at → flag_at (changed t at rank) b ≡ flag_at t b
change_other t at rank b ne = by (is_ranked rank (flag_at t at)) refl
  where
    by : (r : Bool) → is_ranked rank (flag_at t at) ≡ r → flag_at (changed t at rank) b ≡ flag_at t b
    by true e = ap (λ (r : Bool). flag_at (cond r t (record (noted t at (flags_of true (flag_at t at).tried rank)) { room = t.room - 1 })) b) e
    by false e = ap (λ (r : Bool). flag_at (cond r t (record (noted t at (flags_of true (flag_at t at).tried rank)) { room = t.room - 1 })) b) e ∙ get_or-set_other t.flags at b (flags_of true (flag_at t at).tried rank) quiet ne

pub change_count : (t : Turns) (at rank : ℕ) → length (changed t at rank).flags ≡ length t.flags
change_count t at rank = by (is_ranked rank (flag_at t at)) refl
  where
    by : (r : Bool) → is_ranked rank (flag_at t at) ≡ r → length (changed t at rank).flags ≡ length t.flags
    by true e = ap (λ (r : Bool). length (cond r t (record (noted t at (flags_of true (flag_at t at).tried rank)) { room = t.room - 1 })).flags) e
    by false e = ap (λ (r : Bool). length (cond r t (record (noted t at (flags_of true (flag_at t at).tried rank)) { room = t.room - 1 })).flags) e ∙ length-set t.flags at (flags_of true (flag_at t at).tried rank)

pub change_room : (t : Turns) (at rank : ℕ) → t.room ≤ (changed t at rank).room + 1
change_room t at rank = by (is_ranked rank (flag_at t at)) refl
  where
    by : (r : Bool) → is_ranked rank (flag_at t at) ≡ r → t.room ≤ (changed t at rank).room + 1
    by true e = let h = ap (λ (r : Bool). (cond r t (record (noted t at (flags_of true (flag_at t at).tried rank)) { room = t.room - 1 })).room) e in omega (arith, h)
    by false e = let h = ap (λ (r : Bool). (cond r t (record (noted t at (flags_of true (flag_at t at).tried rank)) { room = t.room - 1 })).room) e in omega (arith, h)

pub unlike : {A : Type 0} → true ≡ false → A
unlike e = cc

-- a block that is changed is dirty with this rank
pub change_here : (t : Turns) (at rank : ℕ) → at < length t.flags → ((flag_at (changed t at rank) at).dirty ≡ true) × ((flag_at (changed t at rank) at).rank ≡ rank)
change_here t at rank lt = by (is_ranked rank (flag_at t at)) refl
  where
    ranked : (d : Bool) (n : ℕ) → (d && nat_eq n rank) ≡ true → (d ≡ true) × (n ≡ rank)
    ranked true n e = (refl, eqb-true n rank e)
    ranked false n e = absurd (cc)

    by : (r : Bool) → is_ranked rank (flag_at t at) ≡ r → ((flag_at (changed t at rank) at).dirty ≡ true) × ((flag_at (changed t at rank) at).rank ≡ rank)
    by true e =
        let same : flag_at (changed t at rank) at ≡ flag_at t at = ap (λ (r : Bool). flag_at (cond r t (record (noted t at (flags_of true (flag_at t at).tried rank)) { room = t.room - 1 })) at) e in
        let k = ranked (flag_at t at).dirty (flag_at t at).rank e in
        (ap (λ (x : Flags). x.dirty) same ∙ k.0, ap (λ (x : Flags). x.rank) same ∙ k.1)
    by false e =
        let here : flag_at (changed t at rank) at ≡ flags_of true (flag_at t at).tried rank = ap (λ (r : Bool). flag_at (cond r t (record (noted t at (flags_of true (flag_at t at).tried rank)) { room = t.room - 1 })) at) e ∙ get_or-set_same t.flags at (flags_of true (flag_at t at).tried rank) quiet lt in
        (ap (λ (x : Flags). x.dirty) here, ap (λ (x : Flags). x.rank) here)

pub change_tried : (t : Turns) (at rank : ℕ) → at < length t.flags → (flag_at (changed t at rank) at).tried ≡ (flag_at t at).tried
change_tried t at rank lt = by (is_ranked rank (flag_at t at)) refl
  where
    by : (r : Bool) → is_ranked rank (flag_at t at) ≡ r → (flag_at (changed t at rank) at).tried ≡ (flag_at t at).tried
    by true e = ap (λ (r : Bool). (flag_at (cond r t (record (noted t at (flags_of true (flag_at t at).tried rank)) { room = t.room - 1 })) at).tried) e
    by false e =
        ap (λ (r : Bool). (flag_at (cond r t (record (noted t at (flags_of true (flag_at t at).tried rank)) { room = t.room - 1 })) at).tried) e
        ∙ ap (λ (x : Flags). x.tried) (get_or-set_same t.flags at (flags_of true (flag_at t at).tried rank) quiet lt)

pub made_within : (facts : List Fact) (at : ℕ) → (fact_at facts at).linked ≡ false → at < length facts
made_within [] at e = absurd (unlike e)
made_within (f ∷ fs) zero e = omega arith
made_within (f ∷ fs) (suc at) e = let lt = made_within fs at e in omega (arith, lt)

count_of : (p : Fact → Bool) (facts : List Fact) (at : ℕ) → at < length facts → p (fact_at facts at) ≡ true → 0 < count_by p facts
count_of p facts at lt is =
    let le = get_or-le-sum_by (λ (f : Fact). cond (p f) 1 0) facts at no_fact lt in
    let one : cond {A = ℕ} (p (fact_at facts at)) 1 0 ≡ 1 = ap (λ b. cond {A = ℕ} b 1 0) is in
    omega (arith, le, one)

-- there is a turn for it
pub link_room : {facts : List Fact} {t : Turns} {len capacity : ℕ} (at : ℕ) → (fact_at facts at).linked ≡ false → IsAble facts t len capacity → (0 < t.room) × (len < capacity) × (at < length t.flags)
link_room {facts} {t} at made able =
    let lt = made_within facts at made in
    let o = count_of owes facts at lt (able.owing at made) in
    let m = count_of is_made facts at lt (ap not made) in
    let r = able.room in
    let l = able.list in
    let s = able.same in
    (omega (arith, o, r), omega (arith, m, l), omega (arith, lt, s))

module _ (held : Held) (facts new : List Fact) (t u : Turns) (at : ℕ)
    (made : (fact_at facts at).linked ≡ false)
    (items : new ≡ set facts at (linked_as (is_changed held at) (fact_at facts at)))
    (turns : u ≡ taken_if (is_changed held at) t at (fact_at facts at).rank) where
  abbrev d : Bool
  d = is_changed held at

  lt : at < length facts
  lt = made_within facts at made

  here : fact_at new at ≡ linked_as d (fact_at facts at)
  here = ap (λ (fs : List Fact). fact_at fs at) items ∙ fact_here facts at (linked_as d (fact_at facts at)) lt

  pub other : (b : ℕ) → b ≢ at → fact_at new b ≡ fact_at facts b
  other b ne = ap (λ (fs : List Fact). fact_at fs b) items ∙ fact_other facts at (linked_as d (fact_at facts at)) b ne

  long : length new ≡ length facts
  long = ap length items ∙ length-set facts at (linked_as d (fact_at facts at))

  flag_long : length u.flags ≡ length t.flags
  flag_long = by d turns
    where
      by : (b : Bool) → u ≡ taken_if b t at (fact_at facts at).rank → length u.flags ≡ length t.flags
      by true e = ap (λ (x : Turns). length x.flags) e ∙ change_count t at (fact_at facts at).rank
      by false e = ap (λ (x : Turns). length x.flags) e

  flag_other : (b : ℕ) → b ≢ at → flag_at u b ≡ flag_at t b
  flag_other b ne = by d turns
    where
      by : (k : Bool) → u ≡ taken_if k t at (fact_at facts at).rank → flag_at u b ≡ flag_at t b
      by true e = ap (λ (x : Turns). flag_at x b) e ∙ change_other t at (fact_at facts at).rank b ne
      by false e = ap (λ (x : Turns). flag_at x b) e

  -- what became of its last write stays known
  tried_here : at < length t.flags → (flag_at u at).tried ≡ (flag_at t at).tried
  tried_here within = by d turns
    where
      by : (k : Bool) → u ≡ taken_if k t at (fact_at facts at).rank → (flag_at u at).tried ≡ (flag_at t at).tried
      by true e = ap (λ (x : Turns). (flag_at x at).tried) e ∙ change_tried t at (fact_at facts at).rank within
      by false e = ap (λ (x : Turns). (flag_at x at).tried) e

  pub linked_at : (fact_at new at).linked ≡ true
  linked_at = ap (λ (f : Fact). f.linked) here

  pub stays_linked : (b : ℕ) → (fact_at facts b).linked ≡ true → (fact_at new b).linked ≡ true
  stays_linked b e = ⊎_elim
      (λ same. subst (λ n. (fact_at new n).linked ≡ true) (sym same) linked_at)
      (λ ne. ap (λ (f : Fact). f.linked) (other b ne) ∙ e)
      (cases_eq b at)

  made_less : count_by is_made new + 1 ≡ count_by is_made facts
  made_less =
      let e = sum_by-set (λ (x : Fact). cond (is_made x) 1 0) facts at (linked_as d (fact_at facts at)) no_fact lt in
      let s : cond {A = ℕ} (is_made (fact_at facts at)) 1 0 ≡ 1 = ap (λ (b : Bool). cond {A = ℕ} (not b) 1 0) made in
      let n : count_by is_made new ≡ count_by is_made (set facts at (linked_as d (fact_at facts at))) = ap (count_by is_made) items in
      omega (arith, e, s, n)

  owed_less : (fact_at facts at).owes ≡ true → count_by owes new + t.room ≤ count_by owes facts + u.room
  owed_less owed = by d items turns
    where
      by : (b : Bool) → new ≡ set facts at (linked_as b (fact_at facts at)) → u ≡ taken_if b t at (fact_at facts at).rank → count_by owes new + t.room ≤ count_by owes facts + u.room
      by true i e =
          let s = sum_by-set (λ (x : Fact). cond (owes x) 1 0) facts at (linked_as true (fact_at facts at)) no_fact lt in
          let was : cond {A = ℕ} (owes (fact_at facts at)) 1 0 ≡ 1 = ap (λ (b : Bool). cond {A = ℕ} b 1 0) owed in
          let is : cond {A = ℕ} ((fact_at facts at).owes && false) 1 0 ≡ 0 = ap (λ (b : Bool). cond {A = ℕ} (b && false) 1 0) owed in
          let n : count_by owes new ≡ count_by owes (set facts at (linked_as true (fact_at facts at))) = ap (count_by owes) i in
          let r = change_room t at (fact_at facts at).rank in
          let q : u.room ≡ (changed t at (fact_at facts at).rank).room = ap (λ (x : Turns). x.room) e in
          omega (arith, s, was, is, n, r, q)
      by false i e =
          let s = sum_by-set (λ (x : Fact). cond (owes x) 1 0) facts at (linked_as false (fact_at facts at)) no_fact lt in
          let was : cond {A = ℕ} (owes (fact_at facts at)) 1 0 ≡ 1 = ap (λ (b : Bool). cond {A = ℕ} b 1 0) owed in
          let is : cond {A = ℕ} ((fact_at facts at).owes && true) 1 0 ≡ 1 = ap (λ (b : Bool). cond {A = ℕ} (b && true) 1 0) owed in
          let n : count_by owes new ≡ count_by owes (set facts at (linked_as false (fact_at facts at))) = ap (count_by owes) i in
          let q : u.room ≡ t.room = ap (λ (x : Turns). x.room) e in
          omega (arith, s, was, is, n, q)

  pub able_linked : {len capacity : ℕ} → IsAble facts t len capacity → IsAble new u (len + 1) capacity
  able_linked able =
      let o = owed_less (able.owing at made) in
      let r = able.room in
      let l = able.list in
      let m = made_less in
      record {
        same = flag_long ∙ able.same ∙ sym long;
        owing = λ b e. ⊎_elim
            (λ same. unlike (sym linked_at ∙ subst (λ n. (fact_at new n).linked ≡ false) same e))
            (λ ne. ap (λ (f : Fact). f.owes) (other b ne) ∙ able.owing b (ap (λ (f : Fact). f.linked) (sym (other b ne)) ∙ e))
            (cases_eq b at);
        room = omega (arith, o, r);
        list = omega (arith, l, m);
      }

  module _ {old : List Fact} {s : Turns} (owing : (fact_at facts at).owes ≡ true) (flags : at < length t.flags) (l : Joins held old facts s t) where
    was : fact_at facts at ≡ fact_at old at
    was = ⊎_elim (λ same. same) (λ h. unlike (sym h.0.1 ∙ made)) (l.facts at)

    is_new : IsLinked old new at
    is_new = (ap (λ (f : Fact). f.linked) (sym was) ∙ made, linked_at)

    still : (b : ℕ) → IsLinked old facts b → IsLinked old new b
    still b h = (h.0, stays_linked b h.1)

    back : (b : ℕ) → b ≢ at → IsLinked old new b → IsLinked old facts b
    back b ne h = (h.0, ap (λ (f : Fact). f.linked) (sym (other b ne)) ∙ h.1)

    turn_here : is_changed held at ≡ true → ((flag_at u at).dirty ≡ true) × ((flag_at u at).rank ≡ (fact_at old at).rank)
    turn_here dirty =
        let e : u ≡ changed t at (fact_at facts at).rank = turns ∙ ap (λ (b : Bool). taken_if b t at (fact_at facts at).rank) dirty in
        let h = change_here t at (fact_at facts at).rank in
        (ap (λ (x : Turns). (flag_at x at).dirty) e ∙ (h flags).0, ap (λ (x : Turns). (flag_at x at).rank) e ∙ (h flags).1 ∙ ap (λ (f : Fact). f.rank) was)

    pub links_linked : Joins held old new s u
    links_linked =
        let m = made_less in
        let k = l.made in
        let o = owed_less owing in
        let p = l.owed in
        record {
          as_long = long ∙ l.as_long;
          flag_count = flag_long ∙ l.flag_count;
          facts = λ b. ⊎_elim
              (λ same. subst (λ x. (fact_at new x ≡ fact_at old x) ⊎ (IsLinked old new x × (x < length old) × (fact_at new x ≡ linked_as (is_changed held x) (fact_at old x)))) (sym same)
              (inr (is_new, subst (λ n. at < n) l.as_long lt, here ∙ ap (linked_as d) was)))
              (λ ne. ⊎_elim
              (λ e. inl (other b ne ∙ e))
              (λ h. inr (still b h.0, h.1, other b ne ∙ h.2))
              (l.facts b))
              (cases_eq b at);
          turn = λ b h dirty. ⊎_elim
              (λ same. subst (λ x. ((flag_at u x).dirty ≡ true) × ((flag_at u x).rank ≡ (fact_at old x).rank)) (sym same) (turn_here (subst (λ n. is_changed held n ≡ true) same dirty)))
              (λ ne. let q = l.turn b (back b ne h) dirty in (ap (λ (f : Flags). f.dirty) (flag_other b ne) ∙ q.0, ap (λ (f : Flags). f.rank) (flag_other b ne) ∙ q.1))
              (cases_eq b at);
          flags = λ b. ⊎_elim
              (λ same. subst (λ x. (flag_at u x ≡ flag_at s x) ⊎ (IsLinked old new x × (is_changed held x ≡ true))) (sym same) flags_here)
              (λ ne. ⊎_elim (λ e. inl (flag_other b ne ∙ e)) (λ h. inr (still b h.0, h.1)) (l.flags b))
              (cases_eq b at);
          tried = λ b. ⊎_elim
              (λ same. ap (λ n. (flag_at u n).tried) same ∙ tried_here flags ∙ ap (λ n. (flag_at t n).tried) (sym same))
              (λ ne. ap (λ (f : Flags). f.tried) (flag_other b ne))
              (cases_eq b at)
              ∙ l.tried b;
          made = omega (arith, m, k);
          owed = omega (arith, o, p);
        }
      where
        flags_here : (flag_at u at ≡ flag_at s at) ⊎ (IsLinked old new at × (is_changed held at ≡ true))
        flags_here = by d refl
          where
            by : (k : Bool) → d ≡ k → (flag_at u at ≡ flag_at s at) ⊎ (IsLinked old new at × (is_changed held at ≡ true))
            by true e = inr (is_new, e)
            by false e = ⊎_elim
                (λ same. inl (ap (λ (x : Turns). flag_at x at) (turns ∙ ap (λ (b : Bool). taken_if b t at (fact_at facts at).rank) e) ∙ same))
                (λ h. unlike (sym h.0.1 ∙ made))
                (l.flags at)

none_is : {b : ℕ} → None ≡ Some b → ⊥
none_is h = cc

pub more_get : (xs : List ℕ) (k x c : ℕ) → slice_get xs k ≡ Some x → slice_get (xs ++ c ∷ []) k ≡ Some x
more_get [] k x c e = absurd (none_is e)
more_get (y ∷ xs) zero x c e = e
more_get (y ∷ xs) (suc k) x c e = more_get xs k x c e

pub last_get : (xs : List ℕ) (c : ℕ) → slice_get (xs ++ c ∷ []) (length xs) ≡ Some c
last_get [] c = refl
last_get (y ∷ xs) c = last_get xs c

-- what leads to linked blocks does so still
leads_still : (held : Held) (region : Region) (facts new : List Fact) (b : ℕ) → ((c : ℕ) → (fact_at facts c).linked ≡ true → (fact_at new c).linked ≡ true) → LeadsToLinked held region facts b → LeadsToLinked held region new b
leads_still held region facts new b more leads = λ x is j c to. more c (leads x is j c to)

-- one more is listed
pub looks_linked : {held : Held} {region : Region} {old facts new : List Fact} (list : List ℕ) (done at : ℕ) → done ≤ length list → (fact_at facts at).linked ≡ false → ((b : ℕ) → (fact_at facts b).linked ≡ true → (fact_at new b).linked ≡ true) → ((b : ℕ) → b ≢ at → fact_at new b ≡ fact_at facts b) → Looks held region old facts list done → Looks held region old new (list ++ at ∷ []) done
looks_linked {held} {region} {old} {facts} {new} list done at le made more other looks = record {
  each = λ b h. ⊎_elim
      (λ same. inl (length list, le, last_get list at ∙ ap Some (sym same)))
      (λ ne. ⊎_elim
      (λ among. inl (among.0, among.1, more_get list among.0 b at among.2))
      (λ leads. inr (leads_still held region facts new b more leads))
      (looks.each b (h.0, ap (λ (f : Fact). f.linked) (sym (other b ne)) ∙ h.1)))
      (cases_eq b at);
}

-- nothing was linked yet
pub joins_none : (held : Held) (facts : List Fact) (t : Turns) → Joins held facts facts t t
joins_none held facts t = record {
  as_long = refl;
  flag_count = refl;
  facts = λ b. inl refl;
  turn = λ b h dirty. unlike (sym h.1 ∙ h.0);
  flags = λ b. inl refl;
  tried = λ b. refl;
  made = omega arith;
  owed = omega arith;
}

pub looks_none : (held : Held) (region : Region) (facts : List Fact) (list : List ℕ) (done : ℕ) → Looks held region facts facts list done
looks_none held region facts list done = record { each = λ b h. unlike (sym h.1 ∙ h.0) }

-- one more is looked at
pub looks_on : {held : Held} {region : Region} {old new : List Fact} (list : List ℕ) (done m : ℕ) → slice_get list done ≡ Some m → LeadsToLinked held region new m → Looks held region old new list done → Looks held region old new list (done + 1)
looks_on {held} {region} {old} {new} list done m is leads looks = record {
  each = λ b h. ⊎_elim
      (λ among. ⊎_elim
      (λ same. inr (subst (LeadsToLinked held region new) (same_some m b (sym is ∙ ap (slice_get list) (sym same) ∙ among.2)) leads))
      (λ ne. inl (among.0, later among.0 done among.1 ne, among.2))
      (cases_eq among.0 done))
      (λ there. inr there)
      (looks.each b h);
}
  where
    same_some : (x y : ℕ) → Some x ≡ Some y → x ≡ y
    same_some x y e = cc

    later : (k n : ℕ) → n ≤ k → k ≢ n → n + 1 ≤ k
    later k n le ne = ⊎_elim (λ lt. omega (arith, lt)) (λ ge. absurd (ne (omega (arith, le, ge)))) (cases_lt n k)

pub looked : {held : Held} {region : Region} {old new : List Fact} (list : List ℕ) (done : ℕ) → length list ≤ done → Looks held region old new list done → (b : ℕ) → IsLinked old new b → LeadsToLinked held region new b
looked list done le looks b h = ⊎_elim
    (λ among. let w = slice_get_within list among.0 b among.2 in let k = among.1 in absurd (omega (arith, le, w, k)))
    (λ leads. leads)
    (looks.each b h)

pub grows_none : (held : Held) (facts : List Fact) (t : Turns) (list : List ℕ) → Grows held facts facts t t list list
grows_none held facts t list = record { stays = λ b h. h; joins = λ old s l. l; looks = λ region old done le l. l; kept = λ k x is. is; length_kept = omega arith }

pub grows_on : {held : Held} {a b c : List Fact} {t u v : Turns} {k m n : List ℕ} → Grows held a b t u k m → Grows held b c u v m n → Grows held a c t v k n
grows_on f g =
    let x = f.length_kept in
    let y = g.length_kept in
    record {
      stays = λ b h. g.stays b (f.stays b h);
      joins = λ old s l. g.joins old s (f.joins old s l);
      looks = λ region old done le l. g.looks region old done (omega (arith, le, x)) (f.looks region old done le l);
      kept = λ k x is. g.kept k x (f.kept k x is);
      length_kept = omega (arith, x, y);
    }

longer_by : (xs : List ℕ) (c : ℕ) → length xs ≤ length (xs ++ c ∷ [])
longer_by [] c = omega arith
longer_by (x ∷ xs) c = let h = longer_by xs c in omega (arith, h)

pub grows_linked : (held : Held) (facts new : List Fact) (t u : Turns) (list longer : List ℕ) (at : ℕ) {len capacity : ℕ} → (fact_at facts at).linked ≡ false
    → new ≡ set facts at (linked_as (is_changed held at) (fact_at facts at))
    → u ≡ taken_if (is_changed held at) t at (fact_at facts at).rank
    → longer ≡ list ++ at ∷ [] → IsAble facts t len capacity → Grows held facts new t u list longer
grows_linked held facts new t u list longer at made items turns is able =
    let room = link_room at made able in
    record {
      stays = stays_linked held facts new t u at made items turns;
      joins = λ old s l. links_linked held facts new t u at made items turns (able.owing at made) room.2 l;
      looks = λ region old done le l. subst (λ (xs : List ℕ). Looks held region old new xs done) (sym is) (looks_linked list done at le made (stays_linked held facts new t u at made items turns) (other held facts new t u at made items turns) l);
      kept = λ k x e. subst (λ (xs : List ℕ). slice_get xs k ≡ Some x) (sym is) (more_get list k x at e);
      length_kept = subst (λ (xs : List ℕ). length list ≤ length xs) (sym is) (longer_by list at);
    }

pub linked_of : (b : Bool) → not b ≡ false → b ≡ true
linked_of true e = refl
linked_of false e = unlike e

pub made_of : (b : Bool) → not b ≡ true → b ≡ false
made_of false e = refl
made_of true e = unlike (sym e)

-- as memory has the block changed
module _ (held : Held) (facts new : List Fact) (t u : Turns) (at : ℕ) (d : Bool) (is : d ≡ is_changed held at) where
  pub items_dirty : new ≡ set facts at (linked_as d (fact_at facts at)) → new ≡ set facts at (linked_as (is_changed held at) (fact_at facts at))
  items_dirty e = e ∙ ap (λ (b : Bool). set facts at (linked_as b (fact_at facts at))) is

  pub turns_dirty : u ≡ taken_if d t at (fact_at facts at).rank → u ≡ taken_if (is_changed held at) t at (fact_at facts at).rank
  turns_dirty e = e ∙ ap (λ (b : Bool). taken_if b t at (fact_at facts at).rank) is

-- one slot more leads to a linked block, if to one
pub slots_on : (facts new : List Fact) (content : ℕ → Slot) (j : ℕ) → ((c : ℕ) → target (content j) ≡ Local c → (fact_at new c).linked ≡ true) → ((b : ℕ) → (fact_at facts b).linked ≡ true → (fact_at new b).linked ≡ true) → ((k c : ℕ) → k < j → target (content k) ≡ Local c → (fact_at facts c).linked ≡ true) → (k c : ℕ) → k < j + 1 → target (content k) ≡ Local c → (fact_at new c).linked ≡ true
slots_on facts new content j linked more so_far k c less is = ⊎_elim
    (λ e. linked c (ap (λ n. target (content n)) (sym e) ∙ is))
    (λ ne. more c (so_far k c (earlier k j less ne) is))
    (cases_eq k j)
  where
    earlier : (k j : ℕ) → k < j + 1 → k ≢ j → k < j
    earlier k j less ne = ⊎_elim (λ l. l) (λ ge. absurd (ne (omega (arith, less, ge)))) (cases_lt k j)

pub past_slots : (kind : Kind) (bytes : List ℕ) (j : ℕ) → slot_count kind ≤ j → (read kind bytes).slot j ≡ To Nil
past_slots kind bytes j ge = let test : nat_lt j (slot_count kind) ≡ false = le-ltb _ _ ge in rw test refl

pub never : {x : ℕ} → Nil ≡ Local x → ⊥
never e = cc

-- ---- held blocks

some_held : (bytes : List ℕ) (o : Option Buffer) → Some bytes ≡ option_map block_in o → (y : Buffer) × (o ≡ Some y) × (y.block ≡ bytes)
some_held bytes (Some y) e = let it : y.block ≡ bytes = cc in (y, refl, it)
some_held bytes None e = absurd (clash e)
  where
    clash : Some bytes ≡ None → ⊥
    clash h = cc

pub leads_none : (held : Held) (region : Region) (facts : List Fact) (at : ℕ) → None ≡ option_map block_in (held_at held at) → LeadsToLinked held region facts at
leads_none held region facts at e = λ x is. absurd (clash x (e ∙ ap (option_map block_in) is))
  where
    clash : (x : Buffer) → None ≡ Some x.block → ⊥
    clash x h = cc

module _ (held : Held) (region : Region) (at : ℕ) (bytes : List ℕ) (kind : Kind)
    (e : Some bytes ≡ option_map block_in (held_at held at))
    (k : kind ≡ (label_of region at).kind) where
  -- its slots are those of these bytes
  slot_same : (x : Buffer) → x.block ≡ bytes → (j : ℕ) → target (slot_in region at x j) ≡ target ((read kind bytes).slot j)
  slot_same x is j = ap (λ (bs : List ℕ). target ((read (label_of region at).kind bs).slot j)) is ∙ ap (λ (z : Kind). target ((read z bytes).slot j)) (sym k)

  pub leads_of : (facts : List Fact) → ((j c : ℕ) → target ((read kind bytes).slot j) ≡ Local c → (fact_at facts c).linked ≡ true) → LeadsToLinked held region facts at
  leads_of facts linked = λ x is j c to. linked j c (sym (slot_same x (same x (e ∙ ap (option_map block_in) is)) j) ∙ to)
    where
      same : (x : Buffer) → Some bytes ≡ Some x.block → x.block ≡ bytes
      same x h = cc

  pub reached_of : (to : Pointer) (old : List Fact) → IsReached held region old to at → (fact_at old at).linked ≡ false → (j c : ℕ) → target ((read kind bytes).slot j) ≡ Local c → IsReached held region old to c
  reached_of to old reached made j c leads =
      let y = some_held bytes (held_at held at) e in
      below at y.0 j c reached made y.1 (slot_same y.0 y.2 j ∙ leads)

  pub slots_of : AreGood region held → ReadsSlots kind (read kind bytes) bytes
  slots_of good =
      let y = some_held bytes (held_at held at) e in
      subst (λ (z : Kind). ReadsSlots z (read z bytes) bytes) (sym k) (subst (λ (bs : List ℕ). ReadsSlots (label_of region at).kind (read (label_of region at).kind bs) bs) y.2 (good.each at y.0 y.1).slots)

pub block_of : (held : Held) (region : Region) (at : ℕ) (bytes : List ℕ) → Some bytes ≡ option_map block_in (held_at held at) → AreGood region held → IsDataBlock region at
block_of held region at bytes e good = let y = some_held bytes (held_at held at) e in (good.each at y.0 y.1).block

-- ---- only what hangs from the pointer

pub reaches_none : (held : Held) (region : Region) (to : Pointer) (facts : List Fact) (list : List ℕ) → length list ≡ 0 → Reaches held region to facts facts list
reaches_none held region to facts list none = record {
  stays = λ b e. e;
  each = λ b h. unlike (sym h.1 ∙ h.0);
  listed = λ k b is. let w = slice_get_within list k b is in absurd (omega (arith, w, none));
}

-- what stands in a list with one more at its end
end_get : (xs : List ℕ) (c k b : ℕ) → slice_get (xs ++ c ∷ []) k ≡ Some b → (slice_get xs k ≡ Some b) ⊎ (b ≡ c)
end_get [] c zero b e = inr (same e)
  where
    same : Some c ≡ Some b → b ≡ c
    same h = cc
end_get [] c (suc k) b e = absurd (none_is e)
end_get (x ∷ xs) c zero b e = inl e
end_get (x ∷ xs) c (suc k) b e = end_get xs c k b e

pub reaches_linked : {held : Held} {region : Region} {to : Pointer} {old facts new : List Fact} (list longer : List ℕ) (at : ℕ) → (fact_at facts at).linked ≡ false → (fact_at new at).linked ≡ true
    → ((b : ℕ) → (fact_at facts b).linked ≡ true → (fact_at new b).linked ≡ true) → ((b : ℕ) → b ≢ at → fact_at new b ≡ fact_at facts b)
    → longer ≡ list ++ at ∷ [] → IsReached held region old to at → Reaches held region to old facts list → Reaches held region to old new longer
reaches_linked {held} {region} {to} {old} {facts} {new} list longer at made linked more other is reached r = record {
  stays = λ b e. more b (r.stays b e);
  each = λ b h. ⊎_elim
      (λ same. subst (IsReached held region old to) (sym same) reached)
      (λ ne. r.each b (h.0, ap (λ (f : Fact). f.linked) (sym (other b ne)) ∙ h.1))
      (cases_eq b at);
  listed = λ k b e. ⊎_elim
      (λ there. let h = r.listed k b there in (h.0, more b h.1))
      (λ same. subst (IsLinked old new) (sym same) (was_made (fact_at old at).linked refl, linked))
      (end_get list at k b (subst (λ (xs : List ℕ). slice_get xs k ≡ Some b) is e));
}
  where
    was_made : (b : Bool) → (fact_at old at).linked ≡ b → (fact_at old at).linked ≡ false
    was_made true e = unlike (sym (r.stays at e) ∙ made)
    was_made false e = e

-- ---- a whole call

pub top_reached : (held : Held) (region : Region) (facts : List Fact) (to : Pointer) (c : ℕ) → to ≡ Local c → IsReached held region facts to c
top_reached held region facts to c e = top c e

pub ready_able : {facts : List Fact} {t : Turns} {capacity : ℕ} (len : ℕ) → len ≡ 0 → IsReady facts t capacity → IsAble facts t len capacity
ready_able len none ready =
    let p = ready.places in
    record { same = ready.same; owing = ready.owing; room = ready.turns_left; list = omega (arith, none, p) }

pub ready_more : {facts : List Fact} {t : Turns} {room capacity : ℕ} → room ≤ capacity → IsReady facts t room → IsReady facts t capacity
ready_more le ready =
    let p = ready.places in
    record { same = ready.same; owing = ready.owing; turns_left = ready.turns_left; places = omega (arith, le, p) }
