-- Each step of a gate keeps its rule.
use Rattle.std.proofs.Common.{◌≡◌, ◌≢◌, ℕ, zero, suc, ◌+◌, ◌%◌, ◌<◌, ◌≤◌, List, [], ◌∷◌, ◌++◌, length, get_or, set, sym, refl, ap, ◌∙◌, subst, inl, inr, ⊎_elim, arith, false, true≢false, length-append, lt_of_not-le}
use mathlib.Core.Logic.{dite}
use mathlib.Core.Option.{none, some, some-injective, some-ne-none}
use native.Mathlib.Decide.{dec_le, ℕ_discrete}
use lib.ListN.{get_elem?}
use lib.Seq.{set-get_or}
use Rattle.std.proofs.Math.Nat.{mod-add-mod}
use Rattle.std.proofs.Common.{mod-eq_of_lt}
use Rattle.atomic_table.specs.Table.{State, Me, step, keeps, takes, gives, put_back, stepped, opening, Allows, Splits, Joins, Final, Seen}
use Rattle.atomic_table.proofs.Lists.{set_again, one_turn, at_snoc}
use Rattle.fo_gate.specs.Weights.{total, below}
use Rattle.fo_gate.specs.declared.rule.Start.{Start}
use Rattle.fo_gate.specs.declared.view.Entry.{Entry}
use Rattle.fo_gate.specs.declared.view.View.{View}
use Rattle.fo_gate.specs.declared.rule.Slot.{Slot}
use Rattle.fo_gate.specs.declared.rule.Slot.TheVariants.{In, Made}
use Rattle.fo_gate.specs.Lists.{StartsWith, longer, first_numbers, least, split_greatest}
use Rattle.fo_gate.specs.History.{epochs_word, entry, last_low, last_high, IsLegal}
use Rattle.fo_gate.specs.Rule.{states_held, first_view, Fits, IsKept}
use Rattle.fo_gate.specs.Steps.{with_ticket, with_state, with_turn, with_post, with_seen, at_rest, without_greatest, greatest_alone, joined_view, spent_view, IsIdle, IsApart, Draws, Posts, PassesOn, Compares, Looks, Reads, after_made, Commits}
use Rattle.fo_gate.proofs.Sums.{at_set, total-append, total-set, term_le, terms_le, total-one, total-le, total-lt, total-rest, total-only, below-one, below-only, below-has, only, only-same, below-once, below_more}
use Rattle.fo_gate.proofs.Histories.{head_or, starts-whole, starts-refl, starts-nil, starts-more, starts-trans, starts-length, below-mono, length-nil, legal-snoc, legal-low, legal-high, legal-prefix, longest, longer-starts, cut, past, total-cut, below-past, below-cut, split-weight}

first-weight : (f : ℕ → ℕ) (n : ℕ) → total f (first_numbers n) ≡ below f n
first-weight f zero = refl
first-weight f (suc n) = let a = total-append f (first_numbers n) (n ∷ []) in let b = first-weight f n in omega arith

pub length-first : (n : ℕ) → length (first_numbers n) ≡ n
length-first n = sym (total-one (first_numbers n)) ∙ first-weight (λ _. 1) n ∙ below-one n

pub apart_first : {S E O : Type 0} (k : Start S) (m : Me (Slot S E O) (View S E O)) (l : List (ℕ × Slot S E O)) → m ≡ (first_view k, l) → IsApart m.0
apart_first k m l e = subst IsApart (sym (ap (λ p. p.0) e)) (λ f. let a = first-weight f k.seats in omega arith)

module _ {S E O : Type 0} (turns : S → E → O → S → Type 0) (low high : S → ℕ) (key : Start S) where
  abbrev V : Type 0
  V = View S E O

  abbrev St : Type 0
  St = State (Slot S E O) (View S E O)

  abbrev M : Type 0
  M = Me (Slot S E O) (View S E O)

  abbrev Rule : St → Type 0
  Rule = IsKept turns low high key

  each_set : (P : V → Type 0) (vs : List V) (id : ℕ) (w : V) → P w → ((j : ℕ) (u : V) → j ≢ id → get_elem? vs j ≡ some u → P u) → (j : ℕ) (u : V) → get_elem? (set vs id w) j ≡ some u → P u
  each_set P vs id w mine others j u e = ⊎_elim (λ (t : (j ≡ id) × (w ≡ u)). subst P t.1 mine) (λ (t : (j ≢ id) × (get_elem? vs j ≡ some u)). others j u t.0 t.1) (at_set vs id j w u e)

  -- a step that changes nothing
  still : (s : St) (i id : ℕ) (cs : List (ℕ × Slot S E O)) (v : V) → Rule s → get_elem? s.views id ≡ some v → Rule (stepped s i (get_or s.words i 0) id cs v keeps)
  still s i id cs v r at = subst Rule (λ k. record { words = sym (set-get_or s.words i 0) k; homes = s.homes; views = sym (set_again s.views id v at) k }) r

  pub draws : (slots id : ℕ) (m : M) → IsIdle m.0 → 0 < length m.0.numbers → Allows Rule slots id m 1 (λ n. (n + 1) % 18446744073709551616) (Draws (step slots 1 1 0 none) m)
  draws slots id m idle some_number s r wide at small =
      let v : V = m.0 in
      let w : V = with_ticket v r.drawn in
      let fits = r.each id v at in
      let outs = total-set states_held s.views id v w at in
      let none_out : length v.holds ≡ 0 = ap length (idle.1) in
      let here : get_or s.words 1 0 ≡ r.drawn % 18446744073709551616 = ap (λ ws. get_or ws 1 0) r.words in
      let more : (r.drawn % 18446744073709551616 + 1) % 18446744073709551616 ≡ suc r.drawn % 18446744073709551616 = mod-add-mod r.drawn 18446744073709551616 1 ∙ ap (λ (n : ℕ). n % 18446744073709551616) (omega arith) in (
        w,
        keeps,
        tt,
        record {
          log = r.log;
          shown = r.shown;
          end = r.end;
          drawn = suc r.drawn;
          served = r.served;
          words = ap (λ ws. set ws 1 ((get_or ws 1 0 + 1) % 18446744073709551616)) r.words ∙ ap (λ (n : ℕ). length r.log ∷ n ∷ r.served % 18446744073709551616 ∷ epochs_word (last_low (low key.state.value) r.shown) (last_high (high key.state.value) r.shown) ∷ []) more;
          legal = r.legal;
          behind = r.behind;
          small = r.small;
          few = r.few;
          most = r.most;
          numbered = λ f. omega (arith, total-set (λ (u : V). total f u.numbers) s.views id v w at, r.numbered f);
          placed = λ f. omega (arith, total-set (λ (u : V). total f u.calls) s.views id v w at, r.placed f);
          queued = λ f. let none_held : total f v.tickets ≡ 0 = ap (total f) idle.0 in omega (arith, total-set (λ (u : V). total f u.tickets) s.views id v w at, r.queued f);
          each = each_set (Fits key r.log r.shown r.end r.served) s.views id w
              record { seats = fits.seats; opening = fits.opening; seen = λ _. fits.seen idle.1; placed = fits.placed; joined = starts-nil _; numbered = fits.numbered; queued = some_number; held = λ ne. absurd (ne refl) }
              (λ j u _ e. r.each j u e);
          home = ⊎_elim (λ h. inl (omega arith, h.1, h.2)) (λ h. inr (omega arith, h.1)) r.home;
        },
        (r.drawn, here, refl),
      )

  -- the state is out with one seat at most
  one_out : (s : St) → Rule s → total states_held s.views ≤ 1
  one_out s r = ⊎_elim (λ h. omega (arith, h.0)) (λ h. omega (arith, h.0)) r.home

  -- a seat that has the state out is the only one
  others_in : (s : St) (id : ℕ) (v : V) → Rule s → get_elem? s.views id ≡ some v → length v.holds ≡ 1 → (j : ℕ) (u : V) → j ≢ id → get_elem? s.views j ≡ some u → u.holds ≡ []
  others_in s id v r at one j u ne e = length-nil u.holds (let b = one_out s r in let t = terms_le states_held s.views id j v u ne at e in omega arith)

  -- a ticket that is held is between those served and those drawn
  ticket_range : (s : St) (id t : ℕ) (v : V) (r : Rule s) → get_elem? s.views id ≡ some v → v.tickets ≡ t ∷ [] → (r.served ≤ t) × (t < r.drawn)
  ticket_range s id t v r at mine =
      let one : total (only t) v.tickets ≡ only t t + 0 = ap (total (only t)) mine in
      let same : only t t ≡ 1 = only-same t in
      let some_there = term_le (λ (u : V). total (only t) u.tickets) s.views id v at in
      let all = r.queued (only t) in
      let most = below-once t r.drawn in (
        dite (dec_le r.served t) (λ le. le) (λ no. absurd (let h = below-has t r.served (lt_of_not-le no) in omega arith)),
        dite (dec_le r.drawn t) (λ le. absurd (let h = (below-only t r.drawn).1 le in omega arith)) (λ no. lt_of_not-le no),
      )

  -- no more tickets are out than there are numbers
  short_queue : (s : St) (r : Rule s) → r.drawn < r.served + 18446744073709551616
  short_queue s r =
      let all = r.queued (λ _. 1) in
      let a = below-one r.served in
      let b = below-one r.drawn in
      let c = below-one key.seats in
      let d = total-le (λ (u : V). total (λ _. 1) u.tickets) (λ (u : V). total (λ _. 1) u.numbers) s.views
      (λ j u e. let q = (r.each j u e).queued in let x = total-one u.tickets in let y = total-one u.numbers in omega arith) in
      let n = r.numbered (λ _. 1) in
      let few = r.few in omega arith

  -- where a seat waits with the ticket that is served, the state is at home
  at_home : (s : St) (id : ℕ) (v : V) (r : Rule s) → get_elem? s.views id ≡ some v → v.tickets ≡ r.served ∷ [] → v.holds ≡ [] → total states_held s.views ≡ 0
  at_home s id v r at mine nothing =
      let f = only r.served in
      let same : f r.served ≡ 1 = only-same r.served in
      let one : total f v.tickets ≡ f r.served + 0 = ap (total f) mine in
      let no : length v.holds ≡ 0 = ap length nothing in
      let all = r.queued f in
      let most = below-once r.served r.drawn in
      let less = total-lt states_held (λ (u : V). total f u.tickets) s.views id v
      (λ j u e. dite (ℕ_discrete (length u.holds) 0) (λ z. omega arith)
      (λ some_held. let h = (r.each j u e).held (λ z. some_held (ap length z)) in let x : length u.holds ≡ 1 = ap length h.0 in let y : total f u.tickets ≡ f r.served + 0 = ap (total f) h.2 in omega arith))
      at (omega arith) in omega arith

  pub looks : (slots id t : ℕ) (m : M) → m.0.tickets ≡ t ∷ [] → m.0.holds ≡ [] → Allows Rule slots id m 2 (λ n. n) (Looks turns low high (step slots 2 0 0 none) m)
  looks slots id t m mine nothing s r wide at small =
      let v : V = m.0 in
      let first : get_or v.tickets 0 0 ≡ t = ap (λ l. get_or l 0 0) mine in
      dite (ℕ_discrete (get_or s.words 2 0) (get_or v.tickets 0 0 % 18446744073709551616))
      (λ hit.
      let range = ticket_range s id t v r at mine in
      let here : r.served % 18446744073709551616 ≡ get_or s.words 2 0 = sym (ap (λ ws. get_or ws 2 0) r.words) in
      let now : r.served ≡ t = one_turn r.served t 18446744073709551616 range.0 (let b = short_queue s r in omega (arith, range.1)) (here ∙ hit ∙ ap (λ (n : ℕ). n % 18446744073709551616) first) in
      let ticket : v.tickets ≡ r.served ∷ [] = mine ∙ ap (λ (n : ℕ). n ∷ []) (sym now) in
      let free = at_home s id v r at ticket nothing in
      let home : (s.homes ≡ some (In r.end (length r.log)) ∷ []) × (r.shown ≡ r.log) = ⊎_elim (λ h. (h.1, h.2)) (λ h. absurd (omega (arith, h.0))) r.home in
      let w : V = with_state v r.log r.end in
      let fits = r.each id v at in
      let none_out : length v.holds ≡ 0 = ap length nothing in
      let outs = total-set states_held s.views id v w at in
      let saw : StartsWith r.log v.seen = subst (λ l. StartsWith l v.seen) home.1 (fits.seen nothing) in (
        w,
        takes 0 (In r.end (length r.log)),
        ap (λ hs. get_elem? hs 0) home.0,
        record {
          log = r.log;
          shown = r.shown;
          end = r.end;
          drawn = r.drawn;
          served = r.served;
          words = set-get_or s.words 2 0 ∙ r.words;
          legal = r.legal;
          behind = r.behind;
          small = r.small;
          few = r.few;
          most = r.most;
          numbered = λ f. omega (arith, total-set (λ (u : V). total f u.numbers) s.views id v w at, r.numbered f);
          placed = λ f. omega (arith, total-set (λ (u : V). total f u.calls) s.views id v w at, r.placed f);
          queued = λ f. omega (arith, total-set (λ (u : V). total f u.tickets) s.views id v w at, r.queued f);
          each = each_set (Fits key r.log r.shown r.end r.served) s.views id w
              record { seats = fits.seats; opening = fits.opening; seen = λ e. absurd (let z : 1 ≡ 0 = ap length e in omega arith); placed = λ f. let p = fits.placed f in let q = below-mono f (length v.seen) (length r.log) (starts-length r.log v.seen saw) in omega arith; joined = starts-nil _; numbered = fits.numbered; queued = fits.queued; held = λ _. (refl, refl, ticket, λ _. home.1) }
              (λ j u _ e. r.each j u e);
          home = inr (omega arith, ap (λ hs. set hs 0 none) home.0);
        },
        ((λ _. (r.log, r.end, saw, (λ a e. subst (λ b. IsLegal turns low high b r.log r.end) (sym (fits.opening a e)) r.legal), r.most, fits.placed, refl)), λ miss. absurd (miss hit)),
      ))
      (λ miss. (v, keeps, tt, still s 2 id m.1 v r at, ((λ hit. absurd (miss hit)), λ _. refl)))

  pub commits : (slots id : ℕ) (m : M) (e : _) (o : _) (z : _) (a : S) → m.1 ≡ (0, Made e o z) ∷ [] → m.0.holds ≡ a ∷ [] → turns a e.value o.value z.value → length m.0.seen < 4611686018427387904
      → Allows Rule slots id m 0 (λ n. (n + 1) % 18446744073709551616) (Commits low high (step slots 0 1 0 none) m)
  commits slots id m e o z a slot mine turned room s r wide at small =
      let v : V = m.0 in
      let x : Entry E O = entry (least v.numbers) e.value o.value (low z.value) (high z.value) in
      let w : V = with_turn v x z.value in
      let fits = r.each id v at in
      let one : length v.holds ≡ 1 = ap length mine in
      let h = fits.held (λ none_held. absurd (let y : length v.holds ≡ 0 = ap length none_held in omega arith)) in
      let same : a ≡ r.end = ap (λ l. head_or a l) (sym mine ∙ h.0) in
      let len : length v.seen ≡ length r.log = ap length h.1 in
      let longer : length (r.log ++ x ∷ []) ≡ length r.log + 1 = length-append r.log (x ∷ []) in
      let longer' : length (v.seen ++ x ∷ []) ≡ length v.seen + 1 = length-append v.seen (x ∷ []) in
      let count : (length r.log + 1) % 18446744073709551616 ≡ length (r.log ++ x ∷ []) = mod-eq_of_lt (omega arith) ∙ sym longer in
      let outs = total-set states_held s.views id v w at in
      let here = term_le states_held s.views id v at in (
        w,
        keeps,
        tt,
        record {
          log = r.log ++ x ∷ [];
          shown = r.shown;
          end = z.value;
          drawn = r.drawn;
          served = r.served;
          words = ap (λ ws. set ws 0 ((get_or ws 0 0 + 1) % 18446744073709551616)) r.words ∙ ap (λ (n : ℕ). n ∷ r.drawn % 18446744073709551616 ∷ r.served % 18446744073709551616 ∷ epochs_word (last_low (low key.state.value) r.shown) (last_high (high key.state.value) r.shown) ∷ []) count;
          legal = legal-snoc turns low high key.state.value r.log r.end x z.value r.legal (subst (λ b. turns b e.value o.value z.value) same turned) refl refl;
          behind = starts-more r.log r.shown (x ∷ []) r.behind;
          small = r.small;
          few = r.few;
          most = omega arith;
          numbered = λ f. omega (arith, total-set (λ (u : V). total f u.numbers) s.views id v w at, r.numbered f);
          placed = λ f.
              let t = total-set (λ (u : V). total f u.calls) s.views id v w at in
              let p = total-append f v.calls (length v.seen ∷ []) in
              let q : f (length v.seen) ≡ f (length r.log) = ap f len in
              let b : below f (length (r.log ++ x ∷ [])) ≡ below f (length r.log) + f (length r.log) = ap (below f) longer ∙ below_more f (length r.log) in
              let c = r.placed f in omega arith;
          queued = λ f. omega (arith, total-set (λ (u : V). total f u.tickets) s.views id v w at, r.queued f);
          each = each_set (Fits key (r.log ++ x ∷ []) r.shown z.value r.served) s.views id w
              record {
                seats = fits.seats;
                opening = fits.opening;
                seen = λ none_held. absurd (let y : 1 ≡ 0 = ap length none_held in omega arith);
                placed = λ f.
                    let p = total-append f v.calls (length v.seen ∷ []) in
                    let b : below f (length (v.seen ++ x ∷ [])) ≡ below f (length v.seen) + f (length v.seen) = ap (below f) longer' ∙ below_more f (length v.seen) in
                    let c = fits.placed f in omega arith;
                joined = starts-nil _;
                numbered = λ none_there. absurd (let q = fits.queued in let y : length v.tickets ≡ 1 = ap length h.2 in let y' : length v.numbers ≡ 0 = ap length none_there in omega arith);
                queued = fits.queued;
                held = λ _. (refl, ap (λ l. l ++ x ∷ []) h.1, h.2, λ off. absurd (true≢false off));
              }
              (λ j u ne d. let f = r.each j u d in let no = others_in s id v r at one j u ne d in record { seats = f.seats; opening = f.opening; seen = f.seen; placed = f.placed; joined = f.joined; numbered = f.numbered; queued = f.queued; held = λ some_held. absurd (some_held no) });
          home = ⊎_elim (λ t. absurd (omega (arith, t.0))) (λ t. inr (omega (arith, t.0), t.1)) r.home;
        },
        ap (λ l. (after_made low high l v, m.1)) (sym slot),
      )

  pub posts : (slots id : ℕ) (m : M) (a : S) (new : ℕ) → m.0.holds ≡ a ∷ [] → new ≡ epochs_word (low a) (high a) → low a < 4294967296 → high a < 4294967296
      → Allows Rule slots id m 3 (λ _. new) (λ _. Posts (step slots 3 new 0 none) m new)
  posts slots id m a new mine is small_low small_high s r wide at small =
      let v : V = m.0 in
      let w : V = with_post v in
      let fits = r.each id v at in
      let one : length v.holds ≡ 1 = ap length mine in
      let h = fits.held (λ none_held. absurd (let y : length v.holds ≡ 0 = ap length none_held in omega arith)) in
      let same : a ≡ r.end = ap (λ l. head_or a l) (sym mine ∙ h.0) in
      let now_low : last_low (low key.state.value) r.log ≡ low a = legal-low turns low high key.state.value r.log r.end r.legal ∙ ap low (sym same) in
      let now_high : last_high (high key.state.value) r.log ≡ high a = legal-high turns low high key.state.value r.log r.end r.legal ∙ ap high (sym same) in
      let word : new ≡ epochs_word (last_low (low key.state.value) r.log) (last_high (high key.state.value) r.log) = is ∙ (λ k. epochs_word (sym now_low k) (sym now_high k)) in
      let outs = total-set states_held s.views id v w at in
      let here = term_le states_held s.views id v at in (
        w,
        keeps,
        tt,
        record {
          log = r.log;
          shown = r.log;
          end = r.end;
          drawn = r.drawn;
          served = r.served;
          words = ap (λ ws. set ws 3 new) r.words ∙ ap (λ (n : ℕ). length r.log ∷ r.drawn % 18446744073709551616 ∷ r.served % 18446744073709551616 ∷ n ∷ []) word;
          legal = r.legal;
          behind = starts-refl r.log;
          small = (subst (λ (n : ℕ). n < 4294967296) (sym now_low) small_low, subst (λ (n : ℕ). n < 4294967296) (sym now_high) small_high);
          few = r.few;
          most = r.most;
          numbered = λ f. omega (arith, total-set (λ (u : V). total f u.numbers) s.views id v w at, r.numbered f);
          placed = λ f. omega (arith, total-set (λ (u : V). total f u.calls) s.views id v w at, r.placed f);
          queued = λ f. omega (arith, total-set (λ (u : V). total f u.tickets) s.views id v w at, r.queued f);
          each = each_set (Fits key r.log r.log r.end r.served) s.views id w
              record { seats = fits.seats; opening = fits.opening; seen = λ _. subst (λ l. StartsWith r.log l) (sym h.1) (starts-refl r.log); placed = fits.placed; joined = starts-nil _; numbered = fits.numbered; queued = fits.queued; held = λ _. (h.0, h.1, h.2, λ _. refl) }
              (λ j u ne d. let f = r.each j u d in let no = others_in s id v r at one j u ne d in record { seats = f.seats; opening = f.opening; seen = λ z. starts-trans r.log r.shown u.seen r.behind (f.seen z); placed = f.placed; joined = f.joined; numbered = f.numbered; queued = f.queued; held = λ some_held. absurd (some_held no) });
          home = ⊎_elim (λ t. absurd (omega (arith, t.0))) (λ t. inr (omega (arith, t.0), t.1)) r.home;
        },
        refl,
      )

  pub passes : (slots id : ℕ) (m : M) (a : S) (n : ℕ) → m.1 ≡ (0, In a n) ∷ [] → m.0.holds ≡ a ∷ [] → m.0.owes ≡ false → n ≡ length m.0.seen
      → Allows Rule slots id m 2 (λ n. (n + 1) % 18446744073709551616) (PassesOn (step slots 2 1 0 none) m)
  passes slots id m a n slot mine clear len s r wide at small =
      let v : V = m.0 in
      let w : V = at_rest v in
      let fits = r.each id v at in
      let one : length v.holds ≡ 1 = ap length mine in
      let h = fits.held (λ none_held. absurd (let y : length v.holds ≡ 0 = ap length none_held in omega arith)) in
      let same : a ≡ r.end = ap (λ l. head_or a l) (sym mine ∙ h.0) in
      let all_shown : r.shown ≡ r.log = h.3 clear in
      let more : (r.served % 18446744073709551616 + 1) % 18446744073709551616 ≡ suc r.served % 18446744073709551616 = mod-add-mod r.served 18446744073709551616 1 ∙ ap (λ (n : ℕ). n % 18446744073709551616) (omega arith) in
      let outs = total-set states_held s.views id v w at in
      let at_most = one_out s r in
      let long : n ≡ length r.log = len ∙ ap length h.1 in
      let away : s.homes ≡ none ∷ [] = ⊎_elim (λ t. absurd (let here = term_le states_held s.views id v at in omega (arith, t.0))) (λ t. t.1) r.home in (
        w,
        gives,
        tt,
        record {
          log = r.log;
          shown = r.shown;
          end = r.end;
          drawn = r.drawn;
          served = suc r.served;
          words = ap (λ ws. set ws 2 ((get_or ws 2 0 + 1) % 18446744073709551616)) r.words ∙ ap (λ (n : ℕ). length r.log ∷ r.drawn % 18446744073709551616 ∷ n ∷ epochs_word (last_low (low key.state.value) r.shown) (last_high (high key.state.value) r.shown) ∷ []) more;
          legal = r.legal;
          behind = r.behind;
          small = r.small;
          few = r.few;
          most = r.most;
          numbered = λ f. omega (arith, total-set (λ (u : V). total f u.numbers) s.views id v w at, r.numbered f);
          placed = λ f. omega (arith, total-set (λ (u : V). total f u.calls) s.views id v w at, r.placed f);
          queued = λ f. let t : total f v.tickets ≡ f r.served + 0 = ap (total f) h.2 in omega (arith, total-set (λ (u : V). total f u.tickets) s.views id v w at, r.queued f);
          each = each_set (Fits key r.log r.shown r.end (suc r.served)) s.views id w
              record { seats = fits.seats; opening = fits.opening; seen = λ _. subst (λ l. StartsWith r.shown l) (all_shown ∙ sym h.1) (starts-refl r.shown); placed = fits.placed; joined = starts-nil _; numbered = fits.numbered; queued = omega arith; held = λ some_held. absurd (some_held refl) }
              (λ j u ne d. let f = r.each j u d in let no = others_in s id v r at one j u ne d in record { seats = f.seats; opening = f.opening; seen = f.seen; placed = f.placed; joined = f.joined; numbered = f.numbered; queued = f.queued; held = λ some_held. absurd (some_held no) });
          home = inl (omega arith, (λ k. put_back (away k) (slot k)) ∙ (λ k. some (In (same k) (long k)) ∷ []), all_shown);
        },
        ((refl), fits.placed),
      )

  opener_fits : Fits {S = S} {E = E} {O = O} key [] [] key.state.value 0 (first_view key)
  opener_fits = record { seats = λ _. refl; opening = λ a e. sym (ap (λ l. head_or key.state.value l) e) ∙ refl; seen = λ _. starts-nil []; placed = λ f. omega arith; joined = starts-nil []; numbered = λ _. refl; queued = omega arith; held = λ some_held. absurd (some_held refl) }

  pub opens : (word : ℕ) → key.seats < 4294967296 → low key.state.value < 4294967296 → high key.state.value < 4294967296 → word ≡ epochs_word (low key.state.value) (high key.state.value)
      → Rule (opening (0 ∷ 0 ∷ 0 ∷ word ∷ []) (In key.state.value 0 ∷ []) (first_view key))
  opens word few low_fits high_fits is = record {
    log = [];
    shown = [];
    end = key.state.value;
    drawn = 0;
    served = 0;
    words = ap (λ (n : ℕ). 0 ∷ 0 ∷ 0 ∷ n ∷ []) is;
    legal = refl;
    behind = starts-nil [];
    small = (low_fits, high_fits);
    few = few;
    most = omega arith;
    numbered = λ f. let a = first-weight f key.seats in omega arith;
    placed = λ f. refl;
    queued = λ f. refl;
    each = only_one;
    home = inl (refl, refl, refl);
  }
    where
      only_one : (j : ℕ) (v : View S E O) → get_elem? (first_view {S = S} {E = E} {O = O} key ∷ []) j ≡ some v → Fits {S = S} {E = E} {O = O} key [] [] key.state.value 0 v
      only_one zero v e = subst (Fits key [] [] key.state.value 0) (some-injective (first_view key) v e) opener_fits
      only_one (suc j) v e = absurd (some-ne-none v (sym e))

  -- an idle seat sees more
  sees : (s : St) (i id : ℕ) (cs : List (ℕ × Slot S E O)) (v : V) (log : List (Entry E O)) (r : Rule s) → get_elem? s.views id ≡ some v → v.holds ≡ [] → StartsWith r.shown log → StartsWith log v.seen
      → Rule (stepped s i (get_or s.words i 0) id cs (with_seen v log) keeps)
  sees s i id cs v log r at nothing known more =
      let w : V = with_seen v log in
      let fits = r.each id v at in
      let outs = total-set states_held s.views id v w at in record {
        log = r.log;
        shown = r.shown;
        end = r.end;
        drawn = r.drawn;
        served = r.served;
        words = set-get_or s.words i 0 ∙ r.words;
        legal = r.legal;
        behind = r.behind;
        small = r.small;
        few = r.few;
        most = r.most;
        numbered = λ f. omega (arith, total-set (λ (u : V). total f u.numbers) s.views id v w at, r.numbered f);
        placed = λ f. omega (arith, total-set (λ (u : V). total f u.calls) s.views id v w at, r.placed f);
        queued = λ f. omega (arith, total-set (λ (u : V). total f u.tickets) s.views id v w at, r.queued f);
        each = each_set (Fits key r.log r.shown r.end r.served) s.views id w
            record { seats = fits.seats; opening = fits.opening; seen = λ _. known; placed = λ f. let p = fits.placed f in let q = below-mono f (length v.seen) (length log) (starts-length log v.seen more) in omega arith; joined = starts-nil _; numbered = fits.numbered; queued = fits.queued; held = λ some_held. absurd (some_held nothing) }
            (λ j u _ e. r.each j u e);
        home = ⊎_elim (λ h. inl (omega (arith, h.0), h.1, h.2)) (λ h. inr (omega (arith, h.0), h.1)) r.home;
      }

  pub readings : (slots id : ℕ) (m : M) → m.0.holds ≡ [] → Allows Rule slots id m 3 (λ n. n) (Reads turns low high (step slots 3 0 0 none) m)
  readings slots id m nothing s r wide at small =
      let v : V = m.0 in
      let fits = r.each id v at in
      let more = fits.seen nothing in
      let a = key.state.value in
      let part = legal-prefix turns low high a r.shown r.behind.0 r.end (subst (λ l. IsLegal turns low high a l r.end) r.behind.1 r.legal) in (
        with_seen v r.shown,
        keeps,
        tt,
        sees s 3 id m.1 v r.shown r at nothing (starts-refl r.shown) more,
        (
          r.shown,
          more,
          refl,
          λ b e. subst (λ c. (get_or s.words 3 0 ≡ epochs_word (last_low (low c) r.shown) (last_high (high c) r.shown)) × (last_high (high c) r.shown < 4294967296) × ((z : S) × IsLegal turns low high c r.shown z)) (sym (fits.opening b e))
              (ap (λ ws. get_or ws 3 0) r.words, r.small.1, part),
        ),
      )

  pub compares : (slots id : ℕ) (m : M) → m.0.holds ≡ [] → 0 < length m.0.numbers → Allows Rule slots id m 0 (λ n. n) (Compares (step slots 0 0 0 none) m)
  compares slots id m nothing some_number s r wide at small =
      let v : V = m.0 in
      let fits = r.each id v at in (
        with_seen v v.seen,
        keeps,
        tt,
        sees s 0 id m.1 v v.seen r at nothing (fits.seen nothing) (starts-refl v.seen),
        (refl, fits.joined, fits.placed, λ f. subst (λ (n : ℕ). total f v.numbers ≤ below f n) (sym (fits.seats some_number)) (let t = term_le (λ (u : V). total f u.numbers) s.views id v at in let n = r.numbered f in omega arith)),
      )

  pub splits : (id : ℕ) (v : V) → v.tickets ≡ [] → v.holds ≡ [] → 1 < length v.numbers → Splits Rule id v (without_greatest v) (greatest_alone v)
  splits id v no_ticket nothing two s r at =
      let l : V = without_greatest v in
      let w : V = greatest_alone v in
      let fits = r.each id v at in
      let none_out : length v.holds ≡ 0 = ap length nothing in
      let outs = total-set states_held s.views id v l at in
      let more = total-append states_held (set s.views id l) (w ∷ []) in
      let left_length : length (split_greatest v.numbers).1 + 1 ≡ length v.numbers =
      (let a = split-weight (λ _. 1) v.numbers (omega arith) in let b = total-one (split_greatest v.numbers).1 in let c = total-one v.numbers in omega arith) in record {
        log = r.log;
        shown = r.shown;
        end = r.end;
        drawn = r.drawn;
        served = r.served;
        words = r.words;
        legal = r.legal;
        behind = r.behind;
        small = r.small;
        few = r.few;
        most = r.most;
        numbered = λ f. omega (arith, total-append (λ (u : V). total f u.numbers) (set s.views id l) (w ∷ []), split-weight f v.numbers (omega arith), total-set (λ (u : V). total f u.numbers) s.views id v l at, r.numbered f);
        placed = λ f. omega (arith, total-append (λ (u : V). total f u.calls) (set s.views id l) (w ∷ []), total-set (λ (u : V). total f u.calls) s.views id v l at, r.placed f);
        queued = λ f. omega (arith, total-append (λ (u : V). total f u.tickets) (set s.views id l) (w ∷ []), total-set (λ (u : V). total f u.tickets) s.views id v l at, r.queued f);
        each = λ j u e. ⊎_elim
            (each_set (Fits key r.log r.shown r.end r.served) s.views id l
            record { seats = λ _. fits.seats (omega arith); opening = fits.opening; seen = fits.seen; placed = fits.placed; joined = fits.joined; numbered = λ no. absurd (let z : length (split_greatest v.numbers).1 ≡ 0 = ap length no in omega arith); queued = (let z : length v.tickets ≡ 0 = ap length no_ticket in omega arith); held = λ some_held. absurd (some_held nothing) }
            (λ j u _ e. r.each j u e) j u)
            (λ (same : w ≡ u). subst (Fits key r.log r.shown r.end r.served) same
            record { seats = λ _. fits.seats (omega arith); opening = fits.opening; seen = λ _. fits.seen nothing; placed = λ f. omega arith; joined = starts-nil _; numbered = λ _. refl; queued = omega arith; held = λ some_held. absurd (some_held refl) })
            (at_snoc (set s.views id l) w u j e);
        home = ⊎_elim (λ h. inl (omega (arith, h.0), h.1, h.2)) (λ h. inr (omega (arith, h.0), h.1)) r.home;
      }

  pub joins : (id : ℕ) (v : V) (other : ℕ) (u : V) → v.tickets ≡ [] → v.holds ≡ [] → u.tickets ≡ [] → u.holds ≡ [] → 0 < length v.numbers → Joins Rule id v other u (joined_view v u) spent_view
  joins id v other u no_ticket nothing no_ticket' nothing' some_number s r at apart there' =
      let b : V = joined_view v u in
      let w : V = spent_view in
      let fits = r.each id v at in
      let there : get_elem? s.views other ≡ some u = ⊎_elim (λ (t : (other ≡ id) × (b ≡ u)). absurd (apart t.0)) (λ (t : (other ≢ id) × (get_elem? s.views other ≡ some u)). t.1) (at_set s.views id other b u there') in
      let fits' = r.each other u there in
      let x : length v.holds ≡ 0 = ap length nothing in
      let x' : length u.holds ≡ 0 = ap length nothing' in
      let outs = total-set states_held s.views id v b at in
      let outs' = total-set states_held (set s.views id b) other u w there' in
      let best = longest r.shown v.seen u.seen (fits.seen nothing) (fits'.seen nothing') in
      let long : length r.shown ≤ length r.log = starts-length r.log r.shown r.behind in record {
        log = r.log;
        shown = r.shown;
        end = r.end;
        drawn = r.drawn;
        served = r.served;
        words = r.words;
        legal = r.legal;
        behind = r.behind;
        small = r.small;
        few = r.few;
        most = r.most;
        numbered = λ f. omega (arith, total-append f v.numbers u.numbers, total-set (λ (k : V). total f k.numbers) s.views id v b at, total-set (λ (k : V). total f k.numbers) (set s.views id b) other u w there', r.numbered f);
        placed = λ f. omega (arith, total-append f v.calls u.calls, total-set (λ (k : V). total f k.calls) s.views id v b at, total-set (λ (k : V). total f k.calls) (set s.views id b) other u w there', r.placed f);
        queued = λ f. let z : total f u.tickets ≡ 0 = ap (total f) no_ticket' in omega (arith, total-set (λ (k : V). total f k.tickets) s.views id v b at, total-set (λ (k : V). total f k.tickets) (set s.views id b) other u w there', r.queued f);
        each = each_set (Fits key r.log r.shown r.end r.served) (set s.views id b) other w
            record { seats = λ lt. absurd (omega arith); opening = λ a e. absurd (let z : 0 ≡ 1 = ap length e in omega arith); seen = λ _. starts-nil _; placed = λ f. omega arith; joined = starts-nil _; numbered = λ _. refl; queued = omega arith; held = λ some_held. absurd (some_held refl) }
            (λ j k _ e. each_set (Fits key r.log r.shown r.end r.served) s.views id b
            record {
              seats = λ _. fits.seats some_number;
              opening = fits.opening;
              seen = λ _. longer-starts r.shown v.seen u.seen (fits.seen nothing) (fits'.seen nothing');
              placed = λ f.
                  let n = length (longer v.seen u.seen) in
                  let a = total-append f v.calls u.calls in
                  let c = total-cut n f v.calls in
                  let c' = total-cut n f u.calls in
                  let p = fits.placed (past n f) in
                  let p' = fits'.placed (past n f) in
                  let q = below-past n f (length v.seen) best.1 in
                  let q' = below-past n f (length u.seen) best.2 in
                  let all = r.placed (cut n f) in
                  let two = terms_le (λ (k : V). total (cut n f) k.calls) s.views id other v u apart at there in
                  let most = below-cut n f (length r.log) in omega arith;
              joined = best.0;
              numbered = λ no. absurd (let z : length (v.numbers ++ u.numbers) ≡ 0 = ap length no in let y = length-append v.numbers u.numbers in omega arith);
              queued = (let z : length v.tickets ≡ 0 = ap length no_ticket in omega arith);
              held = λ some_held. absurd (some_held nothing);
            }
            (λ j k _ e. r.each j k e) j k e);
        home = ⊎_elim (λ h. inl (omega (arith, h.0), h.1, h.2)) (λ h. inr (omega (arith, h.0), h.1)) r.home;
      }

  -- the state of a gate of which one idle seat has all numbers
  pub ends : (id : ℕ) (v : V) (ws : List ℕ) (xs : List (Slot S E O)) → v.holds ≡ [] → ((f : ℕ → ℕ) → total f v.numbers ≡ below f key.seats) → Final (Seen Rule id v) ws xs
      → (z : S) × (n : ℕ) × (get_elem? xs 0 ≡ some (In z n)) × IsLegal turns low high key.state.value v.seen z × ((f : ℕ → ℕ) → total f v.calls ≡ below f (length v.seen))
  ends id v ws xs nothing all h =
      let s = h.0 in
      let r = h.1.0 in
      let at = h.1.1 in
      let fits = r.each id v at in
      let no : length v.holds ≡ 0 = ap length nothing in
      let seats : length v.numbers ≡ key.seats = (let a = all (λ _. 1) in let b = total-one v.numbers in let c = below-one key.seats in omega arith) in
      let counted : total (λ (u : V). total (λ _. 1) u.numbers) s.views ≡ key.seats = r.numbered (λ _. 1) ∙ below-one key.seats in
      let mine_one : total (λ _. 1) v.numbers ≡ key.seats = total-one v.numbers ∙ seats in
      let rest_out = total-rest states_held (λ (u : V). total (λ _. 1) u.numbers) s.views id v
      (λ j u e. dite (ℕ_discrete (length u.holds) 0) (λ z. omega arith)
      (λ some_held. let k = r.each j u e in let d = k.held (λ z. some_held (ap length z)) in let x : length u.holds ≡ 1 = ap length d.0 in let y : length u.tickets ≡ 1 = ap length d.2 in let q = k.queued in let o = total-one u.numbers in omega arith))
      at no in
      let home : (s.homes ≡ some (In r.end (length r.log)) ∷ []) × (r.shown ≡ r.log) = ⊎_elim (λ t. (t.1, t.2)) (λ t. absurd (omega (arith, t.0))) r.home in
      let others : (f : ℕ → ℕ) (j : ℕ) (u : V) → j ≢ id → get_elem? s.views j ≡ some u → total f u.calls ≡ 0 =
      λ f j u ne e. ap (total f) ((r.each j u e).numbered (length-nil u.numbers (let t = terms_le (λ (k : V). total (λ _. 1) k.numbers) s.views id j v u ne at e in let o = total-one u.numbers in omega arith))) in
      let whole : (f : ℕ → ℕ) → total f v.calls ≡ below f (length r.log) = λ f. sym (total-only (λ (u : V). total f u.calls) s.views id v (others f) at) ∙ r.placed f in
      let saw = fits.seen nothing in
      let same : v.seen ≡ r.log = starts-whole r.log v.seen (subst (λ l. StartsWith l v.seen) home.1 saw) (let a = whole (λ _. 1) in let b = below-one (length r.log) in let p = fits.placed (λ _. 1) in let q = below-one (length v.seen) in omega arith) in (
        r.end,
        length r.log,
        h.4 0 (In r.end (length r.log)) (ap (λ hs. get_elem? hs 0) home.0),
        subst (λ l. IsLegal turns low high key.state.value l r.end) (sym same) r.legal,
        λ f. whole f ∙ ap (λ l. below f (length l)) (sym same),
      )
