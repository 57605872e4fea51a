-- What the function that reads an arena gives, and where it leads.
use Rattle.std.proofs.Common.{◌≡◌, ◌≢◌, ◌∙◌, inl, inr, ℕ, zero, suc, ◌+◌, ◌*◌, ◌&&◌, Bool, true, false, cond, nat_eq, nat_lt, bytes_eq, List, [], ◌∷◌, slice_index_or, take, drop, refl, sym, ap, arith}
use Rattle.std.proofs.lemmas.Bool.Decides.{Decides-eqb}
use Rattle.std.proofs.lemmas.Slice.Eq.{bytes_eq-Decides}
use Rattle.std.proofs.lemmas.List.{get_or-drop}
use Rattle.sha1.specs.Sha1.{sha1}
use Rattle.fo_image.specs.declared.types.Score.{Score}
use Rattle.fo_image.specs.declared.types.Kind.{Kind}
use Rattle.fo_image.specs.declared.types.Kind.TheVariants.{Data, Dir, Root}
use Rattle.fo_image.specs.declared.types.Pointer.TheVariants.{Nil, Local, Score as ToScore}
use Rattle.fo_image.specs.declared.types.ArenaLine.{ArenaLine}
use Rattle.fo_crash.specs.declared.slot.Slot.TheVariants.{Pointer as To, Entry as Head}
use Rattle.fo_crash.specs.Images.{target}
use Rattle.fo_vacput.specs.declared.types.VacEntry.{VacEntry}
use Rattle.venti_store.specs.Held.{stored_at, HasName}
use Rattle.fo_vac_open.specs.Held.{first_held, pointer_to, entry_for, entry_in, slot_in}
use Rattle.fo_vac_open.specs.Laws.{AreApart, HeldIs, StaysInArena}

both : (b c : Bool) → (b && c) ≡ true → (b ≡ true) × (c ≡ true)
both true true h = (refl, refl)
both true false h = absurd cc
both false c h = absurd cc

is_named : (score other : List ℕ) (kind number : ℕ) → score ≡ other → kind ≡ number → (bytes_eq score other && nat_eq kind number) ≡ true
is_named score other kind number e f = rw ((bytes_eq-Decides score other).1 e, (Decides-eqb kind number).1 f) refl

next : (place : ℕ) → 1 + place ≡ suc place
next place = omega arith

first_is : (lines : List ArenaLine) (stored : List (List ℕ)) (score : List ℕ) (kind place : ℕ) → AreApart lines → HasName lines score kind place → first_held lines stored score kind ≡ stored_at stored place
unfolding first_held
first_is [] stored score kind place apart h = absurd (omega (arith, h.used))
first_is (line ∷ lines) stored score kind zero apart h =
    ap (λ b. cond b (slice_index_or stored 0 []) (first_held lines (drop 1 stored) score kind)) (is_named line.score.0 score line.kind kind h.score_is h.kind_is)
first_is (line ∷ lines) stored score kind (suc place) apart h =
    ap (λ b. cond b (slice_index_or stored 0 []) (first_held lines (drop 1 stored) score kind)) (other _ refl)
    ∙ first_is lines (drop 1 stored) score kind place (λ one more lt used. apart (suc one) (suc more) (omega (arith, lt)) (omega (arith, used))) (record { used = omega (arith, h.used); score_is = h.score_is; kind_is = h.kind_is })
    ∙ get_or-drop 1 stored place []
    ∙ ap (λ n. slice_index_or stored n []) (next place)
  where
    other : (b : Bool) → (bytes_eq line.score.0 score && nat_eq line.kind kind) ≡ b → b ≡ false
    other false is = refl
    other true is =
        let at = both _ _ is in
        let score_is = (bytes_eq-Decides line.score.0 score).0 at.0 ∙ sym h.score_is in
        let kind_is = (Decides-eqb line.kind kind).0 at.1 ∙ sym h.kind_is in
        absurd (apart 0 (suc place) (omega arith) h.used (λ i. (score_is i, kind_is i)))

pub held_is : HeldIs
held_is lines stored score kind bytes apart (inl a) = ap (λ b. cond b [] (first_held lines stored score kind)) ((bytes_eq-Decides score (sha1 [])).1 a.0) ∙ sym a.1
held_is lines stored score kind bytes apart (inr (some, place, at, is)) =
    ap (λ b. cond b [] (first_held lines stored score kind)) (other _ refl) ∙ first_is lines stored score kind place apart at ∙ sym is
  where
    other : (b : Bool) → bytes_eq score (sha1 []) ≡ b → b ≡ false
    other false e = refl
    other true e = absurd (some ((bytes_eq-Decides score (sha1 [])).0 e))

-- ---- pointers of archives

to_score : (b : Bool) (score : Score) (at : ℕ) → cond b Nil (ToScore score) ≢ Local at
to_score true score at e = absurd cc
to_score false score at e = absurd cc

to_block : (b : Bool) (score : List ℕ) (at : ℕ) → target (cond b (To (pointer_to score)) (To Nil)) ≢ Local at
to_block true score at e = to_score _ _ at e
to_block false score at e = absurd cc

of_entry : (active : Bool) (score : List ℕ) (at : ℕ) → cond active (pointer_to score) Nil ≢ Local at
of_entry true score at e = to_score _ _ at e
of_entry false score at e = absurd cc

to_source : (b : Bool) (e : VacEntry) (at : ℕ) → target (cond b (Head (entry_for e)) (To Nil)) ≢ Local at
to_source true e at is = of_entry e.active e.score.0 at is
to_source false e at is = absurd cc

stays : (kind : Kind) (block : List ℕ) (i at : ℕ) → target (slot_in kind block i) ≢ Local at
stays (Data zero) block i at e = absurd cc
stays (Data (suc level)) block i at e = to_block (nat_lt i 409) (take 20 (drop (20 * i) block)) at e
stays (Dir zero) block i at e = to_source (nat_lt i 204) (entry_in (take 40 (drop (40 * i) block))) at e
stays (Dir (suc level)) block i at e = to_block (nat_lt i 409) (take 20 (drop (20 * i) block)) at e
stays Root block i at e = absurd cc

pub stays_in_arena : StaysInArena
stays_in_arena lines stored = record { apart = λ kind score i at. stays kind _ i at }
