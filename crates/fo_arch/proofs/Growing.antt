-- An arena that holds more.
use Rattle.std.proofs.Common.{◌≡◌, ◌≢◌, ◌⊎◌, ⊎_elim, inl, inr, ℕ, zero, suc, ◌+◌, ◌<◌, ◌≤◌, Bool, true, false, bytes_eq, List, [], ◌∷◌, ◌++◌, length, get_or, take, append_assoc, length-append, refl, sym, ◌∙◌, ap, subst, arith}
use Rattle.std.proofs.lemmas.List.{append-nil}
use Rattle.std.proofs.lemmas.Bool.{cases_eq}
use Rattle.std.proofs.lemmas.Slice.Eq.{bytes_eq-Decides}
use Rattle.std.proofs.lemmas.Grind.{common_steps}
use Rattle.sha1.specs.Sha1.{sha1}
use Rattle.fo_disk.specs.Disk.{Block}
use Rattle.fo_image.specs.declared.types.ArenaLine.{ArenaLine}
use Rattle.fo_image.specs.Format.{SpellsArenaLine}
use Rattle.fo_image.specs.Place.{line_block, stored_block}
use Rattle.fo_sound.specs.Image.{block_of}
use Rattle.venti_store.specs.Held.{line_at, stored_at, no_line, name_of, line_bytes, HasName, IsNamed, IsHeld, Recovers}
use Rattle.fo_arch.specs.Stores.{IsMore}

pub more_none : {X : Type 0} (xs ys : List X) → ys ≡ xs → IsMore xs ys
more_none xs ys is = record { added = []; is = is ∙ sym (append-nil xs) }

pub more_one : {X : Type 0} (xs ys : List X) (x : X) → ys ≡ xs ++ x ∷ [] → IsMore xs ys
more_one xs ys x is = record { added = x ∷ []; is = is }

pub more_joins : {X : Type 0} {xs ys zs : List X} → IsMore xs ys → IsMore ys zs → IsMore xs zs
more_joins {xs = xs} {ys = ys} {zs = zs} p q = record { added = p.added ++ q.added; is = q.is ∙ ap (λ (l : List _). l ++ q.added) p.is ∙ append_assoc xs p.added q.added }

more_length : {X : Type 0} {xs ys : List X} → IsMore xs ys → length xs ≤ length ys
more_length {xs = xs} {ys = ys} p =
    let e : length ys ≡ length xs + length p.added = ap length p.is ∙ length-append xs p.added in
    omega (arith, e)

left_same : {X : Type 0} (xs ys : List X) (i : ℕ) (d : X) → i < length xs → get_or (xs ++ ys) i d ≡ get_or xs i d
left_same xs ys i d lt = grind (arith, common_steps)

line_same : {lines now : List ArenaLine} → IsMore lines now → (place : ℕ) → place < length lines → line_at now place ≡ line_at lines place
line_same {lines = lines} {now = now} p place lt = ap (λ (l : List ArenaLine). line_at l place) p.is ∙ left_same lines p.added place no_line lt

bytes_same : {stored held : List (List ℕ)} → IsMore stored held → (place : ℕ) → place < length stored → stored_at held place ≡ stored_at stored place
bytes_same {stored = stored} {held = held} p place lt = ap (λ (l : List (List ℕ)). stored_at l place) p.is ∙ left_same stored p.added place [] lt

pub name_more : {lines now : List ArenaLine} {score : List ℕ} {kind place : ℕ} → IsMore lines now → HasName lines score kind place → HasName now score kind place
name_more {place = place} p h =
    let same = line_same p place h.used in
    let le = more_length p in record {
      used = omega (arith, h.used, le);
      score_is = ap (λ (l : ArenaLine). l.score.0) same ∙ h.score_is;
      kind_is = ap (λ (l : ArenaLine). l.kind) same ∙ h.kind_is;
    }

pub named_more : {lines now : List ArenaLine} (score : List ℕ) (kind : ℕ) → IsMore lines now → IsNamed lines score kind → IsNamed now score kind
named_more score kind p (inl empty) = inl empty
named_more score kind p (inr (place, h)) = inr (place, name_more p h)

pub held_more : {lines now : List ArenaLine} {stored held : List (List ℕ)} (score : List ℕ) (kind : ℕ) (bytes : List ℕ) → IsMore lines now → IsMore stored held → length stored ≡ length lines → IsHeld lines stored score kind bytes → IsHeld now held score kind bytes
held_more score kind bytes p q count (inl empty) = inl empty
held_more score kind bytes p q count (inr (some, place, h, is)) = inr (some, place, name_more p h, is ∙ sym (bytes_same q place (omega (arith, h.used, count))))

pub recovers_more : {lines now : List ArenaLine} {stored held : List (List ℕ)} (synced : ℕ) → IsMore lines now → IsMore stored held → length stored ≡ length lines → (vault : List Block) → Recovers synced lines stored vault → Recovers synced now held vault
recovers_more {lines = lines} {now = now} {stored = stored} {held = held} synced p q count vault (used, from, to, arena) =
    let longer = more_length p in (
      used,
      from,
      omega (arith, to, longer),
      record {
        indexed = record {
          least = arena.indexed.least;
          most = arena.indexed.most;
          arena = arena.indexed.arena;
          line = λ place lt. subst (λ (l : ArenaLine). SpellsArenaLine l (line_bytes place (block_of vault (line_block place)))) (sym (line_same p place (omega (arith, lt, to)))) (arena.indexed.line place lt);
          apart = λ one other lt within same. arena.indexed.apart one other lt within
              (ap name_of (sym (line_same p one (omega (arith, lt, within, to)))) ∙ same ∙ ap name_of (line_same p other (omega (arith, within, to))));
        };
        bytes = λ place lt.
            bytes_same q place (omega (arith, lt, to, count))
            ∙ arena.bytes place lt
            ∙ ap (λ (l : ArenaLine). take l.len (block_of vault (stored_block place))) (sym (line_same p place (omega (arith, lt, to))));
      },
    )

-- ---- whether a block is named can be decided

shift_name : {line : ArenaLine} {lines : List ArenaLine} {score : List ℕ} {kind place : ℕ} → HasName lines score kind place → HasName (line ∷ lines) score kind (suc place)
shift_name {place = place} h = record { used = omega (arith, h.used); score_is = h.score_is; kind_is = h.kind_is }

unshift_name : {line : ArenaLine} {lines : List ArenaLine} {score : List ℕ} {kind : ℕ} (place : ℕ) → HasName (line ∷ lines) score kind (suc place) → HasName lines score kind place
unshift_name place h = record { used = omega (arith, h.used); score_is = h.score_is; kind_is = h.kind_is }

abbrev HasPlace : List ArenaLine → List ℕ → ℕ → Type 0
HasPlace lines score kind = (place : ℕ) × HasName lines score kind place

same_bytes : (xs ys : List ℕ) → (xs ≡ ys) ⊎ (xs ≢ ys)
same_bytes xs ys = by (bytes_eq xs ys) refl
  where
    by : (b : Bool) → bytes_eq xs ys ≡ b → (xs ≡ ys) ⊎ (xs ≢ ys)
    by true is = inl ((bytes_eq-Decides xs ys).0 is)
    by false is = inr (λ same. absurd (apart (sym is ∙ (bytes_eq-Decides xs ys).1 same)))
      where
        apart : false ≡ true → ⊥
        apart e = cc

has_place : (lines : List ArenaLine) (score : List ℕ) (kind : ℕ) → HasPlace lines score kind ⊎ (HasPlace lines score kind → ⊥)
has_place [] score kind = inr (λ (place, h). absurd (omega (arith, h.used)))
has_place (line ∷ lines) score kind = either (has_place lines score kind)
  where
    later : (place : ℕ) → HasName (line ∷ lines) score kind place → (HasName (line ∷ lines) score kind 0 → ⊥) → (HasPlace lines score kind → ⊥) → ⊥
    later zero h not_first none = not_first h
    later (suc place) h not_first none = none (place, unshift_name place h)

    rest : HasPlace lines score kind ⊎ (HasPlace lines score kind → ⊥) → (HasName (line ∷ lines) score kind 0 → ⊥) → HasPlace (line ∷ lines) score kind ⊎ (HasPlace (line ∷ lines) score kind → ⊥)
    rest tail not_first = ⊎_elim (λ (place, h). inl (suc place, shift_name h)) (λ none. inr (λ at. later at.0 at.1 not_first none)) tail

    either : HasPlace lines score kind ⊎ (HasPlace lines score kind → ⊥) → HasPlace (line ∷ lines) score kind ⊎ (HasPlace (line ∷ lines) score kind → ⊥)
    either tail = ⊎_elim
        (λ same. ⊎_elim (λ code. inl (0, record { used = omega arith; score_is = same; kind_is = code })) (λ other. rest tail (λ h. other h.kind_is)) (cases_eq line.kind kind))
        (λ other. rest tail (λ h. other h.score_is))
        (same_bytes line.score.0 score)

pub named_or_not : (lines : List ArenaLine) (score : List ℕ) (kind : ℕ) → IsNamed lines score kind ⊎ (IsNamed lines score kind → ⊥)
named_or_not lines score kind = ⊎_elim
    (λ empty. inl (inl empty))
    (λ some. ⊎_elim (λ place. inl (inr place)) (λ none. inr (λ named. ⊎_elim some none named)) (has_place lines score kind))
    (same_bytes score (sha1 []))
