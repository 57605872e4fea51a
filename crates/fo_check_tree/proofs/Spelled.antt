-- Bytes spell one label at most.
use Rattle.std.proofs.Common.{◌≡◌, ℕ, ◌%◌, ◌<◌, ◌^◌, List, get_or, refl, sym, subst, ◌∙◌, ap, arith}
use Rattle.std.proofs.lemmas.Nat.{from_be_bytes-to_be_bytes_4}
use Rattle.fo_disk.specs.Disk.{Block}
use Rattle.fo_image.specs.declared.types.Kind.{Kind}
use Rattle.fo_image.specs.declared.types.Kind.TheVariants.{Data, Dir, Root}
use Rattle.fo_image.specs.declared.types.State.{State}
use Rattle.fo_image.specs.declared.types.State.TheVariants.{Free, Live, Closed}
use Rattle.fo_image.specs.declared.types.Label.{Label}
use Rattle.fo_image.specs.Field.{Four, number_at}
use Rattle.fo_image.specs.Format.{state_code, kind_code, KindHolds, StateHolds, LabelHolds, SpellsLabel}
use Rattle.fo_sound.specs.Image.{HasLabel, label_bytes}

small : (n : ℕ) → n < 2 ^ 8 → n % 256 ≡ n
small n lt = omega arith

record LabelAt (bytes : List ℕ) (l : Label) : Type 0 where
  state : get_or bytes 0 0 ≡ state_code l.state
  kind : get_or bytes 1 0 ≡ kind_code l.kind
  epoch : number_at Four 2 bytes ≡ l.epoch
  closing : number_at Four 6 bytes ≡ l.closing
  tag : number_at Four 10 bytes ≡ l.tag

label_at : (bytes : List ℕ) (l : Label) → SpellsLabel l bytes → LabelAt bytes l
unfolding number_at
label_at bytes l s = subst (λ b. LabelAt b l) (sym s.bytes_are) (record {
  state = small (state_code l.state) s.fit.0;
  kind = small (kind_code l.kind) s.fit.1.0;
  epoch = from_be_bytes-to_be_bytes_4 l.epoch s.fit.1.1.0;
  closing = from_be_bytes-to_be_bytes_4 l.closing s.fit.1.1.1.0;
  tag = from_be_bytes-to_be_bytes_4 l.tag s.fit.1.1.1.1.0;
})

kind_in_state : (s : State) (l : Label) → StateHolds s l → KindHolds l.kind
kind_in_state Free l h = subst KindHolds (sym h.0) (omega arith)
kind_in_state Live l h = h.0
kind_in_state Closed l h = h.0

kind_holds : (l : Label) → LabelHolds l → KindHolds l.kind
kind_holds l h = kind_in_state l.state l h.state_holds

same_state : (x y : State) → state_code x ≡ state_code y → x ≡ y
same_state Free Free e = refl
same_state Free Live e = absurd (omega (arith, e))
same_state Free Closed e = absurd (omega (arith, e))
same_state Live Free e = absurd (omega (arith, e))
same_state Live Live e = refl
same_state Live Closed e = absurd (omega (arith, e))
same_state Closed Free e = absurd (omega (arith, e))
same_state Closed Live e = absurd (omega (arith, e))
same_state Closed Closed e = refl

same_kind : (x y : Kind) → KindHolds x → KindHolds y → kind_code x ≡ kind_code y → x ≡ y
same_kind (Data a) (Data b) p q e = ap (λ (n : ℕ). Data n) e
same_kind (Data a) (Dir b) p q e = absurd (omega (arith, p, q, e))
same_kind (Data a) Root p q e = absurd (omega (arith, p, q, e))
same_kind (Dir a) (Data b) p q e = absurd (omega (arith, p, q, e))
same_kind (Dir a) (Dir b) p q e = ap (λ (n : ℕ). Dir n) (omega (arith, e))
same_kind (Dir a) Root p q e = absurd (omega (arith, p, q, e))
same_kind Root (Data b) p q e = absurd (omega (arith, p, q, e))
same_kind Root (Dir b) p q e = absurd (omega (arith, p, q, e))
same_kind Root Root p q e = refl

same_fields : (l m : Label) → l.state ≡ m.state → l.kind ≡ m.kind → l.tag ≡ m.tag → l.epoch ≡ m.epoch → l.closing ≡ m.closing → l ≡ m
same_fields l m a b c d e = λ k. record { state = a k; kind = b k; tag = c k; epoch = d k; closing = e k }

pub only_spelled : (bytes : List ℕ) (l m : Label) → SpellsLabel l bytes → SpellsLabel m bytes → l ≡ m
only_spelled bytes l m a b =
    let x = label_at bytes l a in
    let y = label_at bytes m b in
    same_fields l m
    (same_state l.state m.state (sym x.state ∙ y.state))
    (same_kind l.kind m.kind (kind_holds l a.holds) (kind_holds m b.holds) (sym x.kind ∙ y.kind))
    (sym x.tag ∙ y.tag) (sym x.epoch ∙ y.epoch) (sym x.closing ∙ y.closing)

pub only_has : (device : List Block) (at : ℕ) (l m : Label) → HasLabel device at l → HasLabel device at m → l ≡ m
only_has device at l m a b = only_spelled (label_bytes device at) l m a.spelled b.spelled
