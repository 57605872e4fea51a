use Rattle.std.proofs.Common.{◌≡◌, ◌<◌, length, Some, None, MatchOption, sym, ◌∙◌, refl, subst, arith, ◌⊎◌, ⊎_elim, inl, inr}
use Rattle.std.proofs.lemmas.List.{get_or_default}
use Rattle.std.proofs.Math.ListN.{set}
use Rattle.fo_crash.specs.Images.{SameContent}
use Rattle.fo_ports.specs.Blocks.{blank}
use Rattle.fo_ports.specs.Sources.{Made}
use Rattle.fo_ports_source.specs.Source.{leaf_of, IsCurrent}
use Rattle.fo_ports_source.proofs.Steps.{steps_wider}
use Rattle.fo_ports_source.proofs.Leaves.{OwnsOne, own_bytes, own_over, own_grew}
use Rattle.fo_ports_source.proofs.source.PlainSource.own.Given as given
use Rattle.fo_ports_source.proofs.source.PlainSource.own.Goals as goal

pub own_block-at-requires-clause-leaf : goal.own_block-at-requires-clause-leaf
own_block-at-requires-clause-leaf g c = λ at e.
    let over = c.requires.over in
    let within = over.within in
    let inside = c.requires.within in
    let few : c.args.i < length c.args.self.now.leaves.items = omega (arith, within, inside) in
    over.leaf c.args.i at (get_or_default c.args.self.now.leaves.items c.args.i None c.index.result.now few ∙ sym c.index.ensures ∙ e)

pub own_block-at-requires-clause-held : goal.own_block-at-requires-clause-held
own_block-at-requires-clause-held g c = λ at e.
    let over = c.requires.over in
    let within = over.within in
    let inside = c.requires.within in
    let few : c.args.i < length c.args.self.now.leaves.items = omega (arith, within, inside) in
    c.requires.held at (get_or_default c.args.self.now.leaves.items c.args.i None c.index.result.now few ∙ sym c.index.ensures ∙ e)

pub own_block-at-requires-clause-spare : goal.own_block-at-requires-clause-spare
own_block-at-requires-clause-spare g c =
    let over = c.requires.over in
    let within = over.within in
    let inside = c.requires.within in
    let few : c.args.i < length c.args.self.now.leaves.items = omega (arith, within, inside) in
    let read : leaf_of c.args.self.now.leaves.items c.args.i ≡ c.index.result.now = get_or_default c.args.self.now.leaves.items c.args.i None c.index.result.now few ∙ sym c.index.ensures in
    ⊎_elim (λ h. inl (subst (λ leaf. IsCurrent (g.B.Blocks.state c.args.on.now) leaf) read h)) (λ h. inr h) c.requires.spare

is_read : (g : given.Over) (c : goal.After-self-1 g) → c.index.result.now ≡ leaf_of c.args.self.now.leaves.items c.args.i
is_read g c =
    let within = c.requires.over.within in
    let inside = c.requires.within in
    let few : c.args.i < length c.args.self.now.leaves.items = omega (arith, within, inside) in
    c.index.ensures ∙ get_or_default c.args.self.now.leaves.items c.args.i c.index.result.now None few

one : (g : given.Over) (c : goal.After-self-1 g) → OwnsOne c.args.self.now.kind c.args.self.now.tag c.args.self.now.rank c.args.self.now.size c.args.self.now.leaves.items (set c.args.self.now.leaves.items c.args.i (Some c.own_block-at.result)) c.args.i c.own_block-at.result (g.B.Blocks.state c.args.on.now) (g.B.Blocks.state c.own_block-at.new.on)
one g c =
    let old = g.B.Blocks.state c.args.on.now in
    let new = g.B.Blocks.state c.own_block-at.new.on in
    let r = c.own_block-at.result in
    let read = is_read g c in
    let e = c.own_block-at.ensures in
    record {
      over = c.requires.over;
      inside = c.requires.within;
      set_is = refl;
      content = subst (λ leaf. MatchOption leaf (SameContent (new.now r) (blank c.args.self.now.kind)) (λ at. SameContent (new.now r) (old.now at))) read e.content;
      copied = subst (λ leaf. MatchOption leaf (Made old new r) (λ at. ((at ≡ r) × ((old.label at).epoch ≡ old.high)) ⊎ (((old.label at).epoch < old.high) × Made old new r))) read e.copied;
      own = e.own;
      steps = steps_wider (λ x is. record { number = c.args.i; is = sym read ∙ is }) (λ b h. h) e.steps;
      only = e.only;
    }

pub returns-clause-over : goal.returns-clause-over
returns-clause-over g c = own_over (one g c)

pub returns-clause-bytes : goal.returns-clause-bytes
returns-clause-bytes g c = own_bytes (one g c)

pub returns-clause-steps : goal.returns-clause-steps
returns-clause-steps g c = (one g c).steps

pub returns-clause-spare : goal.returns-clause-spare
returns-clause-spare g c = (c.own_block-at.ensures.spare.0, λ current. c.own_block-at.ensures.spare.1 (subst (λ leaf. IsCurrent (g.B.Blocks.state c.args.on.now) leaf) (sym (is_read g c)) current))

pub returns-clause-grew : goal.returns-clause-grew
returns-clause-grew g c = own_grew (one g c)
