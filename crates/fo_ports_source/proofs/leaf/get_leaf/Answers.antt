use Rattle.std.proofs.Common.{◌≡◌, ◌⊎◌, ◌≤◌, ◌+◌, ◌-◌, ℕ, List, length, drop, sym, ◌∙◌, ap, subst, ⊎_elim, arith}
use Rattle.std.proofs.lemmas.List.{length-drop}
use Rattle.fo_image.specs.declared.types.Kind.{Kind}
use Rattle.fo_image.specs.declared.types.Kind.TheVariants.{Data, Dir}
use Rattle.fo_crash.specs.Images.{Content}
use Rattle.fo_ports.specs.Blocks.{Reads}
use Rattle.fo_ports_source.proofs.leaf.get_leaf.Goals as goal

same_length : (n : ℕ) (xs ys : List ℕ) → n + 1 ≤ length xs → drop n xs ≡ drop n ys → length xs ≡ length ys
same_length n xs ys some e =
    let both : length xs - n ≡ length ys - n = sym (length-drop n xs) ∙ ap length e ∙ length-drop n ys in
    omega (arith, both, some)

long_reads : (kind : Kind) (c : Content) (bytes : List ℕ) → (kind ≡ Data 0) ⊎ (kind ≡ Dir 0) → Reads kind c bytes → length bytes ≡ 8192 → length c.bytes ≡ 8192
long_reads kind c bytes is reads long = ⊎_elim
    (λ e. sym (same_length 0 bytes c.bytes (omega (arith, long)) (subst (λ k. Reads k c bytes) e reads).behind) ∙ long)
    (λ e. sym (same_length 8160 bytes c.bytes (omega (arith, long)) (subst (λ k. Reads k c bytes) e reads).behind) ∙ long)
    is

pub returns-clause-long : goal.returns-clause-long
returns-clause-long g c = long_reads c.args.kind ((g.B.Blocks.state c.get.new.self).now c.args.at) c.get.new.into c.requires.kind c.in_ok-get.ensures.bytes.0 (c.get.auto.into ∙ c.requires.length)
