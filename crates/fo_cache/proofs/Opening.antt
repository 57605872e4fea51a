-- A cache in which nothing is held fits a device that is settled.
use Rattle.std.proofs.Common.{◌≡◌, ⊎_elim, ℕ, ◌<◌, ◌≤◌, Bool, List, length, replicate, Some, None, sym, ap, ◌∙◌, subst, arith}
use Rattle.std.specs.List.{Contains}
use Rattle.std.proofs.lemmas.Bool.{cases_lt}
use Rattle.std.proofs.lemmas.List.{length-replicate, get_or-replicate, get_or_past}
use Rattle.lru.proofs.Splits.{Contains-nil}
use Rattle.fo_disk.specs.Disk.{Content, IsSettled, latest_of, versions_of}
use Rattle.fo_buffers.specs.declared.block.Buffer.{Buffer}
use Rattle.fo_buffers.specs.Held.{held_at}
use Rattle.fo_order.specs.declared.marks.Tried.TheVariants.{Settled, Written}
use Rattle.fo_order.specs.Flags.{quiet}
use Rattle.fo_order.specs.Turns.{flag_at}
use Rattle.fo_mind.specs.Opened.{no_turns, opened}
use Rattle.fo_mind.specs.Parts.{Parts, count_of}
use Rattle.fo_mind.proofs.Starting.{none}
use Rattle.fo_labels.specs.Spelled.{SpellsLabels}
use Rattle.fo_cache.specs.Fits.{Fits, FitsLabels}

settled_written : {A : Type 0} → Settled ≡ Written → A
settled_written e = cc

none_some : {A : Type 0} (x : Buffer) → None ≡ Some x → A
none_some x e = cc

pub calm_opened : (n b : ℕ) → flag_at (no_turns n) b ≡ quiet
calm_opened n b = ⊎_elim (λ lt. get_or-replicate n b quiet quiet lt) (λ ge. get_or_past (replicate n quiet) b quiet (let l = length-replicate n quiet in omega (arith, ge, l))) (cases_lt b n)

pub fits_opened : (p : Parts) (holds : Content) (unsure : List Bool) → p ≡ opened p.region p.one p.one_bytes → ((b : ℕ) → b < length holds → IsSettled holds b) → Fits (record p { disk = holds }) unsure
fits_opened p holds unsure is settled = record {
  each = λ b le lt.
      let one = settled b lt in
      let calm = ap (λ (x : Parts). flag_at x.turns b) is ∙ calm_opened (count_of p.region) b in
      record {
        some = omega (arith, one);
        settled = λ e. one;
        sure = λ e. settled_written (sym (ap (λ f. f.tried) calm) ∙ e);
        held = λ x e clean. none_some x (sym (ap (λ (z : Parts). held_at z.held b) is ∙ none b) ∙ e);
        listed = λ bytes free c. absurd (Contains-nil (b, bytes) (subst (λ (z : Parts). Contains z.held.clean (b, bytes)) is c));
      };
}

pub labels_opened : (p : Parts) (holds : Content) (unsure : List Bool) → p ≡ opened p.region p.one p.one_bytes → ((b : ℕ) → b < length holds → IsSettled holds b) → ((b : ℕ) → 2 ≤ b → b < p.region.first → b < length holds → SpellsLabels p.region b (latest_of (versions_of holds b))) → FitsLabels (record p { disk = holds }) unsure
labels_opened p holds unsure is settled spelled = record {
  each = λ b two before lt.
      let one = settled b lt in
      let calm = ap (λ (x : Parts). flag_at x.turns b) is ∙ calm_opened (count_of p.region) b in
      record {
        some = omega (arith, one);
        settled = λ e. one;
        sure = λ e. settled_written (sym (ap (λ f. f.tried) calm) ∙ e);
        spelled = λ e. spelled b two before lt;
      };
}
