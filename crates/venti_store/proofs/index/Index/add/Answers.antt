use Rattle.std.proofs.Common.{ℕ, Some, List, [], ◌∷◌, ◌++◌, length, ap, subst, ◌∙◌, arith}
use Rattle.fo_image.specs.declared.types.ArenaLine.{ArenaLine}
use Rattle.fo_image.specs.Format.{ArenaLineHolds}
use Rattle.std.specs.BTreeMap.{Updates}
use Rattle.venti_store.specs.Held.{name_of}
use Rattle.venti_store.specs.Names.{name_cmp}
use Rattle.venti_store.proofs.Names.{Adding, found_more, used_more, named_more, each_more}
use Rattle.venti_store.proofs.index.Index.add.Goals as goal

pub invariant_of-self-2 : goal.invariant_of-self-2
invariant_of-self-2 c =
    let a : Adding c.args.self.now.lines.items c.push_reserved.new.self.items c.args.self.now.places c.insert.new.self c.args.line = record {
      is = c.push_reserved.ensures.items ∙ ap (λ (ls : List ArenaLine). ls ++ c.args.line ∷ []) c.in_ok-reserve.ensures.items;
      found = c.args.self.now.found;
      used = c.args.self.now.used;
      named = c.args.self.now.named;
      fresh = c.requires.fresh;
      updates = subst (λ (p : ℕ). Updates name_cmp c.args.self.now.places c.insert.new.self (name_of c.args.line) (Some p)) (omega (arith, ap length c.in_ok-reserve.ensures.items)) c.in_ok-insert.ensures.updates;
    } in record {
      spelled = each_more a ArenaLineHolds c.args.self.now.spelled c.requires.spelled;
      found = found_more a;
      used = used_more a;
      named = named_more a;
    }
