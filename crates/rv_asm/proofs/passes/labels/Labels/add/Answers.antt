use Rattle.std.proofs.Common.{◌≡◌, true, false, [], ◌∷◌, ◌++◌, Some, sym, ◌∙◌, ap}
use Rattle.std.specs.Prelude.{is_some}
use Rattle.std.specs.Ordering.{nat_cmp}
use Rattle.std.specs.Cmp.Lexicographic.{slice_cmp}
use Rattle.std.specs.BTreeMap.{get_by, UpdatesBy}
use Rattle.rv_asm.proofs.SpotLemmas.{finds-later, finds-first}
use Rattle.rv_asm.proofs.passes.labels.Labels.add.Goals as goal
use Rattle.rv_asm.proofs.passes.labels.Labels.add.Goals.{then-not-contains_key+in_ok-insert, else-not-contains_key}

pub invariant_of-self-2 : goal.invariant_of-self-2
invariant_of-self-2 c = elim c.if-not-contains_key.branch [
  | then-not-contains_key+in_ok-insert w ↦
      let items : c.push_reserved.new.self.items ≡ c.self.inside.order.items ++ c.args.label ∷ [] =
      c.push_reserved.ensures.items ∙ ap (λ s. s.order.items ++ c.args.label ∷ []) w.self-inside-is ∙ ap (λ xs. xs ++ c.args.label ∷ []) c.reserve.ensures.items in
      let absent : is_some (get_by (λ key. slice_cmp nat_cmp c.args.label.name key.now) c.self.inside.first) ≡ false =
      rw (← c.as_bytes-name.ensures.value) (sym c.contains_key.ensures ∙ w.if-not-contains_key.true) in
      let updates : UpdatesBy (λ x y. slice_cmp nat_cmp x.now y.now) (λ key. slice_cmp nat_cmp c.args.label.name key.now) c.self.inside.first w.insert.new.self (Some c.args.label.spot) =
      rw (← c.as_bytes-name.ensures.value) ((w.in_ok-insert.ensures {u = tt}).updates) in
      rw (items, w.self-inside-is) (finds-first c.self.inside.first w.insert.new.self c.self.inside.order.items c.args.label absent updates c.self.invariant)
  | else-not-contains_key w ↦
      let items : c.push_reserved.new.self.items ≡ c.self.inside.order.items ++ c.args.label ∷ [] =
      c.push_reserved.ensures.items ∙ ap (λ s. s.order.items ++ c.args.label ∷ []) w.self-inside-is ∙ ap (λ xs. xs ++ c.args.label ∷ []) c.reserve.ensures.items in
      let there : is_some (get_by (λ key. slice_cmp nat_cmp c.args.label.name key.now) c.self.inside.first) ≡ true =
      rw (← c.as_bytes-name.ensures.value) (sym c.contains_key.ensures ∙ w.if-not-contains_key.false) in
      rw (items, w.self-inside-is) (finds-later c.self.inside.first c.self.inside.order.items c.args.label there c.self.invariant)
]
